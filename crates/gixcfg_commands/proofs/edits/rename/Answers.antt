use Rattle.std.proofs.Common.{Err, Ok, subst, sym, true}
use Rattle.std.specs.Option.{option_copied}
use Rattle.std.specs.Prelude.{option_map}
use Rattle.bstr.specs.Owned.{bstring_bytes}
use Rattle.gitconf_state.specs.Edits.{RenameAll, apply}
use Rattle.gixcfg_commands.specs.Answered.{IsCarriedOut}
use Rattle.gixcfg_commands.specs.Edits.{trouble_of_renaming, unrenamed}
use Rattle.gixcfg_commands.proofs.Editing.{done_so, refused_so}
use Rattle.gixcfg_commands.proofs.edits.rename.Goals as goal

pub returns-in-Ok : goal.returns-in-Ok
returns-in-Ok c =
    let name = c.args.renaming.now.old.name.now in
    let subsection = option_copied c.args.renaming.now.old.subsection_name in
    let new_name = c.args.renaming.now.new.name.now in
    let file = c.args.file.now in
    subst (λ new. IsCarriedOut (unrenamed name subsection new_name new file) (apply (RenameAll name subsection (λ _. true) new_name new)) (Ok tt) file c.rename_section.new.self) c.in_ok-subsection_name.ensures
    (done_so name subsection new_name (option_map bstring_bytes c.in_ok-subsection_name.subsection_name) file c.rename_section.new.self c.rename_section.result c.rename_section.ensures.exact c.in-Ok.is)

pub returns-in-Err : goal.returns-in-Err
returns-in-Err c =
    let name = c.args.renaming.now.old.name.now in
    let subsection = option_copied c.args.renaming.now.old.subsection_name in
    let new_name = c.args.renaming.now.new.name.now in
    let file = c.args.file.now in
    subst (λ trouble. IsCarriedOut (unrenamed name subsection new_name (option_copied c.args.renaming.now.new.subsection_name) file) (apply (RenameAll name subsection (λ _. true) new_name (option_copied c.args.renaming.now.new.subsection_name))) (Err trouble) file c.rename_section.new.self) (sym c.trouble_of.ensures)
    (subst (λ new. IsCarriedOut (unrenamed name subsection new_name new file) (apply (RenameAll name subsection (λ _. true) new_name new)) (Err (trouble_of_renaming c.in-Err.refusal)) file c.rename_section.new.self) c.in_ok-subsection_name.ensures
    (refused_so name subsection new_name (option_map bstring_bytes c.in_ok-subsection_name.subsection_name) file c.rename_section.new.self c.rename_section.result c.in-Err.refusal c.rename_section.ensures.exact c.in-Err.is))
