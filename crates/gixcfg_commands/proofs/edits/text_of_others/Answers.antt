use Rattle.std.proofs.Common.{◌++◌, ◌∙◌, ap, rules}
use Rattle.std.specs.Prelude.{not}
use Rattle.std.specs.Option.{option_copied}
use Rattle.std.proofs.lemmas.Fn.{always_returns_same}
use Rattle.gitconf_state.specs.Lookup.{is_named, listing}
use Rattle.gixcfg_commands.specs.Edits.{others_of}
use Rattle.gixcfg_commands.proofs.Editing.{some_same}
use Rattle.gixcfg_commands.proofs.edits.text_of_others.Goals as goal

pub returns-in-Ok : goal.returns-in-Ok
returns-in-Ok c =
    let name = c.args.names.now.name.now in
    let subsection = option_copied c.args.names.now.subsection_name in
    let written = c.in-Ok.ensures.exact (λ s. not (is_named name subsection (listing s))) (always_returns_same _ _ _ (λ a r f' k. search rules)) in
    some_same _ _ written ∙ ap (λ front. front ++ others_of name subsection c.args.file.now) c.new-text.ensures.items
