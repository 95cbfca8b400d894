use Rattle.std.proofs.Common.{subst, ℕ, List, Option}
use Rattle.std.specs.Option.{option_copied}
use Rattle.gitconf_state.specs.Edits.{RenameAll}
use Rattle.gitconf_state.specs.State.{State}
use Rattle.gitconf_store.specs.Edited.{IsEdited}
use Rattle.gitconf_store.specs.RenameErrors.{rename_refusal}
use Rattle.gix_config.specs.Renamed.{IsRenamedOfSome}
use Rattle.gix_config.proofs.file.File.rename_section_filter.Goals as goal

pub returns-clause-exact : goal.returns-clause-exact
returns-clause-exact g c = λ keeps h.
    subst (λ (p : State × Option (List ℕ)). IsEdited rename_refusal (RenameAll c.args.name.now (option_copied c.args.subsection_name) keeps c.args.new_name.now p.1) c.rename_section_filter.result p.0 c.rename_section_filter.new.self)
    (λ i. (c.self.view_is i, c.bytes_of.ensures i)) (c.rename_section_filter.ensures.exact keeps h)

pub returns-clause-some : goal.returns-clause-some
returns-clause-some g c =
    let told = c.rename_section_filter.ensures in
    subst (λ (p : State × Option (List ℕ)). IsRenamedOfSome c.args.name.now (option_copied c.args.subsection_name) c.args.new_name.now p.1 c.rename_section_filter.result p.0 c.rename_section_filter.new.self)
    (λ i. (c.self.view_is i, c.bytes_of.ensures i)) (record { renamed = told.some; put = told.put; err = told.err; told = told.told })
