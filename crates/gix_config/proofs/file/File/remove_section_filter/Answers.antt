use Rattle.std.proofs.Common.{◌≡◌, true, subst}
use Rattle.std.specs.Option.{option_copied}
use Rattle.std.specs.Prelude.{OnOk}
use Rattle.gitconf_state.specs.Edits.{RemoveSection, apply}
use Rattle.gitconf_lookups.specs.Picks.{picked}
use Rattle.gitconf_lookups.specs.SomeSections.{WithSome}
use Rattle.gitconf_store.specs.Removals.{IsTakenOut}
use Rattle.gix_config.proofs.file.File.remove_section_filter.Goals as goal

pub returns-clause-ok : goal.returns-clause-ok
returns-clause-ok g c = λ keeps h.
    subst (λ s. OnOk c.remove_section_filter.result (c.remove_section_filter.new.self ≡ apply (RemoveSection c.args.name.now (option_copied c.args.subsection_name) keeps) s))
    c.self.view_is (c.remove_section_filter.ensures.ok keeps h)

pub returns-clause-filtered : goal.returns-clause-filtered
returns-clause-filtered g c =
    let told = c.remove_section_filter.ensures.filtered in
    record {
      exact = λ keeps h.
          subst (λ s. IsTakenOut (picked c.args.name.now (option_copied c.args.subsection_name) keeps s) c.remove_section_filter.result s c.remove_section_filter.new.self)
          c.self.view_is (told.exact keeps h);
      some = subst (λ state. WithSome (λ s. IsTakenOut (picked c.args.name.now (option_copied c.args.subsection_name) (λ _. true) s) c.remove_section_filter.result state
          c.remove_section_filter.new.self) state) c.self.view_is told.some;
    }
