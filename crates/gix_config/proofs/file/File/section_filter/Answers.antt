use Rattle.std.proofs.Common.{true, subst}
use Rattle.std.specs.Option.{option_copied}
use Rattle.gitconf_lookups.specs.Picks.{IsPassingSection}
use Rattle.gitconf_lookups.specs.SomeSections.{WithSome}
use Rattle.gix_config.proofs.file.File.section_filter.Goals as goal

pub returns-clause-filtered : goal.returns-clause-filtered
returns-clause-filtered g c =
    let told = c.section_filter.ensures.filtered in
    record {
      exact = λ keeps h.
          subst (λ s. IsPassingSection c.args.name.now (option_copied c.args.subsection_name) s keeps s c.section_filter.result) c.self.view_is (told.exact keeps h);
      some = subst (λ state. WithSome (λ s. IsPassingSection c.args.name.now (option_copied c.args.subsection_name) state (λ _. true) s c.section_filter.result) state)
          c.self.view_is told.some;
    }
