use Rattle.std.proofs.Common.{ap, sym, ◌∙◌, Some}
use Rattle.std.specs.Option.{option_map}
use Rattle.gitconf_views.specs.Views.{shown}
use Rattle.gitconf_store.proofs.Places.Numbering.{numbered_has}
use Rattle.gix_config.specs.SectionEditors.{blanks_at}
use Rattle.gix_config.proofs.Standing.{number_found}
use Rattle.gix_config.proofs.file.File.blanks_of_numbered.Goals as goal

pub returns-clause-found : goal.returns-clause-found
returns-clause-found c = rw (← c.self.view_is)
    (ap (option_map blanks_at) (sym c.in-Some.ensures)
    ∙ (λ i. Some (numbered_has c.args.id c.self.inside.store (shown c.in-Some.section) c.in-Some.ensures i, sym c.in_ok-blanks.ensures i)))

pub returns-clause-stands : goal.returns-clause-stands
returns-clause-stands c = rw (← c.self.view_is) (number_found c.args.id c.self.inside.store (shown c.in-Some.section) c.in-Some.ensures)
