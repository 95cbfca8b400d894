use Rattle.std.proofs.Common.{◌≡◌, true, ap, sym, subst}
use Rattle.std.specs.Option.{option_copied, option_map}
use Rattle.gitconf_views.specs.Views.{shown}
use Rattle.gitconf_store.specs.Edited.{has_number}
use Rattle.gix_config.specs.SectionEditors.{blanks_at}
use Rattle.gix_config.proofs.Standing.{missing_told, named_none, picked_stands}
use Rattle.gix_config.proofs.file.File.blanks_by_names.Goals as goal

pub returns-in-Err-clause-found : goal.returns-in-Err-clause-found
returns-in-Err-clause-found c =
    missing_told (λ f. f) c.in-Err.missing _ _
    (ap (option_map blanks_at) (named_none c.args.name.now (option_copied c.args.subsection_name) (λ _. true) c.args.self.now c.in-Err.ensures.0)) c.in-Err.ensures.1

pub returns-clause-stands : goal.returns-clause-stands
returns-clause-stands c =
    subst (λ n. has_number n c.args.self.now ≡ true) (sym c.id.ensures)
    (picked_stands c.args.name.now (option_copied c.args.subsection_name) (λ _. true) c.args.self.now (shown c.in-Ok.section) c.in-Ok.ensures)
