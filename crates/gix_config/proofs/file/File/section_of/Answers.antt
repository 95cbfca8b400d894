use Rattle.std.proofs.Common.{sym, ap, ◌∙◌}
use Rattle.std.specs.Prelude.{option_map}
use Rattle.gitconf_views.specs.Views.{shown}
use Rattle.gitconf_store.specs.Edited.{has_number}
use Rattle.gix_config.proofs.Numbers.{number_missing}
use Rattle.gix_config.proofs.file.File.section_of.Goals as goal

pub unreachable-requires : goal.unreachable-requires
unreachable-requires c =
    number_missing c.args.id c.self.inside.store (ap (has_number c.args.id) c.self.view_is ∙ c.requires)
    (sym c.section_by_id.ensures ∙ ap (option_map shown) c.in-None.is)
