-- What two files mean differently, as a call hands it out.
use Rattle.std.specs.Prelude.{◌≡◌}
use Rattle.gitconf_diff.specs.PlainSettings.{same_side}
use Rattle.gitconf_diff.specs.declared.setting.Side.TheVariants.{Other}
use Rattle.gix_config_c.specs.EntryPlaces.{LiesAt}
use Rattle.gix_config_c.specs.declared.difference.Difference.{Difference}
use Rattle.gix_config_c.specs.declared.difference.DifferencePlace.{DifferencePlace}

-- it is told whose entry it is, and where its parts lie
pub record DifferenceLiesAt (difference : Difference) (place : DifferencePlace) : Type 0 where
  pub side : place.is_other ≡ same_side Other difference.side
  pub entry : LiesAt difference.entry place.entry
