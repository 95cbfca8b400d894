-- Sections that a call hands out.
use Rattle.std.specs.Prelude.{◌≡◌}
use Rattle.gix_config_c.specs.Blocks.{LieAt}
use Rattle.gix_config_c.specs.EntryPlaces.{LieAtIf}
use Rattle.gix_config_c.specs.Origins.{source_number, trust_number}
use Rattle.gix_config_c.specs.declared.section.Section.{Section}
use Rattle.gix_config_c.specs.declared.section.SectionPlace.{SectionPlace}

-- the names of the section lie there, and the numbers say where it comes from and how many entries it has
pub record SectionLiesAt (section : Section) (place : SectionPlace) : Type 0 where
  pub name : LieAt section.name place.name
  pub subsection : LieAtIf section.subsection place.has_subsection place.subsection
  pub path : LieAtIf section.path place.has_path place.path
  pub source : place.source ≡ source_number section.source
  pub level : place.level ≡ section.level
  pub trust : place.trust ≡ trust_number section.trust
  pub entries : place.entries ≡ section.entries
