-- The numbers of the reasons why there is no editor.
use Rattle.std.specs.Prelude.{ℕ}
use Rattle.gitconf_lookups.specs.Misses.{existing_number}
use Rattle.gix_config.specs.declared.file.section_mut.making.Error.{Error as NoEditor}
use Rattle.gix_config.specs.declared.file.section_mut.making.Error.TheVariants as no_editor

-- The number of the reason why there is no editor. That no section passes has no number of its own: it counts as that of a missing key, as
-- when sections are renamed.
abbrev pub section_mut_number : NoEditor → ℕ
section_mut_number no_editor.NonePasses = 9
section_mut_number (no_editor.Lookup e) = existing_number e
