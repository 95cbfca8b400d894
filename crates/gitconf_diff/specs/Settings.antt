-- The settings of a file's sections, as plain values.
use Rattle.std.specs.Prelude.{List, map, flat_map}
use Rattle.std.specs.Option.{option_map}
use Rattle.gitconf_text.specs.Bytes.{fold}
use Rattle.gitconf_text.specs.Document.{DocumentEntry}
use Rattle.gitconf_text.specs.Header.{name_of, subsection_of}
use Rattle.gitconf_text.specs.Value.{plain}
use Rattle.gitconf_diff.specs.PlainSettings.{PlainSetting}
use Rattle.gitconf_diff.specs.declared.setting.Side.{Side}
use Rattle.gitconf_state.specs.State.{SectionState, entries_of}

-- the setting of an entry of a section: both names in lower case, the subsection as it is, and what the entry means, if it has `=`
abbrev pub setting_of : Side → SectionState → DocumentEntry → PlainSetting
setting_of side s e = record {
  names = record { section = fold (name_of s.header); subsection = subsection_of s.header; name = fold e.name };
  side = side;
  section = s.number;
  value = option_map plain e.raw;
}

-- the settings of a section, in order
abbrev pub section_settings : Side → SectionState → List PlainSetting
section_settings side s = map (setting_of side s) (entries_of s.items)

-- the settings of sections, in order
abbrev pub settings_of : Side → List SectionState → List PlainSetting
settings_of side sections = flat_map (section_settings side) sections
