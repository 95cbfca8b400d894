-- Sections of two files by their names, and their entries as settings.
use Rattle.std.specs.Prelude.{ℕ, Bool, ◌&&◌, List, map, flat_map, Option}
use Rattle.std.specs.Cow.{cow_slice_items}
use Rattle.std.specs.Option.{option_copied, option_cmp, option_eq, option_map}
use Rattle.std.specs.Str.{bytes_eq}
use Rattle.std.specs.Cmp.Lexicographic.{slice_cmp}
use Rattle.std.specs.Ordering.{is_lt, nat_cmp, ordering_then}
use Rattle.std.specs.declared.cmp.Ordering.{Ordering}
use Rattle.gitconf_text.specs.Bytes.{fold}
use Rattle.gitconf_text.specs.Document.{DocumentEntry}
use Rattle.gitconf_text.specs.Header.{name_of, subsection_of}
use Rattle.gitconf_text.specs.Value.{plain}
use Rattle.gitconf_items.specs.Items.{items_of}
use Rattle.gitconf_state.specs.State.{SectionState, entries_of}
use Rattle.gitconf_diff.specs.PlainSettings.{PlainSetting}
use Rattle.gitconf_diff.specs.declared.sections.SideSection.{SideSection}
use Rattle.gitconf_diff.specs.declared.setting.Side.{Side}

-- the names of a section: its own, and that of the subsection, if there is one
pub record Heading : Type 0 where
  pub section : List ℕ
  pub subsection : Option (List ℕ)

-- a section of one of two files: its names, its number there, and its entries
pub record PlainSection : Type 0 where
  pub heading : Heading
  pub side : Side
  pub number : ℕ
  pub entries : List DocumentEntry

-- the names of a section of the program
abbrev pub heading : SideSection → Heading
heading s = record { section = cow_slice_items s.name; subsection = option_copied s.subsection_name }

-- a section of the program
abbrev pub plain_section : SideSection → PlainSection
plain_section s = record { heading = heading s; side = s.side; number = s.section; entries = entries_of (items_of s.buffer.now s.items.now) }

-- sections of the program
abbrev pub plain_sections : List SideSection → List PlainSection
plain_sections sections = map plain_section sections

-- a section of a file: its names in lower case, the subsection as it is
abbrev pub sided : Side → SectionState → PlainSection
sided side s = record { heading = record { section = fold (name_of s.header); subsection = subsection_of s.header }; side = side; number = s.number; entries = entries_of s.items }

-- the same names, byte by byte
abbrev pub same_heading : Heading → Heading → Bool
same_heading g h = bytes_eq g.section h.section && option_eq bytes_eq g.subsection h.subsection

-- the order of names: by the section's own, and then by the subsection, where none is first
abbrev pub heading_cmp : Heading → Heading → Ordering
heading_cmp g h = ordering_then (slice_cmp nat_cmp g.section h.section) (option_cmp (slice_cmp nat_cmp) g.subsection h.subsection)

-- a section is before another by their names
abbrev pub is_before : SideSection → SideSection → Bool
is_before s t = is_lt (heading_cmp (heading s) (heading t))

-- entries of the same name, without case, that mean the same
abbrev pub same_entry : DocumentEntry → DocumentEntry → Bool
same_entry e f = bytes_eq (fold e.name) (fold f.name) && option_eq bytes_eq (option_map plain e.raw) (option_map plain f.raw)

-- the setting of an entry of a section
abbrev pub setting_in : PlainSection → DocumentEntry → PlainSetting
setting_in s e = record {
  names = record { section = s.heading.section; subsection = s.heading.subsection; name = fold e.name };
  side = s.side;
  section = s.number;
  value = option_map plain e.raw;
}

-- the settings of a section, in order
abbrev pub settings_of_one : PlainSection → List PlainSetting
settings_of_one s = map (setting_in s) s.entries

-- the settings of sections, in order
abbrev pub settings_in : List PlainSection → List PlainSetting
settings_in sections = flat_map settings_of_one sections
