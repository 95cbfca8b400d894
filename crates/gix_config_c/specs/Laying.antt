-- How sections are laid out in the arrays of a view: where the bytes and rows of each go, behind those that are there.
use Rattle.std.specs.Prelude.{◌++◌, ◌∷◌, [], ◌==◌, ◌&&◌, ◌-◌, ℕ, Bool, false, not, nat_le, nat_eq, List, length, drop, slice_get, Option, Some, None, is_some, if◌then◌else◌}
use Rattle.std.specs.List.{starts_with}
use Rattle.std.specs.Option.{option_map}
use Rattle.gitconf_sources.specs.Metadata.{Meta}
use Rattle.gitconf_state.specs.State.{SectionState, entries_of}
use Rattle.gitconf_text.specs.Document.{DocumentEntry}
use Rattle.gitconf_text.specs.Header.{name_of, subsection_of}
use Rattle.gitconf_text.specs.Value.{plain}
use Rattle.gix_config_c.specs.Origins.{source_number, trust_number}
use Rattle.gix_config_c.specs.Views.{Rows}
use Rattle.gix_config_c.specs.declared.view.OriginRow.{OriginRow}
use Rattle.gix_config_c.specs.declared.view.Part.{Part}
use Rattle.gix_config_c.specs.declared.view.SectionRow.{SectionRow}

-- no rows
abbrev pub no_rows : Rows
no_rows = record { text = []; entries = []; origins = []; sections = [] }

-- the part that is bytes put behind a text
abbrev pub part_for : (text bytes : List ℕ) → Part
part_for text bytes = record { at = length text; len = length bytes }

-- the same for bytes that there may be
abbrev pub part_if : (text : List ℕ) → Option (List ℕ) → Part
part_if text (Some bytes) = part_for text bytes
part_if text None = record { at = 0; len = 0 }

-- bytes put behind a text, and a zero byte behind them
abbrev pub with_bytes : (text bytes : List ℕ) → List ℕ
with_bytes text bytes = (text ++ bytes) ++ 0 ∷ []

-- the same for bytes that there may be
abbrev pub with_bytes_if : (text : List ℕ) → Option (List ℕ) → List ℕ
with_bytes_if text (Some bytes) = with_bytes text bytes
with_bytes_if text None = text

-- what an entry means, if it has `=`
abbrev pub meant : DocumentEntry → Option (List ℕ)
meant e = option_map plain e.raw

-- an entry laid out: its name, and what it means
abbrev pub with_entry : Rows → DocumentEntry → Rows
with_entry r e = record r {
  text = with_bytes_if (with_bytes r.text e.name) (meant e);
  entries = r.entries ++ record { name = part_for r.text e.name; value = part_if (with_bytes r.text e.name) (meant e); has_value = is_some (meant e) } ∷ [];
}

-- entries laid out, one after the other
unfoldable pub with_entries : Rows → List DocumentEntry → Rows
with_entries r [] = r
with_entries r (e ∷ es) = with_entries (with_entry r e) es

-- whether a zero byte is at a place
abbrev pub is_zero : Option ℕ → Bool
is_zero (Some byte) = byte == 0
is_zero None = false

-- whether the bytes are the part of a text, and a zero byte is behind them
abbrev pub is_part : (text : List ℕ) → Part → (bytes : List ℕ) → Bool
is_part text part bytes = nat_le part.at (length text) && (((part.len == length bytes) && starts_with nat_eq (drop part.at text) bytes) && is_zero (slice_get (drop part.at text) (length bytes)))

-- whether a row has the path
abbrev pub same_path : (text : List ℕ) → OriginRow → Option (List ℕ) → Bool
same_path text row (Some path) = row.has_path && is_part text row.path path
same_path text row None = not row.has_path

-- whether a row says the metadata
abbrev pub says : (text : List ℕ) → OriginRow → Meta → Bool
says text row meta = ((same_path text row meta.path && (row.source == source_number meta.source)) && (row.level == meta.level)) && (row.trust == trust_number meta.trust)

-- the place of a row, if there is one and it says the metadata
abbrev pub said_at : (text : List ℕ) → Option OriginRow → (at : ℕ) → Meta → Option ℕ
said_at text None at meta = None
said_at text (Some row) at meta = if says text row meta then Some at else None

-- the place of the last origin, if it says the metadata
abbrev pub said_last : Rows → Meta → Option ℕ
said_last r meta = said_at r.text (slice_get r.origins (length r.origins - 1)) (length r.origins - 1) meta

-- the row of metadata that is laid out
abbrev pub origin_row : (text : List ℕ) → Meta → OriginRow
origin_row text meta = record { path = part_if text meta.path; has_path = is_some meta.path; source = source_number meta.source; level = meta.level; trust = trust_number meta.trust }

-- the place of the metadata: the last one if that says it, else a new one behind all others
abbrev pub origin_at : Rows → Meta → ℕ
origin_at r meta = elim (said_last r meta) [ Some at ↦ at | None ↦ length r.origins ]

-- the rows with that place
abbrev pub with_origin : Rows → Meta → Rows
with_origin r meta = elim (said_last r meta) [
  | Some at ↦ r
  | None ↦ record r { text = with_bytes_if r.text meta.path; origins = r.origins ++ origin_row r.text meta ∷ [] }
]

-- the row of a section whose metadata is at a place
abbrev pub section_row : Rows → (origin : ℕ) → SectionState → SectionRow
section_row r origin s = record {
  name = part_for r.text (name_of s.header);
  subsection = part_if (with_bytes r.text (name_of s.header)) (subsection_of s.header);
  has_subsection = is_some (subsection_of s.header);
  origin = origin;
  entries_at = length r.entries;
  entries_len = length (entries_of s.items);
  number = s.number;
}

-- the rows with the names of a section behind their text
abbrev pub with_names : Rows → SectionState → Rows
with_names r s = record r { text = with_bytes_if (with_bytes r.text (name_of s.header)) (subsection_of s.header) }

-- a row put behind those of the other sections
abbrev pub with_row : SectionRow → Rows → Rows
with_row row r = record r { sections = r.sections ++ row ∷ [] }

-- a section laid out: where it comes from, its names, and its entries
abbrev pub with_section : Rows → SectionState → Rows
with_section r s = with_row (section_row (with_origin r s.meta) (origin_at r s.meta) s) (with_entries (with_names (with_origin r s.meta) s) (entries_of s.items))

-- sections laid out, one after the other
unfoldable pub with_sections : Rows → List SectionState → Rows
with_sections r [] = r
with_sections r (s ∷ ss) = with_sections (with_section r s) ss
