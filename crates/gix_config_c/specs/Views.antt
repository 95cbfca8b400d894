-- What a view of a file says: its sections and entries as rows of arrays.
use Rattle.std.specs.Prelude.{◌≡◌, ◌≤◌, ◌+◌, ℕ, Bool, true, false, List, length, take, drop, flat_map, slice_get, Option, Some, None}
use Rattle.std.specs.List.{AllZip}
use Rattle.std.specs.Option.{option_map}
use Rattle.std.specs.Vec.{vec_ptr}
use denote.RawPtr.{null_ptr}
use Rattle.gitconf_sources.specs.Metadata.{Meta}
use Rattle.gitconf_state.specs.State.{SectionState, State, entries_of}
use Rattle.gitconf_text.specs.Document.{DocumentEntry}
use Rattle.gitconf_text.specs.Header.{name_of, subsection_of}
use Rattle.gitconf_text.specs.Value.{plain}
use Rattle.gix_config_c.specs.Origins.{source_number, trust_number}
use Rattle.gix_config_c.specs.declared.object.Object.TheVariants as object
use Rattle.gix_config_c.specs.declared.view.Arrays.{Arrays}
use Rattle.gix_config_c.specs.declared.view.EntryRow.{EntryRow}
use Rattle.gix_config_c.specs.declared.view.OriginRow.{OriginRow}
use Rattle.gix_config_c.specs.declared.view.Part.{Part}
use Rattle.gix_config_c.specs.declared.view.SectionRow.{SectionRow}
use Rattle.gix_config_c.specs.declared.view.View.{View}

-- the arrays as lists: the text that parts are of, and the rows of entries, origins and sections
pub record Rows : Type 0 where
  pub text : List ℕ
  pub entries : List EntryRow
  pub origins : List OriginRow
  pub sections : List SectionRow

-- the arrays as lists
abbrev pub rows : Arrays → Rows
rows a = record { text = a.text.items; entries = a.entries.items; origins = a.origins.items; sections = a.sections.items }

-- the bytes are the part of the text, and a zero byte is behind them
pub record IsPart (text : List ℕ) (part : Part) (bytes : List ℕ) : Type 0 where
  pub same : take part.len (drop part.at text) ≡ bytes
  pub closed : slice_get text (part.at + part.len) ≡ Some 0

-- the same for bytes that there may be
abbrev pub IsPartIf : (text : List ℕ) (is_there : Bool) → Part → Option (List ℕ) → Type 0
IsPartIf text is_there part (Some bytes) = (is_there ≡ true) × IsPart text part bytes
IsPartIf text is_there part None = is_there ≡ false

-- the row says an entry: its name as it is spelled, and what its value means, if it has `=`
pub record IsEntryRow (text : List ℕ) (row : EntryRow) (e : DocumentEntry) : Type 0 where
  pub name : IsPart text row.name e.name
  pub value : IsPartIf text row.has_value row.value (option_map plain e.raw)

-- the row says metadata
pub record IsOriginRow (text : List ℕ) (meta : Meta) (row : OriginRow) : Type 0 where
  pub path : IsPartIf text row.has_path row.path meta.path
  pub source : row.source ≡ source_number meta.source
  pub level : row.level ≡ meta.level
  pub trust : row.trust ≡ trust_number meta.trust

-- the row says a section: its names, the place of its metadata, where its entries stand, and its number
pub record IsSectionRow (r : Rows) (row : SectionRow) (s : SectionState) : Type 0 where
  pub name : IsPart r.text row.name (name_of s.header)
  pub subsection : IsPartIf r.text row.has_subsection row.subsection (subsection_of s.header)
  pub origin : (o : OriginRow) × (slice_get r.origins row.origin ≡ Some o) × IsOriginRow r.text s.meta o
  pub entries : AllZip (IsEntryRow r.text) (take row.entries_len (drop row.entries_at r.entries)) (entries_of s.items)
  pub within : row.entries_at + row.entries_len ≤ length r.entries
  pub number : row.number ≡ s.number

-- the rows are those of the sections and of all their entries, in order
pub record AreRowsOf (all : List SectionState) (r : Rows) : Type 0 where
  pub sections : AllZip (IsSectionRow r) r.sections all
  pub entries : AllZip (IsEntryRow r.text) r.entries (flat_map (λ s. entries_of s.items) all)

-- the view points to the arrays
pub record PointsTo (arrays : Arrays) (view : View) : Type 0 where
  pub sections : (view.sections ≡ vec_ptr arrays.sections) × (view.sections_len ≡ length arrays.sections.items)
  pub entries : (view.entries ≡ vec_ptr arrays.entries) × (view.entries_len ≡ length arrays.entries.items)
  pub origins : (view.origins ≡ vec_ptr arrays.origins) × (view.origins_len ≡ length arrays.origins.items)
  pub text : (view.text ≡ vec_ptr arrays.text) × (view.text_len ≡ length arrays.text.items)
  pub owner : view.owner.it ≡ Some (object.View arrays)

-- number 0 where the view owns arrays that say the sections and entries of the file, in order; else memory ran out
pub record IsView (f : State) (number : ℕ) (view : View) : Type 0 where
  pub done : number ≡ 0 → (arrays : Arrays) × PointsTo arrays view × AreRowsOf f.sections (rows arrays)
  pub short : (number ≡ 0 → ⊥) → number ≡ 27

-- the view points to nothing and owns nothing
pub record IsEmptied (view : View) : Type 0 where
  pub sections : (view.sections ≡ null_ptr) × (view.sections_len ≡ 0)
  pub entries : (view.entries ≡ null_ptr) × (view.entries_len ≡ 0)
  pub origins : (view.origins ≡ null_ptr) × (view.origins_len ≡ 0)
  pub text : (view.text ≡ null_ptr) × (view.text_len ≡ 0)
  pub owner : view.owner.it ≡ None
