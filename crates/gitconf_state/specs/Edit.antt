-- The edit that sets a value by the names of a section and a key, and the words for edits: each is one update of the state, and its result.
-- Source: gix-config.
use Rattle.std.specs.Prelude.{ℕ, ◌+◌, Bool, true, false, List, [], ◌∷◌, ◌++◌, ◌&&◌, filter, Option, Some, None, length, flat_map}
use Rattle.std.specs.List.{last_or, list_any}
use Rattle.gitconf_text.specs.Value.{escaped}
use Rattle.gitconf_text.specs.Header.{Header, PlainHeader, QuotedHeader}
use Rattle.gitconf_text.specs.Part.{Item, LineEndsItem, EntryItem}
use Rattle.gitconf_text.specs.Token.{Token, HeaderToken, NewlineToken, ValueToken, WhitespaceToken, item_tokens, assigned_tokens, filled, spelled_token}
use Rattle.gitconf_items.specs.EventRef.{escaped_subsection}
use Rattle.gitconf_sources.specs.Metadata.{Meta}
pub use Rattle.gitconf_state.specs.Entries.{update_last, is_entry_of, Spacing, blanks_of, before_entry, leading_blanks, blanks_around, separator_blanks, spacing_of, assigned_value, with_value, leading_item, item_raw}
use Rattle.gitconf_state.specs.Editors.{Editor, editor_of_body, line_made, value_set}
use Rattle.gitconf_state.specs.State.{SectionState, State, is_entry, with_items, with_last, with_sections}
use Rattle.gitconf_state.specs.LineEnds.{file_line_end}
use Rattle.gitconf_state.specs.Lookup.{is_named, listing}

-- a body whose last entry of the key has the value, or with a new entry on a line of its own at its end
abbrev pub set_value : (line_end key value : List ℕ) → List Item → List Item
set_value line_end key value items = value_set (editor_of_body line_end items) key value items

-- a new entry on a line of its own
abbrev pub new_entry : Spacing → (line_end key value : List ℕ) → List Item
new_entry spacing line_end key value = line_made (record { spacing = spacing; line_end = line_end; ends = true }) key (Some value) None

-- the raw text of the key's last entry
abbrev pub old_value : (key : List ℕ) → List Item → Option (List ℕ)
old_value key items = elim (last_or None (filter (is_entry_of key) items)) [ None ↦ None | Some i ↦ Some (item_raw i) ]

-- a header that is made: with the subsection, if there is one, in quotes after a space
abbrev pub made_header : (name : List ℕ) → (subsection : Option (List ℕ)) → Header
made_header name None = PlainHeader name
made_header name (Some subsection) = QuotedHeader name (32 ∷ []) (escaped_subsection subsection)

-- a new section: its body is one line ending, and it comes from where the file comes from
abbrev pub new_section : (name : List ℕ) → (subsection : Option (List ℕ)) → State → SectionState
new_section name subsection state = record {
  number = state.next;
  header = made_header name subsection;
  meta = state.meta;
  items = LineEndsItem (file_line_end state) ∷ [];
  held = [];
}

-- a section that has the name and subsection, and whose metadata passes
abbrev pub is_target : (name : List ℕ) → (subsection : Option (List ℕ)) → (keeps : Meta → Bool) → SectionState → Bool
is_target name subsection keeps s = is_named name subsection (listing s) && keeps s.meta

-- a section after the value was set in it
abbrev pub section_with : (line_end key value : List ℕ) → SectionState → SectionState
section_with line_end key value = with_items (set_value line_end key value)

-- the state after the value was set in the last passing section of the name and subsection, or in a new one
abbrev pub set_raw_value : (name : List ℕ) → (subsection : Option (List ℕ)) → (key : List ℕ) → (keeps : Meta → Bool) → (value : List ℕ) → State → State
set_raw_value name subsection key keeps value state = elim (list_any (is_target name subsection keeps) state.sections) [
  | true ↦ with_sections (update_last (is_target name subsection keeps) (section_with (file_line_end state) key value) state.sections) state
  | false ↦ with_last (section_with (file_line_end state) key value (new_section name subsection state)) state
]

-- what `set_raw_value` returns: the raw text that was there, if any
abbrev pub replaced_value : (name : List ℕ) → (subsection : Option (List ℕ)) → (key : List ℕ) → (keeps : Meta → Bool) → State → Option (List ℕ)
replaced_value name subsection key keeps state =
    elim (last_or None (filter (is_target name subsection keeps) state.sections)) [ None ↦ None | Some s ↦ old_value key s.items ]

-- the tokens of a value that is set: also those of `=` and its blanks, if there is no `=`
abbrev pub value_tokens_of : Spacing → (value : List ℕ) → Item → List Token
value_tokens_of spacing value (EntryItem e) = elim e.assigned [
  | Some a ↦ ValueToken (escaped value) ∷ []
  | None ↦ filled WhitespaceToken spacing.before ++ assigned_tokens (assigned_value spacing.behind value)
]
value_tokens_of spacing value i = []

-- the tokens that setting a value with an editor adds: also those of `=` and its blanks, if the entry has none
abbrev pub value_set_tokens : Editor → (key value : List ℕ) → List Item → List Token
value_set_tokens editor key value items = elim (last_or None (filter (is_entry_of key) items)) [
  | None ↦ flat_map item_tokens (line_made editor key (Some value) None)
  | Some i ↦ value_tokens_of editor.spacing value i
]

-- the tokens that setting a value adds to a body
abbrev pub set_tokens : (line_end key value : List ℕ) → List Item → List Token
set_tokens line_end key value items = value_set_tokens (editor_of_body line_end items) key value items

-- the tokens of a new section with the value
abbrev pub new_section_tokens : (line_end name : List ℕ) → (subsection : Option (List ℕ)) → (key value : List ℕ) → List Token
new_section_tokens line_end name subsection key value =
    HeaderToken (made_header name subsection) ∷ NewlineToken line_end ∷ set_tokens line_end key value (LineEndsItem line_end ∷ [])

-- the tokens that setting a value adds to a state
abbrev pub set_raw_value_tokens : (name : List ℕ) → (subsection : Option (List ℕ)) → (key : List ℕ) → (keeps : Meta → Bool) → (value : List ℕ) → State → List Token
set_raw_value_tokens name subsection key keeps value state = elim (last_or None (filter (is_target name subsection keeps) state.sections)) [
  | None ↦ new_section_tokens (file_line_end state) name subsection key value
  | Some s ↦ set_tokens (file_line_end state) key value s.items
]

-- how many bytes tokens have
abbrev pub token_bytes : List Token → ℕ
token_bytes tokens = length (flat_map spelled_token tokens)

-- How many bytes an edit adds to the buffer: those of its tokens that are not there already. The blanks of a body that has
-- entries are used again; otherwise a tab and a space are added, and the space is used on both sides of `=`.
abbrev pub blank_bytes : List Item → ℕ
blank_bytes items = elim (list_any is_entry items) [ true ↦ 0 | false ↦ 2 ]

-- how many bytes setting a value in a body adds to the buffer
abbrev pub set_bytes : (line_end key value : List ℕ) → List Item → ℕ
set_bytes line_end key value items = elim (list_any (is_entry_of key) items) [
  | true ↦ length (escaped value)
  | false ↦ blank_bytes items + (length key + length (escaped value) + length line_end)
]

-- how many bytes a made header adds to the buffer: its brackets and quotes are in no buffer
abbrev pub header_bytes : (name : List ℕ) → (subsection : Option (List ℕ)) → ℕ
header_bytes name None = length name
header_bytes name (Some subsection) = length name + (1 + length (escaped_subsection subsection))

-- how many bytes a new section with the value adds to the buffer
abbrev pub new_section_bytes : (line_end name : List ℕ) → (subsection : Option (List ℕ)) → (key value : List ℕ) → ℕ
new_section_bytes line_end name subsection key value = length line_end + (set_bytes line_end key value (LineEndsItem line_end ∷ []) + header_bytes name subsection)

-- how many bytes setting a value in a state adds to the buffer
abbrev pub set_raw_value_bytes : (name : List ℕ) → (subsection : Option (List ℕ)) → (key : List ℕ) → (keeps : Meta → Bool) → (value : List ℕ) → State → ℕ
set_raw_value_bytes name subsection key keeps value state = elim (last_or None (filter (is_target name subsection keeps) state.sections)) [
  | None ↦ new_section_bytes (file_line_end state) name subsection key value
  | Some s ↦ set_bytes (file_line_end state) key value s.items
]

-- the same state, with a buffer of this many bytes
abbrev pub with_used : (used : ℕ) → State → State
with_used used state = record state { used = used }
