-- What setting a value changes: the key's last entry in the last section of the name, and nothing else.
use Rattle.std.proofs.Common.{◌≡◌, ℕ, Bool, true, false, List, [], ◌∷◌, ◌++◌, Option, Some, None, refl, ap, ◌∙◌}
use Rattle.std.specs.Prelude.{◌+◌}
use Rattle.std.specs.List.{list_any, last_or}
use Rattle.std.specs.Prelude.{filter}
use Rattle.gitconf_text.specs.Part.{Item}
use Rattle.gitconf_sources.specs.Metadata.{Meta}
use Rattle.gitconf_state.specs.State.{SectionState, State}
use Rattle.gitconf_state.specs.LineEnds.{file_line_end}
use Rattle.gitconf_state.specs.Edit.{update_last, is_entry_of, spacing_of, with_value, new_entry, set_value, item_raw, old_value, new_section, is_target, section_with, set_raw_value, replaced_value}
use Rattle.gitconf_state.specs.Editors.{value_set}
use Rattle.gitconf_state.proofs.Edits.Lists.{any_at, update_last_at, last_passing, filter_none}

-- A body in which the key's last entry is here: it alone is changed.
pub set_value_at : (line_end key value : List ℕ) (items before : List Item) (i : Item) (behind : List Item) → items ≡ before ++ i ∷ behind
    → is_entry_of key i ≡ true → list_any (is_entry_of key) behind ≡ false
    → set_value line_end key value items ≡ before ++ with_value (spacing_of items) value i ∷ behind
set_value_at line_end key value items before i behind is passes none =
    let some : list_any (is_entry_of key) items ≡ true = ap (list_any (is_entry_of key)) is ∙ any_at (is_entry_of key) before i behind passes in
    let same : set_value line_end key value items ≡ update_last (is_entry_of key) (with_value (spacing_of items) value) items = rw (some, value_set) refl in
    same ∙ ap (update_last (is_entry_of key) (with_value (spacing_of items) value)) is
    ∙ update_last_at (is_entry_of key) (with_value (spacing_of items) value) before i behind passes none

-- A body without an entry of the key gets a new one after all others.
pub set_value_new : (line_end key value : List ℕ) (items : List Item) → list_any (is_entry_of key) items ≡ false
    → set_value line_end key value items ≡ items ++ new_entry (spacing_of items) line_end key value
set_value_new line_end key value items none = rw (none, value_set) refl

-- The old value is the raw text of the key's last entry.
pub old_value_at : (key : List ℕ) (items before : List Item) (i : Item) (behind : List Item) → items ≡ before ++ i ∷ behind
    → is_entry_of key i ≡ true → list_any (is_entry_of key) behind ≡ false → old_value key items ≡ Some (item_raw i)
old_value_at key items before i behind is passes none =
    ap (old_value key) is ∙ found (last_or None (filter (is_entry_of key) (before ++ i ∷ behind))) (last_passing (is_entry_of key) None before i behind passes none)
  where
    found : (o : Option Item) → o ≡ Some i → elim o as (λ _. Option (List ℕ)) [ None ↦ None | Some i ↦ Some (item_raw i) ] ≡ Some (item_raw i)
    found o e = rw e refl

-- Without an entry of the key there is none.
pub old_value_none : (key : List ℕ) (items : List Item) → list_any (is_entry_of key) items ≡ false → old_value key items ≡ None
old_value_none key items none = rw (filter_none (is_entry_of key) items none, old_value) refl

-- Where a section is the target, the last one has the value, and all else stays.
pub set_raw_value_at : (name : List ℕ) (subsection : Option (List ℕ)) (key : List ℕ) (keeps : Meta → Bool) (value : List ℕ) (state : State)
    (before : List SectionState) (s : SectionState) (behind : List SectionState) → state.sections ≡ before ++ s ∷ behind
    → is_target name subsection keeps s ≡ true → list_any (is_target name subsection keeps) behind ≡ false
    → set_raw_value name subsection key keeps value state
    ≡ record { front = state.front; meta = state.meta; next = state.next; used = state.used; sections = before ++ section_with (file_line_end state) key value s ∷ behind }
set_raw_value_at name subsection key keeps value state before s behind is passes none =
    let some : list_any (is_target name subsection keeps) state.sections ≡ true =
    ap (list_any (is_target name subsection keeps)) is ∙ any_at (is_target name subsection keeps) before s behind passes in
    let same : set_raw_value name subsection key keeps value state ≡ with_sections (update_last (is_target name subsection keeps) (section_with (file_line_end state) key value) state.sections)
    = rw (some, set_raw_value) refl in
    same ∙ ap with_sections (ap (update_last (is_target name subsection keeps) (section_with (file_line_end state) key value)) is
    ∙ update_last_at (is_target name subsection keeps) (section_with (file_line_end state) key value) before s behind passes none)
  where
    with_sections : List SectionState → State
    with_sections sections = record { front = state.front; meta = state.meta; next = state.next; used = state.used; sections = sections }

-- If none is, a new one with the value follows all others.
pub set_raw_value_new : (name : List ℕ) (subsection : Option (List ℕ)) (key : List ℕ) (keeps : Meta → Bool) (value : List ℕ) (state : State)
    → list_any (is_target name subsection keeps) state.sections ≡ false
    → set_raw_value name subsection key keeps value state
    ≡ record {
      front = state.front;
      meta = state.meta;
      next = state.next + 1;
      used = state.used;
      sections = state.sections ++ section_with (file_line_end state) key value (new_section name subsection state) ∷ [];
    }
set_raw_value_new name subsection key keeps value state none = rw (none, set_raw_value) refl

-- What is replaced is the old value of the last target, if there is one.
pub replaced_value_at : (name : List ℕ) (subsection : Option (List ℕ)) (key : List ℕ) (keeps : Meta → Bool) (state : State)
    (before : List SectionState) (s : SectionState) (behind : List SectionState) → state.sections ≡ before ++ s ∷ behind
    → is_target name subsection keeps s ≡ true → list_any (is_target name subsection keeps) behind ≡ false
    → replaced_value name subsection key keeps state ≡ old_value key s.items
replaced_value_at name subsection key keeps state before s behind is passes none =
    found (last_or None (filter (is_target name subsection keeps) state.sections))
    (ap (λ sections. last_or None (filter (is_target name subsection keeps) sections)) is ∙ last_passing (is_target name subsection keeps) None before s behind passes none)
  where
    found : (o : Option SectionState) → o ≡ Some s → elim o as (λ _. Option (List ℕ)) [ None ↦ None | Some s ↦ old_value key s.items ] ≡ old_value key s.items
    found o e = rw e refl

pub replaced_value_none : (name : List ℕ) (subsection : Option (List ℕ)) (key : List ℕ) (keeps : Meta → Bool) (state : State)
    → list_any (is_target name subsection keeps) state.sections ≡ false → replaced_value name subsection key keeps state ≡ None
replaced_value_none name subsection key keeps state none = rw (filter_none (is_target name subsection keeps) state.sections none, replaced_value) refl

-- The front, where the file comes from and the bytes of its buffer stay.
pub set_raw_value_file : (name : List ℕ) (subsection : Option (List ℕ)) (key : List ℕ) (keeps : Meta → Bool) (value : List ℕ) (state : State)
    → ((set_raw_value name subsection key keeps value state).front ≡ state.front)
    × ((set_raw_value name subsection key keeps value state).meta ≡ state.meta)
    × ((set_raw_value name subsection key keeps value state).used ≡ state.used)
set_raw_value_file name subsection key keeps value state = go (list_any (is_target name subsection keeps) state.sections) refl
  where
    go : (t : Bool) → list_any (is_target name subsection keeps) state.sections ≡ t
        → ((set_raw_value name subsection key keeps value state).front ≡ state.front)
        × ((set_raw_value name subsection key keeps value state).meta ≡ state.meta)
        × ((set_raw_value name subsection key keeps value state).used ≡ state.used)
    go true e = rw (e, set_raw_value) (refl, refl, refl)
    go false e = rw (e, set_raw_value) (refl, refl, refl)
