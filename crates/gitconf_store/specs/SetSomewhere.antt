-- A value that is set by its names, whatever a filter answers.
use Rattle.std.specs.Prelude.{◌≡◌, ◌+◌, ℕ, not, true, List, ◌∷◌, slice_get, Option, Some, None, Result, IfOk}
use Rattle.std.specs.Option.{option_map}
use Rattle.bstr.specs.declared.bstring.BString.{BString}
use Rattle.bstr.specs.Owned.{bstring_bytes}
use Rattle.gitconf_text.specs.Names.{is_value_name}
use Rattle.gitconf_body.specs.Done.{InvalidKey, IsDone, key_causes}
use Rattle.gitconf_state.specs.Edit.{new_section_bytes, old_value, set_bytes, with_used}
use Rattle.gitconf_state.specs.LineEnds.{file_line_end}
use Rattle.gitconf_state.specs.Lookup.{is_named, listing}
use Rattle.gitconf_state.specs.State.{SectionState, State}
use Rattle.gitconf_store.specs.declared.set_raw_value.Error.{Error}
use Rattle.gitconf_store.specs.Edited.{made_causes}
use Rattle.gitconf_store.specs.Edits.{set_at, set_new}
use Rattle.gitconf_store.specs.SetErrors.{set_refusal}

-- the value is set in the section at a place, which has the names, or in one that is made
abbrev pub IsSetChosen : (chosen : Option ℕ) → (name : List ℕ) → (subsection : Option (List ℕ)) → (key value : List ℕ) → Result (Option BString) Error → (old new : State) → Type 0
IsSetChosen None name subsection key value result old new =
    IsDone ((not (is_value_name key), InvalidKey) ∷ made_causes name subsection (new_section_bytes (file_line_end old) name subsection key value) old) set_refusal result
    (with_used (old.used + new_section_bytes (file_line_end old) name subsection key value) (set_new name subsection key value old)) old new
    × IfOk result (λ o. o ≡ None)
IsSetChosen (Some at) name subsection key value result old new =
    (s : SectionState) × (slice_get old.sections at ≡ Some s) × (is_named name subsection (listing s) ≡ true)
    × IsDone (key_causes key old.used (set_bytes (file_line_end old) key value s.items)) set_refusal result
    (with_used (old.used + set_bytes (file_line_end old) key value s.items) (set_at at key value old)) old new
    × IfOk result (λ o. option_map bstring_bytes o ≡ old_value key s.items)

-- the same in some section that has the names, or in one that is made
abbrev pub IsSetSomewhere : (name : List ℕ) → (subsection : Option (List ℕ)) → (key value : List ℕ) → Result (Option BString) Error → (old new : State) → Type 0
IsSetSomewhere name subsection key value result old new = (chosen : Option ℕ) × IsSetChosen chosen name subsection key value result old new
