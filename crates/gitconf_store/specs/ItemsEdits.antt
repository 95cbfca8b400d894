-- The items of one section changed.
use Rattle.std.specs.Prelude.{ℕ, List}
use Rattle.gitconf_state.specs.State.{State, with_items, with_sections}
use Rattle.gitconf_text.specs.Part as parts
use Rattle.gitconf_store.specs.Edits.{update_at}

-- the state with a change of the items of the section at a place
abbrev pub changed_at_place : (at : ℕ) → (List parts.Item → List parts.Item) → State → State
changed_at_place at change state = with_sections (update_at at (with_items change) state.sections) state
