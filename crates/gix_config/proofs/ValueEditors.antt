-- Editors of values that are made.
use Rattle.std.proofs.Common.{◌≡◌, ℕ, Some, refl, ap, sym, ◌∙◌}
use Rattle.gitconf_state.specs.Edit.{Spacing, spacing_of}
use Rattle.gitconf_state.specs.Edits.{items_of_numbered, numbered}
use Rattle.gitconf_state.specs.State.{SectionState, State}

-- the blanks of the section of a number are those of its items
pub blanks_numbered : (id : ℕ) (state : State) (s : SectionState) (blanks : Spacing) → numbered id state ≡ Some s → blanks ≡ spacing_of s.items
    → blanks ≡ spacing_of (items_of_numbered id state)
blanks_numbered id state s blanks there told = told ∙ sym (ap spacing_of items)
  where
    items : items_of_numbered id state ≡ s.items
    items = rw (there, items_of_numbered) refl
