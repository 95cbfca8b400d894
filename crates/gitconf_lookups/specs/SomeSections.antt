-- Lookups with a filter that may return something else each time it is asked: they return what they would if the state had only some of its
-- sections.
use Rattle.std.specs.Prelude.{◌≡◌, ◌⊎◌, Bool, true, List, [], ◌∷◌, ◌++◌, Option, Some, None}
use Rattle.gitconf_sources.specs.Metadata.{Meta}
use Rattle.gitconf_state.specs.State.{SectionState, State, with_sections}

-- some of the elements of a list, in their order
abbrev pub AreSome : {A : Type 0} → (all some : List A) → Type 0
AreSome [] some = some ≡ []
AreSome {A} (x ∷ all) some = ((rest : List A) × (some ≡ x ∷ rest) × AreSome all rest) ⊎ AreSome all some

-- The first of the elements after some that are skipped, and those after it; or none is left.
abbrev pub IsBehindSome : {A : Type 0} → (before : List A) → (first : Option A) → (behind : List A) → Type 0
IsBehindSome {A} before (Some x) behind = (skipped : List A) × (before ≡ skipped ++ x ∷ behind)
IsBehindSome before None behind = behind ≡ []

-- The fact holds of the state with some of its sections.
abbrev pub WithSome : (holds : State → Type 0) → State → Type 0
WithSome holds state = (some : List SectionState) × AreSome state.sections some × holds (with_sections some state)

-- What a call with a filter promises: of a filter that answers by what it is shown alone, just what is said with that filter; of any
-- other, what is said without one, as if the file had some of its sections alone.
pub record Filtered (computes : (Meta → Bool) → Type 0) (says : (keeps : Meta → Bool) → State → Type 0) (state : State) : Type 0 where
  pub exact : (keeps : Meta → Bool) → computes keeps → says keeps state
  pub some : WithSome (says (λ _. true)) state
