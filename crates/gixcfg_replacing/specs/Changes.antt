-- The calls that change a folder, as they are made on it.
use Rattle.std.specs.Prelude.{ℕ, Bool, true, false, List, [], ◌∷◌, ◌++◌, Result, Ok, Err}
use Rattle.std.specs.declared.io.Error.{Error}

pub data Change : Type 0 where
  Making : (name : List ℕ) → Change
  Sharing : (from to : List ℕ) → Change
  Writing : (name text : List ℕ) → Change
  Syncing : (name : List ℕ) → Change
  Renaming : (from to : List ℕ) → Change
  Removing : (name : List ℕ) → Change
  SyncingNames : Change

-- a call's change, if the call was done
abbrev pub if_done : Result (Unit {0}) Error → Change → List Change
if_done (Ok done) change = change ∷ []
if_done (Err error) change = []

-- that of a call that was to make a file, if it did
abbrev pub if_made : Result Bool Error → List ℕ → List Change
if_made (Ok true) name = Making name ∷ []
if_made (Ok false) name = []
if_made (Err error) name = []

-- What may have been made on a folder since it was the first one, the last first, may have been made with these more at last.
abbrev pub MadeSince : {C : Type 0} → (has_made : (first now : C) → List Change → Type 0) → (old new : C) → List Change → Type 0
MadeSince {C} has_made old new since = (first : C) (before : List Change) → has_made first old before → has_made first new (since ++ before)
