-- What was found, if there is something.
use Rattle.std.specs.Prelude.{◌≡◌, ◌≢◌, List, [], ◌∷◌, Option, Some, None, Result, Ok, Err, option_map}

-- The result is what was found, if there is something; a refusal comes only if there is.
abbrev pub IsFound : {T A E : Type 0} → (shown : T → A) → Result (Option T) E → Option A → Type 0
IsFound shown (Ok found) value = option_map shown found ≡ value
IsFound shown (Err refusal) value = value ≢ None

-- the list, if it has any element
abbrev pub if_any : {A : Type 0} → List A → Option (List A)
if_any [] = None
if_any (x ∷ xs) = Some (x ∷ xs)
