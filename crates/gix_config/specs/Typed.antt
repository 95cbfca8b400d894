-- What lookups of paths, booleans and integers return.
use Rattle.std.specs.Prelude.{◌≡◌, ◌≢◌, ◌⊎◌, ℕ, ℤ, Bool, true, List, [], ◌∷◌, Option, Some, None, Result, Ok, Err, codes}
use Rattle.std.specs.Option.{option_map}
use Rattle.std.specs.declared.vec.Vec.{Vec}
use Rattle.gitconf_text.specs.Typed.{boolean_of}
use Rattle.gitconf_text.specs.ValueErrors.{ValueError, refused, wanting}
use Rattle.gitconf_values.specs.Integers.{integer_or_refusal}
use Rattle.gitconf_sources.specs.Key.{Key}
use Rattle.gitconf_sources.specs.Metadata.{Meta}
use Rattle.gitconf_state.specs.State.{State}
use Rattle.gitconf_lookups.specs.Lookups.{IsFound, if_any, implicit_at, value_at, values_at}

-- the boolean of an entry by what it means, or its refusal: true if the entry has no value
abbrev pub boolean_or_refusal : Option (List ℕ) → Result Bool ValueError
boolean_or_refusal None = Ok true
boolean_or_refusal (Some value) = elim (boolean_of value) [ Some b ↦ Ok b | None ↦ Err (refused (codes "not a boolean") value) ]

-- the integers of all values, or the refusal of the first that has none
abbrev pub integers_or_refusal : List (List ℕ) → Result (List ℤ) ValueError
integers_or_refusal [] = Ok []
integers_or_refusal (value ∷ values) = elim (integer_or_refusal value) [
  | Err e ↦ Err e
  | Ok n ↦ elim (integers_or_refusal values) [ Err e ↦ Err e | Ok ns ↦ Ok (n ∷ ns) ]
]

-- What was found is returned in its type, or refused, if there is something; or memory ran out, if there is something.
abbrev pub IsReadAs : {A B T : Type 0} → (told : A → Result B ValueError) → (shown : T → B) → Option A → Result (Option T) ValueError → Type 0
IsReadAs told shown value (Ok found) = option_map told value ≡ option_map (λ t. Ok (shown t)) found
IsReadAs told shown value (Err e) = (option_map told value ≡ Some (Err e)) ⊎ ((value ≢ None) × (e ≡ wanting))

-- the result is the last value of the key as a path, if there is one
abbrev pub IsPath : {E : Type 0} → Key → (keeps : Meta → Bool) → State → Result (Option (List ℕ)) E → Type 0
IsPath key keeps state result = IsFound (λ path. path) result (value_at key keeps state)

-- What an entry means as a boolean, if there is one; or memory ran out, if it has a value.
abbrev pub IsEntryBoolean : Option (Option (List ℕ)) → Result (Option Bool) ValueError → Type 0
IsEntryBoolean value (Ok found) = option_map boolean_or_refusal value ≡ option_map Ok found
IsEntryBoolean value (Err e) = (option_map boolean_or_refusal value ≡ Some (Err e)) ⊎ ((text : List ℕ) × (value ≡ Some (Some text)) × (e ≡ wanting))

-- the result is what the key's last entry means as a boolean, if there is one
abbrev pub IsBoolean : Key → (keeps : Meta → Bool) → State → Result (Option Bool) ValueError → Type 0
IsBoolean key keeps state result = IsEntryBoolean (implicit_at key keeps state) result

-- the result is the last value of the key as an integer, if there is one
abbrev pub IsInteger : Key → (keeps : Meta → Bool) → State → Result (Option ℤ) ValueError → Type 0
IsInteger key keeps state result = IsReadAs integer_or_refusal (λ n. n) (value_at key keeps state) result

-- the results are all values of the key as integers, if there are some
abbrev pub AreIntegers : {Z : Type 0} → Key → (keeps : Meta → Bool) → State → Result (Option (Vec ℤ Z)) ValueError → Type 0
AreIntegers {Z = Z} key keeps state result = IsReadAs integers_or_refusal (λ (ns : Vec ℤ Z). ns.items) (if_any (values_at key keeps state)) result
