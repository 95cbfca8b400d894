-- What lookups of values in a type of the caller's return.
use Rattle.std.specs.Prelude.{◌≡◌, ◌≢◌, ◌⊎◌, ℕ, true, List, [], ◌∷◌, map, Option, Some, None, Result, Ok, Err}
use Rattle.std.specs.Option.{option_map}
use Rattle.std.specs.declared.vec.Vec.{Vec}
use Rattle.bstr.specs.declared.bstring.BString.{BString}
use Rattle.bstr.specs.Owned.{bstring_bytes}
use Rattle.gitconf_sources.specs.Key.{Key}
use Rattle.gitconf_state.specs.Lookup.{Miss}
use Rattle.gitconf_state.specs.State.{SectionState, State}
use Rattle.gitconf_views.specs.declared.section.SectionRef.{SectionRef}
use Rattle.gitconf_lookups.specs.Lookups.{miss_at, value_at, value_in, values_at, values_in}
use Rattle.gitconf_lookups.specs.Misses.{missing}
use Rattle.gitconf_views.specs.Views.{shown}
use Rattle.gitconf_loaders.specs.declared.lookup.Error.{Error}
use Rattle.gitconf_loaders.specs.declared.lookup.Error.TheVariants.{ValueMissing, FailedConversion, Memory}

-- The type's own conversion gives this for the value, if there is one.
abbrev pub IsTypeGiven : {R : Type 0} → (gives : BString → R → Type 0) → Option (List ℕ) → R → Type 0
IsTypeGiven gives value result = (text : BString) × (value ≡ Some (bstring_bytes text)) × gives text result

-- The value, if there is one, is converted, or the type refuses it. If there is none, the refusal says what is missing; out of memory
-- comes only if there is one.
abbrev pub IsConvertedTo : {T E : Type 0} → (gives : BString → Result T E → Type 0) → Option (List ℕ) → Miss → Result T (Error E) → Type 0
IsConvertedTo gives value miss (Ok t) = IsTypeGiven gives value (Ok t)
IsConvertedTo gives value miss (Err (FailedConversion e)) = IsTypeGiven gives value (Err e)
IsConvertedTo gives value miss (Err (ValueMissing refusal)) = (value ≡ None) × (refusal ≡ missing miss)
IsConvertedTo gives value miss (Err Memory) = value ≢ None

-- the same, with the value's section
abbrev pub IsConvertedWith : {T E : Type 0} → (gives : BString → Result T E → Type 0) → Option (List ℕ × SectionState) → Miss → Result (T × SectionRef) (Error E) → Type 0
IsConvertedWith gives value miss (Ok found) = IsTypeGiven gives (option_map (λ v. v.0) value) (Ok found.0) × (option_map (λ v. v.1) value ≡ Some (shown found.1))
IsConvertedWith gives value miss (Err (FailedConversion e)) = IsTypeGiven gives (option_map (λ v. v.0) value) (Err e)
IsConvertedWith gives value miss (Err (ValueMissing refusal)) = (value ≡ None) × (refusal ≡ missing miss)
IsConvertedWith gives value miss (Err Memory) = value ≢ None

-- the values are converted, each to the one at its place
abbrev pub AreGiven : {T E : Type 0} → (gives : BString → Result T E → Type 0) → List (List ℕ) → List T → Type 0
AreGiven gives [] [] = Unit {0}
AreGiven gives (value ∷ values) (t ∷ ts) = IsTypeGiven gives (Some value) (Ok t) × AreGiven gives values ts
AreGiven gives _ _ = ⊥

-- this is the type's refusal of the first value that it refuses
abbrev pub FirstRefused : {T E : Type 0} → (gives : BString → Result T E → Type 0) → List (List ℕ) → E → Type 0
FirstRefused gives [] e = ⊥
FirstRefused {T} gives (value ∷ values) e = IsTypeGiven gives (Some value) (Err e) ⊎ (((t : T) × IsTypeGiven gives (Some value) (Ok t)) × FirstRefused gives values e)

-- A list of values is converted, or the type refuses one; or memory ran out.
abbrev pub IsListed : {T E Z : Type 0} → (gives : BString → Result T E → Type 0) → List (List ℕ) → Result (Vec T Z) (Error E) → Type 0
IsListed gives values (Ok ts) = AreGiven gives values ts.items
IsListed gives values (Err (FailedConversion e)) = FirstRefused gives values e
IsListed gives values (Err (ValueMissing refusal)) = ⊥
IsListed gives values (Err Memory) = Unit {0}

-- All values are converted, one or more, or the type refuses one. If there is none, the refusal says what is missing; out of memory
-- comes only if there are some.
abbrev pub AreConverted : {T E Z : Type 0} → (gives : BString → Result T E → Type 0) → List (List ℕ) → Miss → Result (Vec T Z) (Error E) → Type 0
AreConverted gives values miss (Ok ts) = (values ≢ []) × AreGiven gives values ts.items
AreConverted gives values miss (Err (FailedConversion e)) = FirstRefused gives values e
AreConverted gives values miss (Err (ValueMissing refusal)) = (values ≡ []) × (refusal ≡ missing miss)
AreConverted gives values miss (Err Memory) = values ≢ []

-- A list of values is converted, each with its section, or the type refuses one; or memory ran out.
abbrev pub IsListedWith : {T E Z : Type 0} → (gives : BString → Result T E → Type 0) → List (List ℕ × SectionState) → Result (Vec (T × SectionRef) Z) (Error E) → Type 0
IsListedWith gives values (Ok found) = AreGiven gives (map (λ v. v.0) values) (map (λ f. f.0) found.items) × (map (λ v. v.1) values ≡ map (λ f. shown f.1) found.items)
IsListedWith gives values (Err (FailedConversion e)) = FirstRefused gives (map (λ v. v.0) values) e
IsListedWith gives values (Err (ValueMissing refusal)) = ⊥
IsListedWith gives values (Err Memory) = Unit {0}

-- as `AreConverted`, each value with its section
abbrev pub AreConvertedWith : {T E Z : Type 0} → (gives : BString → Result T E → Type 0) → List (List ℕ × SectionState) → Miss → Result (Vec (T × SectionRef) Z) (Error E) → Type 0
AreConvertedWith gives values miss (Ok found) =
    (values ≢ []) × AreGiven gives (map (λ v. v.0) values) (map (λ f. f.0) found.items) × (map (λ v. v.1) values ≡ map (λ f. shown f.1) found.items)
AreConvertedWith gives values miss (Err (FailedConversion e)) = FirstRefused gives (map (λ v. v.0) values) e
AreConvertedWith gives values miss (Err (ValueMissing refusal)) = (values ≡ []) × (refusal ≡ missing miss)
AreConvertedWith gives values miss (Err Memory) = values ≢ []

-- as `IsConvertedTo`, but it is not a refusal that there is no value
abbrev pub IsTried : {T E : Type 0} → (gives : BString → Result T E → Type 0) → Option (List ℕ) → Result (Option T) (Error E) → Type 0
IsTried gives value (Ok (Some t)) = IsTypeGiven gives value (Ok t)
IsTried gives value (Ok None) = value ≡ None
IsTried gives value (Err (FailedConversion e)) = IsTypeGiven gives value (Err e)
IsTried gives value (Err (ValueMissing refusal)) = ⊥
IsTried gives value (Err Memory) = value ≢ None

-- the result is the last value of the key, converted
abbrev pub IsTypedValue : {T E : Type 0} → (gives : BString → Result T E → Type 0) → Key → State → Result T (Error E) → Type 0
IsTypedValue gives key state result = IsConvertedTo gives (value_at key (λ _. true) state) (miss_at key state) result

-- the result is the last value of the key, converted, if there is one
abbrev pub IsTriedValue : {T E : Type 0} → (gives : BString → Result T E → Type 0) → Key → State → Result (Option T) (Error E) → Type 0
IsTriedValue gives key state result = IsTried gives (value_at key (λ _. true) state) result

-- the result is the last value of the key, converted, with its section
abbrev pub IsValueWithSection : {T E : Type 0} → (gives : BString → Result T E → Type 0) → Key → State → Result (T × SectionRef) (Error E) → Type 0
IsValueWithSection gives key state result = IsConvertedWith gives (value_in key (λ _. true) state) (miss_at key state) result

-- the results are all values of the key, converted
abbrev pub AreTypedValues : {T E Z : Type 0} → (gives : BString → Result T E → Type 0) → Key → State → Result (Vec T Z) (Error E) → Type 0
AreTypedValues gives key state result = AreConverted gives (values_at key (λ _. true) state) (miss_at key state) result

-- the results are all values of the key, converted, each with its section
abbrev pub AreValuesWithSections : {T E Z : Type 0} → (gives : BString → Result T E → Type 0) → Key → State → Result (Vec (T × SectionRef) Z) (Error E) → Type 0
AreValuesWithSections gives key state result = AreConvertedWith gives (values_in key (λ _. true) state) (miss_at key state) result
