-- Entries that variables of the environment set.
-- Source: git-config's manual page, under "ENVIRONMENT". Keys and values that aren't UTF-8 are refused.
use Rattle.std.specs.Prelude.{◌≡◌, ◌⊎◌, ◌==◌, ◌<◌, ◌^◌, ℕ, true, List, ◌++◌, codes, decimal, Option, Some, None, Result, Ok, Err, IfErr, string_bytes}
use Rattle.std.specs.Result.{OkIff}
use Rattle.std.specs.Str.Parse.{digits_value, IsNumeral, without_leading_plus}
use Rattle.gitconf_sources.specs.Reports.{HasText, May, NoText, NotSet, VariableReport}
use Rattle.gitconf_loaders.specs.Refused.{BadCount, NoKey, NotText, NoValue, OutOfMemory, Refused}

-- how many entries there are: none if the variable isn't set to a text; otherwise digits, with an optional plus, below 2 to the 64th, or
-- it is no count
abbrev pub IsCountOf : VariableReport → Result ℕ Refused → Type 0
IsCountOf NotSet r = r ≡ Ok 0
IsCountOf NoText r = r ≡ Ok 0
IsCountOf (HasText text) r =
    OkIff r (IsNumeral 10 (without_leading_plus text) × (digits_value 10 (without_leading_plus text) < 2 ^ 64)) (digits_value 10 (without_leading_plus text))
    × IfErr r (λ why. why ≡ BadCount text)

-- the name of the variable that has an entry's key, counted from 0
abbrev pub key_variable : (index : ℕ) → List ℕ
key_variable index = codes "GIT_CONFIG_KEY_" ++ decimal index

-- the name of the variable that has an entry's value, counted from 0
abbrev pub value_variable : (index : ℕ) → List ℕ
value_variable index = codes "GIT_CONFIG_VALUE_" ++ decimal index

-- the key that the variable of an entry has; refused if that isn't set, or isn't UTF-8
abbrev pub reported_key : (index : ℕ) → VariableReport → Result (List ℕ) Refused
reported_key index (HasText text) = Ok text
reported_key index NotSet = Err (NoKey index)
reported_key index NoText = Err (NotText index (codes "key"))

-- the value that its variable has; one that isn't UTF-8 is refused later, when it is put into its section
abbrev pub reported_value : (index : ℕ) → VariableReport → Result (Option (List ℕ)) Refused
reported_value index (HasText text) = Ok (Some text)
reported_value index NotSet = Err (NoValue index)
reported_value index NoText = Ok None

-- what is returned for a variable that is asked once; memory may run out
abbrev pub IsAnswer : {T : Type 0} → Option (List ℕ → VariableReport) → (name : List ℕ) → (VariableReport → Result T Refused → Type 0) → Result T Refused → Type 0
IsAnswer variables name gives r = (r ≡ Err OutOfMemory) ⊎ (told : VariableReport) × May variables (λ var. told ≡ var name) × gives told r

-- what `GIT_CONFIG_COUNT` gives
abbrev pub IsCount : Option (List ℕ → VariableReport) → Result ℕ Refused → Type 0
IsCount variables = IsAnswer variables (codes "GIT_CONFIG_COUNT") IsCountOf

-- what the variable of an entry's key gives
abbrev pub IsKeyAt : Option (List ℕ → VariableReport) → (index : ℕ) → Result (List ℕ) Refused → Type 0
IsKeyAt variables index = IsAnswer variables (key_variable index) (λ told r. r ≡ reported_key index told)

-- what the variable of an entry's value gives
abbrev pub IsValueAt : Option (List ℕ → VariableReport) → (index : ℕ) → Result (Option (List ℕ)) Refused → Type 0
IsValueAt variables index = IsAnswer variables (value_variable index) (λ told r. r ≡ reported_value index told)
