-- Values in git's types: what is printed, and what is stored.
-- Source: the manual page of `git-config`, "Values", and what `git config --type` of 2.47 does.
use Rattle.std.specs.Prelude.{◌≡◌, ℕ, ℤ, Bool, true, ◌==◌, if◌then◌else◌, List, [], ◌∷◌, ◌++◌, Option, Some, None, Result, Ok, Err, take, codes}
use Rattle.std.specs.Fmt.{signed_decimal}
use Rattle.std.specs.Str.{bytes_eq}
use Rattle.bstr.specs.declared.bstring.BString.{BString}
use Rattle.bstr.specs.Owned.{bstring_bytes}
use Rattle.gixcfg_words.specs.declared.kinds.Kind.{Kind}
use Rattle.gixcfg_words.specs.declared.kinds.Kind.TheVariants as kinds
use Rattle.gixcfg_core.specs.declared.typed.Fault.{Fault}
use Rattle.gixcfg_core.specs.declared.typed.Fault.TheVariants as faults
use Rattle.gixcfg_core.specs.declared.typed.Refusal.{Refusal}
use Rattle.gixcfg_core.specs.declared.typed.Refusal.TheVariants as refusals
use Rattle.gixcfg_core.specs.Numbers.{boolean_named, boolean_of, integer_of}

-- a call gives that text or is refused so, or memory ran out
abbrev pub Gives : Result BString Fault → (answer : Result (List ℕ) Refusal) → Type 0
Gives (Ok text) answer = answer ≡ Ok (bstring_bytes text)
Gives (Err faults.Memory) answer = Unit {0}
Gives (Err (faults.Refused refusal)) answer = answer ≡ Err refusal

-- a call is refused so, if it is
abbrev pub RefusedAs : Result BString Fault → (refusal : Refusal) → Type 0
RefusedAs (Ok text) refusal = Unit {0}
RefusedAs (Err faults.Memory) refusal = Unit {0}
RefusedAs (Err (faults.Refused r)) refusal = r ≡ refusal

-- a boolean as it is printed
abbrev pub bool_text : Bool → List ℕ
bool_text b = if b then codes "true" else codes "false"

-- a boolean as it is printed, or the refusal if there is none
abbrev pub boolean_or : (refusal : Refusal) → Option Bool → Result (List ℕ) Refusal
boolean_or refusal None = Err refusal
boolean_or refusal (Some b) = Ok (bool_text b)

-- an integer as it is printed, or the refusal if there is none
abbrev pub number_or : (refusal : Refusal) → Option ℤ → Result (List ℕ) Refusal
number_or refusal None = Err refusal
number_or refusal (Some n) = Ok (signed_decimal n)

-- a boolean that a word names as it is printed, else an integer
abbrev pub boolean_or_number : Option Bool → Option ℤ → Result (List ℕ) Refusal
boolean_or_number None n = number_or refusals.BooleanOrInteger n
boolean_or_number (Some b) n = Ok (bool_text b)

-- a boolean as it is printed, else the text
abbrev pub boolean_or_text : Option Bool → (value : List ℕ) → List ℕ
boolean_or_text None value = value
boolean_or_text (Some b) value = bool_text b

-- a slash or nothing comes first
abbrev pub ends_name : List ℕ → Bool
ends_name [] = true
ends_name (b ∷ rest) = b == 47

-- what follows a tilde, behind the home folder
abbrev pub below_home : (home : Option (List ℕ)) (rest : List ℕ) → Result (List ℕ) Refusal
below_home None rest = Err refusals.HomeFolder
below_home (Some folder) rest = Ok (folder ++ rest)

-- the path of a value, with the home folder in place of a tilde before a slash or the end
abbrev pub path_of : (home : Option (List ℕ)) (value : List ℕ) → Result (List ℕ) Refusal
path_of home [] = Ok []
path_of home (b ∷ rest) =
    if b == 126 then (if ends_name rest then below_home home rest else Err refusals.UserFolder)
    else if bytes_eq (take 10 (b ∷ rest)) (codes "%(prefix)/") then Err refusals.InstallFolder
    else Ok (b ∷ rest)

-- what is printed of a value in a type
abbrev pub IsPrinted : (kind : Kind) (home : Option (List ℕ)) (value : List ℕ) → Result BString Fault → Type 0
IsPrinted kinds.Bool home value result = Gives result (boolean_or refusals.Boolean (boolean_of value))
IsPrinted kinds.Int home value result = Gives result (number_or refusals.Integer (integer_of 9223372036854775807 value))
IsPrinted kinds.BoolOrInt home value result = Gives result (boolean_or_number (boolean_named value) (integer_of 2147483647 value))
IsPrinted kinds.BoolOrStr home value result = Gives result (Ok (boolean_or_text (boolean_of value) value))
IsPrinted kinds.Path home value result = Gives result (path_of home value)
IsPrinted kinds.ExpiryDate home value result = RefusedAs result refusals.Date
IsPrinted kinds.Color home value result = RefusedAs result refusals.Color

-- what is printed in a type where there is no value
abbrev pub of_none : (kind : Kind) → Result (List ℕ) Refusal
of_none kinds.Bool = Ok (bool_text true)
of_none kinds.Int = Err refusals.Integer
of_none kinds.BoolOrInt = Ok (bool_text true)
of_none kinds.BoolOrStr = Ok (bool_text true)
of_none kinds.Path = Err refusals.Path
of_none kinds.ExpiryDate = Err refusals.Date
of_none kinds.Color = Err refusals.Color

-- what is printed in a type of a value, or of none
abbrev pub IsTyped : (kind : Kind) (home value : Option (List ℕ)) → Result BString Fault → Type 0
IsTyped kind home None result = Gives result (of_none kind)
IsTyped kind home (Some value) result = IsPrinted kind home value result

-- the value itself is stored, or it is refused as a color
abbrev pub IsColorKept : (value : List ℕ) → Result BString Fault → Type 0
IsColorKept value (Ok text) = bstring_bytes text ≡ value
IsColorKept value (Err faults.Memory) = Unit {0}
IsColorKept value (Err (faults.Refused refusal)) = refusal ≡ refusals.Color

-- what is stored of a value in a type
abbrev pub IsStored : (kind : Kind) (value : List ℕ) → Result BString Fault → Type 0
IsStored kinds.Path value result = Gives result (Ok value)
IsStored kinds.ExpiryDate value result = Gives result (Ok value)
IsStored kinds.Color value result = IsColorKept value result
IsStored kind value result = IsPrinted kind None value result
