-- What a call that may be refused leaves, and why it is refused.
use Rattle.std.specs.Prelude.{◌≡◌, ◌+◌, ◌^◌, ◌&&◌, ℕ, Bool, true, not, leb, List, [], ◌∷◌, ◌++◌, find, Option, Some, None, Result, Ok, Err, IfErr, IsErrOf, OnErr, OnOk}
use Rattle.std.specs.Option.{option_map}
use Rattle.gitconf_text.specs.Names.{is_made_name, is_valid_or_none, is_value_name}
use Rattle.gitconf_state.specs.Edit.{header_bytes}
use Rattle.gitconf_state.specs.Lookup.{Miss}

-- why an edit is refused: what it is of is missing, a name is invalid, no place is left for the bytes or for the section, or memory ran out
pub data Cause : Type 0 where
  Missing : Miss → Cause
  InvalidKey : Cause
  InvalidName : Cause
  InvalidSubsection : Cause
  TooLarge : Cause
  OutOfMemory : Cause

-- the first of the causes that holds; they are in the order in which they are asked, each with whether it holds
abbrev pub first_cause : List (Bool × Cause) → Option Cause
first_cause causes = option_map (λ c. c.1) (find (λ c. c.0) causes)

-- the refusal for that cause; if there is none, only for want of memory
abbrev pub IsRefusedFor : {T E : Type 0} → (refusal : Cause → E) → Option Cause → Result T E → Type 0
IsRefusedFor refusal (Some cause) result = IsErrOf result (refusal cause)
IsRefusedFor refusal None result = IfErr result (λ e. e ≡ refusal OutOfMemory)

-- what a check returns: the refusal for that cause, if there is one
abbrev pub checked : {E : Type 0} → (refusal : Cause → E) → Option Cause → Result (Unit {0}) E
checked refusal None = Ok tt
checked refusal (Some cause) = Err (refusal cause)

-- A call was done, or it was refused and has changed nothing. It is refused if one of its causes holds, by the refusal of the first; or for want
-- of memory.
pub record IsDone {S T E : Type 0} (causes : List (Bool × Cause)) (refusal : Cause → E) (result : Result T E) (done old new : S) : Type 0 where
  pub ok : OnOk result (new ≡ done)
  pub err : OnErr result (new ≡ old)
  pub told : IsRefusedFor refusal (first_cause causes) result

-- a buffer of `used` bytes has no room for that many more
abbrev pub is_full : (used count : ℕ) → Bool
is_full used count = leb (2 ^ 32) (used + count)

-- the cause for so many bytes
abbrev pub room_causes : (used count : ℕ) → List (Bool × Cause)
room_causes used count = (is_full used count, TooLarge) ∷ []

-- the causes for an entry of this name that takes so many bytes
abbrev pub key_causes : (key : List ℕ) → (used count : ℕ) → List (Bool × Cause)
key_causes key used count = (not (is_value_name key), InvalidKey) ∷ room_causes used count

-- the causes for a header that is made, if one is
abbrev pub header_causes : (is_made : Bool) → (name : List ℕ) → (subsection : Option (List ℕ)) → List (Bool × Cause)
header_causes is_made name subsection = (is_made && not (is_made_name name), InvalidName) ∷ (is_made && not (is_valid_or_none subsection), InvalidSubsection) ∷ []

-- the causes for a header that is made, with its bytes after `used` others
abbrev pub heading_causes : (name : List ℕ) → (subsection : Option (List ℕ)) → (used : ℕ) → List (Bool × Cause)
heading_causes name subsection used = header_causes true name subsection ++ room_causes used (header_bytes name subsection)
