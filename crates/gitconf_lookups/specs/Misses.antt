-- How lookups report what is missing.
use Rattle.std.specs.Prelude.{◌≡◌, ◌≢◌, ◌==◌, ℕ, if◌then◌else◌, Option, Some, None, Result, Ok, Err}
use Rattle.gitconf_state.specs.Lookup as state
use Rattle.gitconf_state.specs.Lookup.{Miss}
use Rattle.gitconf_lookups.specs.declared.existing.Error.{Error}
use Rattle.gitconf_lookups.specs.declared.existing.Error.TheVariants.{SectionMissing, SubSectionMissing, KeyMissing, ValueName, Memory}

-- the number of each refusal
abbrev pub existing_number : Error → ℕ
existing_number SectionMissing = 7
existing_number SubSectionMissing = 8
existing_number KeyMissing = 9
existing_number (ValueName number) = number
existing_number Memory = 27

-- the refusal that a refused name of a value becomes: out of memory has a case of its own
abbrev pub of_name : (number : ℕ) → Error
of_name number = if number == 27 then Memory else ValueName number

-- the refusal for what a lookup misses
abbrev pub missing : Miss → Error
missing state.SectionMissing = SectionMissing
missing state.SubSectionMissing = SubSectionMissing
missing state.KeyMissing = KeyMissing

-- The result is what was found, if there is something. If there is nothing, the refusal says what is missing; out of memory comes only if
-- there is something.
abbrev pub IsExisting : {T A : Type 0} → (shown : T → A) → Result T Error → Option A → Miss → Type 0
IsExisting shown (Ok found) value miss = value ≡ Some (shown found)
IsExisting shown (Err Memory) value miss = value ≢ None
IsExisting shown (Err refusal) value miss = (value ≡ None) × (refusal ≡ missing miss)

-- what was found, or the refusal if nothing was
abbrev pub existing_or : {T E : Type 0} → (miss : Error) → Result (Option T) E → Result T Error
existing_or miss (Ok (Some found)) = Ok found
existing_or miss (Ok None) = Err miss
existing_or miss (Err refusal) = Err Memory
