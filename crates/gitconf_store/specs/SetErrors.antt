-- What the refusals of setting a raw value are.
use Rattle.std.specs.Prelude.{ℕ, ◌==◌, if◌then◌else◌}
use Rattle.gitconf_text.specs.HeaderErrors.{header_number}
use Rattle.gitconf_text.specs.declared.parse.section.header.Error.{Error as HeaderError}
use Rattle.gitconf_text.specs.declared.parse.section.header.Error.TheVariants as headers
use Rattle.gitconf_store.specs.declared.set_raw_value.Error.{Error}
use Rattle.gitconf_store.specs.declared.set_raw_value.Error.TheVariants.{Lookup, Header, ValueName, Span, Memory}
use Rattle.gitconf_lookups.specs.declared.existing.Error.{Error as ExistingError}
use Rattle.gitconf_lookups.specs.declared.existing.Error.TheVariants as existing
use Rattle.gitconf_body.specs.Done.{Cause, InvalidKey, InvalidName, InvalidSubsection, Missing, OutOfMemory, TooLarge}
use Rattle.gitconf_lookups.specs.Misses.{existing_number, missing}

-- the number of each refusal
abbrev pub set_number : Error → ℕ
set_number (Lookup e) = existing_number e
set_number (Header e) = header_number e
set_number (ValueName number) = number
set_number (Span number) = number
set_number Memory = 27

-- the refusal for that of a lookup; an invalid name and running out of memory have cases of their own
abbrev pub of_existing : ExistingError → Error
of_existing (existing.ValueName number) = ValueName number
of_existing existing.Memory = Memory
of_existing e = Lookup e

-- the refusal for a refused span
abbrev pub of_span : (number : ℕ) → Error
of_span number = if number == 27 then Memory else Span number

-- the refusal for a header that can't be made; a refused span and running out of memory have cases of their own
abbrev pub of_header : HeaderError → Error
of_header (headers.Span number) = of_span number
of_header headers.Memory = Memory
of_header e = Header e

-- the refusal for each cause
abbrev pub set_refusal : Cause → Error
set_refusal (Missing miss) = of_existing (missing miss)
set_refusal InvalidKey = ValueName 6
set_refusal InvalidName = Header headers.InvalidName
set_refusal InvalidSubsection = Header headers.InvalidSubSection
set_refusal TooLarge = Span 3
set_refusal OutOfMemory = Memory
