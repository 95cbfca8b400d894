-- What the refusals of renaming sections are.
use Rattle.std.specs.Prelude.{ℕ, ◌==◌, if◌then◌else◌}
use Rattle.gitconf_text.specs.HeaderErrors.{header_number}
use Rattle.gitconf_text.specs.declared.parse.section.header.Error.{Error as HeaderError}
use Rattle.gitconf_text.specs.declared.parse.section.header.Error.TheVariants as headers
use Rattle.gitconf_lookups.specs.declared.existing.Error.{Error as LookupError}
use Rattle.gitconf_lookups.specs.declared.existing.Error.TheVariants as lookups
use Rattle.gitconf_store.specs.declared.rename_section.Error.{Error}
use Rattle.gitconf_store.specs.declared.rename_section.Error.TheVariants.{Lookup, Section, Memory}
use Rattle.gitconf_body.specs.Done.{Cause, Missing, OutOfMemory}
use Rattle.gitconf_body.specs.Refusals.{header_refusal}
use Rattle.gitconf_lookups.specs.Misses.{existing_number, missing}

-- the number of each refusal
abbrev pub rename_number : Error → ℕ
rename_number (Lookup e) = existing_number e
rename_number (Section e) = header_number e
rename_number Memory = 27

-- the refusal for what a lookup misses; running out of memory has a case of its own
abbrev pub of_lookup : LookupError → Error
of_lookup lookups.Memory = Memory
of_lookup e = Lookup e

-- the refusal for a header that can't be made
abbrev pub of_header : HeaderError → Error
of_header headers.Memory = Memory
of_header e = Section e

-- the refusal for a refused span
abbrev pub of_span : (number : ℕ) → Error
of_span number = if number == 27 then Memory else Section (headers.Span number)

-- the refusal for each cause
abbrev pub rename_refusal : Cause → Error
rename_refusal (Missing miss) = Lookup (missing miss)
rename_refusal OutOfMemory = Memory
rename_refusal cause = Section (header_refusal cause)
