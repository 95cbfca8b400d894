-- The refusal of each cause, as the error of the call.
use Rattle.std.specs.Prelude.{ℕ}
use Rattle.gitconf_text.specs.declared.parse.section.header.Error.{Error as HeaderError}
use Rattle.gitconf_text.specs.declared.parse.section.header.Error.TheVariants as headers
use Rattle.gitconf_body.specs.declared.value.Error.{Error as ValueError}
use Rattle.gitconf_body.specs.declared.value.Error.TheVariants as values
use Rattle.gitconf_body.specs.Done.{Cause, InvalidKey, InvalidName, InvalidSubsection, OutOfMemory}

-- of a span
abbrev pub span_refusal : Cause → ℕ
span_refusal OutOfMemory = 27
span_refusal cause = 3

-- of a value that is written
abbrev pub value_refusal : Cause → ValueError
value_refusal InvalidKey = values.ValueName 6
value_refusal OutOfMemory = values.Memory
value_refusal cause = values.Span 3

-- of a header that is made
abbrev pub header_refusal : Cause → HeaderError
header_refusal InvalidName = headers.InvalidName
header_refusal InvalidSubsection = headers.InvalidSubSection
header_refusal OutOfMemory = headers.Memory
header_refusal cause = headers.Span 3
