-- What a `parse::Error` holds, as what it says.
use Rattle.gitconf_read.specs.declared.error.Cause.{Cause}
use Rattle.gitconf_read.specs.declared.error.Cause.TheVariants.{Unexpected, TooLarge, Memory}
use Rattle.gitconf_read.specs.ParseError.{Refusal, unexpected_token, too_large_input, want_of_memory}

-- the refusal that an error holds
abbrev pub refusal_of : Cause → Refusal
refusal_of (Unexpected line expected remaining) = unexpected_token line expected remaining.items
refusal_of (TooLarge size) = too_large_input size
refusal_of Memory = want_of_memory
