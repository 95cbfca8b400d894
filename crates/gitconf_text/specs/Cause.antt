-- The numbers and texts that a refusal shows.
use Rattle.std.specs.Prelude.{ℕ, ◌==◌, if◌then◌else◌, List, codes}
use Rattle.gitconf_text.specs.declared.memory.Cause.{Cause}
use Rattle.gitconf_text.specs.declared.memory.Cause.TheVariants.{Refused, Memory}

-- the refusal's own number, or 27 when memory ran out
abbrev pub number_of : ℕ → Cause → ℕ
number_of own Refused = own
number_of own Memory = 27

-- the cause that a number stands for: 27 is out of memory, any other is the refusal's own
abbrev pub cause_of : ℕ → Cause
cause_of number = if number == 27 then Memory else Refused

-- the refusal's own text, or that memory ran out
abbrev pub text_of : List ℕ → Cause → List ℕ
text_of own Refused = own
text_of own Memory = codes "out of memory"
