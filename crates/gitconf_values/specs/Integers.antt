-- Integers of the code, as the definitions have them.
use Rattle.std.specs.Prelude.{ℕ, ℤ, List, Option, Some, None, Result, Ok, Err, codes}
use Rattle.gitconf_text.specs.Typed as typed
use Rattle.gitconf_text.specs.Typed.{NotAnInteger, IntegerOverflow, integer_of}
use Rattle.gitconf_text.specs.ValueErrors.{ValueError, refused}
use Rattle.gitconf_values.specs.declared.integer.Integer.{Integer}
use Rattle.gitconf_values.specs.declared.integer.Suffix.{Suffix}
use Rattle.gitconf_values.specs.declared.integer.Suffix.TheVariants.{Kibi, Mebi, Gibi}

-- the suffix that the code has read
abbrev pub suffix_read : Option Suffix → Option typed.Suffix
suffix_read None = None
suffix_read (Some Kibi) = Some typed.Kibi
suffix_read (Some Mebi) = Some typed.Mebi
suffix_read (Some Gibi) = Some typed.Gibi

-- the integer that the code has read: its number and its suffix
abbrev pub integer_read : Integer → typed.Integer
integer_read i = record { number = i.value; suffix = suffix_read i.suffix }

-- the integer of a value, or how it is refused
abbrev pub integer_or_refusal : (value : List ℕ) → Result ℤ ValueError
integer_or_refusal value = elim (integer_of value) [
  | Ok n ↦ Ok n
  | Err NotAnInteger ↦ Err (refused (codes "not an integer") value)
  | Err IntegerOverflow ↦ Err (refused (codes "Integer overflow") value)
]
