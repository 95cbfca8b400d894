-- What the refusal of a value says.
use Rattle.std.specs.Prelude.{ℕ, Option, Some, None, List, [], ◌++◌, ◌==◌, if◌then◌else◌, codes}
use Rattle.std.specs.Str.{encode_utf8_all}
use Rattle.bstr.specs.Owned.{bstring_bytes}
use Rattle.bstr.specs.Utf8.{lossy_chars}
use Rattle.gitconf_text.specs.declared.value.refusal.Told.{Told}

-- its number, what is wrong, and the bytes that were refused
pub record ValueError : Type 0 where
  pub number : ℕ
  pub message : List ℕ
  pub input : List ℕ

-- refusal 11 of these bytes, with this message
abbrev pub refused : (message input : List ℕ) → ValueError
refused message input = record { number = 11; message = message; input = input }

-- running out of memory: number 27, without message or bytes
abbrev pub wanting : ValueError
wanting = record { number = 27; message = []; input = [] }

-- what an error of a value shows: refusal 11 with its message and bytes, or that memory ran out
abbrev pub shown : Option Told → ValueError
shown (Some told) = refused told.message.now (bstring_bytes told.input)
shown None = wanting

-- its text, in which what isn't UTF-8 is shown as U+FFFD
abbrev pub value_error_text : ValueError → List ℕ
value_error_text e =
    if e.number == 27 then codes "out of memory"
    else codes "Could not decode '" ++ encode_utf8_all (lossy_chars e.input) ++ codes "': " ++ e.message
