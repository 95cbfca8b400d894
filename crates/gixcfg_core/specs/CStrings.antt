-- Texts as git hands them on: C strings, which end at their first byte 0.
-- Source: what git 2.39 and 2.47 print and compare, tried with values, keys and patterns.
use Rattle.std.specs.Prelude.{ℕ, Bool, ◌==◌, List}
use Rattle.std.specs.List.{list_any}
use Rattle.gixcfg_core.specs.Line.{up_to}

-- the byte ends a C string
abbrev pub is_null : ℕ → Bool
is_null b = b == 0

-- what stands before the first byte 0 of a text, or all of it where there is none
abbrev pub c_string : List ℕ → List ℕ
c_string = up_to is_null

-- a text has a byte 0
abbrev pub has_null : List ℕ → Bool
has_null text = list_any is_null text
