-- The types that values are asked for in, by the names that `git config --type` has for them.
use Rattle.std.specs.Prelude.{◌==◌, ℕ, Bool as Truth, List, Option, Some, None, if◌then◌else◌, codes}
use Rattle.std.specs.Str.{bytes_eq}
use Rattle.gixcfg_words.specs.declared.kinds.Kind.{Kind}
use Rattle.gixcfg_words.specs.declared.kinds.Kind.TheVariants.{Bool, Int, BoolOrInt, BoolOrStr, Path, ExpiryDate, Color}

-- the type of a name
abbrev pub kind_named : List ℕ → Option Kind
kind_named word =
    if bytes_eq word (codes "bool") then Some Bool
    else if bytes_eq word (codes "int") then Some Int
    else if bytes_eq word (codes "bool-or-int") then Some BoolOrInt
    else if bytes_eq word (codes "bool-or-str") then Some BoolOrStr
    else if bytes_eq word (codes "path") then Some Path
    else if bytes_eq word (codes "expiry-date") then Some ExpiryDate
    else if bytes_eq word (codes "color") then Some Color
    else None

-- types are told apart by number
abbrev pub kind_number : Kind → ℕ
kind_number Bool = 0
kind_number Int = 1
kind_number BoolOrInt = 2
kind_number BoolOrStr = 3
kind_number Path = 4
kind_number ExpiryDate = 5
kind_number Color = 6

abbrev pub is_same_kind : Kind → Kind → Truth
is_same_kind one other = kind_number one == kind_number other
