-- Which values are of a type, and which are of a list of words.
-- Source: the manual page of `git-config`, "Values".
use Rattle.std.specs.Prelude.{◌||◌, ℕ, Bool as Truth, true, false, List, [], Option, Some, None, if◌then◌else◌, codes}
use Rattle.std.specs.List.{list_any}
use Rattle.std.specs.Option.{is_some}
use Rattle.std.specs.Str.{bytes_eq}
use Rattle.gitconf_text.specs.Names.{is_same_name}
use Rattle.gixcfg_words.specs.declared.kinds.Kind.{Kind}
use Rattle.gixcfg_words.specs.declared.kinds.Kind.TheVariants.{Bool, Int, BoolOrInt, BoolOrStr, Color}
use Rattle.gixcfg_core.specs.Colors.{is_color}
use Rattle.gixcfg_core.specs.Numbers.{boolean_named, boolean_of, integer_of}
use Rattle.gixcfg_core.specs.Parts.{parts_of}

-- a text writes a value of a type; any is taken for a path or a date
abbrev pub writes : (text : List ℕ) → Kind → Truth
writes text Bool = is_some (boolean_of text)
writes text Int = is_some (integer_of 9223372036854775807 text)
writes text BoolOrInt = is_some (boolean_named text) || is_some (integer_of 2147483647 text)
writes text Color = is_color text
writes text kind = true

-- booleans are of a type
abbrev pub is_of_booleans : Kind → Truth
is_of_booleans Bool = true
is_of_booleans BoolOrInt = true
is_of_booleans BoolOrStr = true
is_of_booleans kind = false

-- a value is of a type; a missing one is a true boolean
abbrev pub is_of : (value : Option (List ℕ)) → Kind → Truth
is_of None kind = is_of_booleans kind
is_of (Some text) kind = writes text kind

-- a value is spelled as a word, without case
abbrev pub is_spelled : (value : Option (List ℕ)) (word : List ℕ) → Truth
is_spelled None word = false
is_spelled (Some text) word = is_same_name text word

-- a value is what a word of a list means: itself, a boolean or an integer
abbrev pub is_word : (value : Option (List ℕ)) (word : List ℕ) → Truth
is_word value word =
    if bytes_eq word (codes "<bool>") then is_of value Bool
    else if bytes_eq word (codes "<int>") then is_of value Int
    else is_spelled value word

-- the words of a list: its parts between commas
abbrev pub words_in : List ℕ → List (List ℕ)
words_in list = parts_of (codes ",") list

-- a value is one of a list of words
abbrev pub is_one_of : (value : Option (List ℕ)) (words : List ℕ) → Truth
is_one_of value words = list_any (is_word value) (words_in words)
