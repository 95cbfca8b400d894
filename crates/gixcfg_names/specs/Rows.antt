-- The names that git knows.
-- Source: the documentation and the sources of git 2.47, from which tools/git_names makes the table.
use Rattle.std.specs.Prelude.{◌==◌, ltb, length, ℕ, Bool, List, [], ◌∷◌, ◌++◌, Option, Some, None, if◌then◌else◌, codes}
use Rattle.std.specs.Borrow.{Bor}
use Rattle.std.specs.List.{after_first, before_first, position_or_len}
use Rattle.std.specs.Option.{option_and_then, option_map, option_to_list}
use Rattle.std.specs.Str.{bytes_eq}
use Rattle.std.specs.Str.Lines.{lines}
use Rattle.gitconf_sources.specs.Key.{Key, key_of, parsed_key}
use Rattle.gixcfg_words.specs.Kinds.{kind_named}
use Rattle.gixcfg_words.specs.declared.kinds.Kind.{Kind}
use Rattle.gixcfg_names.specs.declared.rows.Row.{Row}
use Rattle.gixcfg_names.specs.declared.table.TheConstants.{TABLE}

-- a name, or a pattern of names; the type of its value; the words that its value is one of; whether only the last of its entries counts; what took its place
pub record Known : Type 0 where
  pub key : Key
  pub kind : Option Kind
  pub words : Option (List ℕ)
  pub is_single : Bool
  pub instead : Option (List ℕ)

-- the same of a row of the program
abbrev pub plain : Row → Known
plain row = record {
  key = key_of row.key;
  kind = row.kind;
  words = option_map (λ text. text.now) row.words;
  is_single = row.is_single;
  instead = option_map (λ text. text.now) row.instead;
}

-- two texts
pub record Halves : Type 0 where
  pub front : List ℕ
  pub back : List ℕ

abbrev pub texts : (_ : Bor (List ℕ)) × Bor (List ℕ) → Halves
texts two = record { front = two.0.now; back = two.1.now }

abbrev pub is_blank : ℕ → Bool
is_blank b = b == 32

-- a text cut at its first blank
abbrev pub cut : List ℕ → Option Halves
cut text = if ltb (position_or_len is_blank text) (length text) then Some (record { front = before_first is_blank text; back = after_first is_blank text }) else None

abbrev pub is_colon : ℕ → Bool
is_colon b = b == 58

-- a text cut at its first colon
abbrev pub cut_at_colon : List ℕ → Option Halves
cut_at_colon text =
    if ltb (position_or_len is_colon text) (length text) then Some (record { front = before_first is_colon text; back = after_first is_colon text }) else None

-- the words that a type lists: what is behind `words:`
abbrev pub words_of : List ℕ → Option (List ℕ)
words_of kind = option_and_then (λ a. if bytes_eq a.front (codes "words") then Some a.back else None) (cut_at_colon kind)

-- what took a name's place; a dash if git still has it
abbrev pub instead_of : List ℕ → Option (List ℕ)
instead_of word = if bytes_eq word (codes "-") then None else Some word

-- a row of these words
abbrev pub row_of_words : (name kind count instead : List ℕ) → Option Known
row_of_words name kind count instead =
    option_map (λ key. record { key = key; kind = kind_named kind; words = words_of kind; is_single = bytes_eq count (codes "last"); instead = instead_of instead })
    (parsed_key name)

-- the row of a line: the name, the type, which entries count, and what took its place, with a blank between them
abbrev pub row_of : List ℕ → Option Known
row_of line = option_and_then (λ a. option_and_then (λ b. option_and_then (λ c. row_of_words a.front b.front c.front c.back) (cut b.back)) (cut a.back)) (cut line)

-- the rows of lines
unfoldable pub rows_of : List (List ℕ) → List Known
rows_of [] = []
rows_of (line ∷ more) = option_to_list (row_of line) ++ rows_of more

-- the names that git knows
abbrev pub git_rows : List Known
git_rows = rows_of (lines TABLE.now)
