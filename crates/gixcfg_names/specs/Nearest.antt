-- The name that a name was meant to be: of the names in its section the first of those that fewest letters tell from it.
use Rattle.std.specs.Prelude.{◌==◌, ◌&&◌, not, ◌+◌, leb, ltb, ℕ, List, [], ◌∷◌, length, Option, Some, None, if◌then◌else◌}
use Rattle.std.specs.Str.{chars}
use Rattle.strsim.specs.Edits.{osa_table}
use Rattle.gitconf_sources.specs.Key.{Key}
use Rattle.gitconf_text.specs.Bytes.{fold}
use Rattle.gixcfg_names.specs.Known.{is_any, is_beside}
use Rattle.gixcfg_names.specs.Rows.{Known, plain}
use Rattle.gixcfg_names.specs.declared.nearest.Near.{Near}

-- how many letters have to be put in, left out, changed or swapped, without case
abbrev pub distance : (name other : List ℕ) → ℕ
distance name other = (osa_table (chars (fold name)) (chars (fold other))).last_row (length (chars (fold other)))

-- how many letters of a name of this length may be wrong
abbrev pub most_for : ℕ → ℕ
most_for count = if leb count 5 then 1 else if leb count 8 then 2 else 3

-- a row with its distance
pub record Beside : Type 0 where
  pub row : Known
  pub distance : ℕ

abbrev pub near : Near → Beside
near n = record { row = plain n.row; distance = n.distance }

-- the rows in the section of a key that have a name of their own
unfoldable pub all_beside : List Known → Key → List Beside
all_beside [] key = []
all_beside (row ∷ rows) key =
    if is_beside row.key key && not (is_any row.key.name)
    then record { row = row; distance = distance key.name row.key.name } ∷ all_beside rows key
    else all_beside rows key

-- the least distance, if it is less than that
unfoldable pub fewest : (from : ℕ) → List Beside → ℕ
fewest from [] = from
fewest from (n ∷ ns) = fewest (if ltb n.distance from then n.distance else from) ns

-- the first row at a distance
unfoldable pub first_at : (distance : ℕ) → List Beside → Option Known
first_at count [] = None
first_at count (n ∷ ns) = if n.distance == count then Some n.row else first_at count ns

-- the nearest of rows, none of which is further than that
abbrev pub nearest_within : (most : ℕ) → List Beside → Option Known
nearest_within most ns = let count = fewest (most + 1) ns in if ltb most count then None else first_at count ns

abbrev pub nearest : List Known → Key → Option Known
nearest rows key = nearest_within (most_for (length key.name)) (all_beside rows key)
