-- The table of a matcher: which cells its rows have.
use Rattle.std.specs.Prelude.{◌≡◌, ℕ, zero, suc, ◌+◌, ◌≤◌, Bool, true, false, List, [], ◌∷◌, ◌==◌, All, map, length, get_or, drop}
use Rattle.gitconf_glob.specs.Pattern.{fronts, fit}
use Rattle.gitconf_glob.specs.Cursor.{matches_after}

-- the suffixes of a text, the whole text first and the empty one last
unfoldable pub tails : List ℕ → List (List ℕ)
tails [] = [] ∷ []
tails (b ∷ text) = (b ∷ text) ∷ tails text

-- a pattern's row: for each suffix of the text, whether the pattern matches it
abbrev pub cells : (ignore_case fresh : Bool) (pattern text : List ℕ) → List Bool
cells ignore_case fresh pattern text = map (matches_after ignore_case 0 fresh pattern) (tails text)

-- the rows of a pattern's suffixes, the whole pattern's first
unfoldable pub rows_of : (ignore_case fresh : Bool) (pattern text : List ℕ) → List (List Bool)
rows_of ignore_case fresh [] text = cells ignore_case fresh [] text ∷ []
rows_of ignore_case fresh (b ∷ p) text = cells ignore_case fresh (b ∷ p) text ∷ rows_of ignore_case (b == 47) p text

-- the place i of a pattern follows `/`; for its start, `fresh` says it
abbrev pub is_fresh_at : (fresh : Bool) (i : ℕ) (pattern : List ℕ) → Bool
is_fresh_at fresh zero pattern = fresh
is_fresh_at fresh (suc i) pattern = get_or pattern i 0 == 47

-- A table has a row for each place of the pattern and one for its end, each with a cell for each place of the text and one for
-- its end. A cell says whether the pattern from its place on matches the text from its place on.
pub record IsTable (ignore_case : Bool) (pattern text : List ℕ) (rows : List (List Bool)) : Type 0 where
  pub rows_count : length rows ≡ length pattern + 1
  pub cells_count : All (λ row. length row ≡ length text + 1) rows
  pub cell : (i j : ℕ) → i ≤ length pattern → j ≤ length text
      → get_or (get_or rows i []) j false ≡ fit ignore_case (fronts (length pattern) (is_fresh_at true i pattern) (drop i pattern)) (drop j text)
