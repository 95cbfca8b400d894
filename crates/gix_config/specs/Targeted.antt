-- The entries of an editor of several values.
use Rattle.std.specs.Prelude.{ℕ, ◌+◌, List, ◌++◌, get_or, map, take, drop}
use Rattle.gitconf_store.specs.Several.{moved_up}

-- the name as it was given, and the places of the entries, in order: each by the number of its section and its place among the items there
pub record Targeted : Type 0 where
  pub key : List ℕ
  pub places : List (ℕ × ℕ)

-- the place of one of the entries
abbrev pub place_at : List (ℕ × ℕ) → (index : ℕ) → ℕ × ℕ
place_at places index = get_or places index (0, 0)

-- the places of the others, after one of the entries was removed
abbrev pub without_place : (index : ℕ) → List (ℕ × ℕ) → List (ℕ × ℕ)
without_place index places = map (moved_up (place_at places index)) (take index places ++ drop (index + 1) places)
