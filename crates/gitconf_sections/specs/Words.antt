-- Words at the places of a list, and where one is.
use Rattle.std.specs.Prelude.{ℕ, ◌==◌, List, [], ◌∷◌, filter, length, slice_index, slice_set}
use Rattle.std.specs.List.{range_with_len}

-- the words in the order of their places, and how many more may be added without memory
pub record Words : Type 0 where
  pub words : List ℕ
  pub room : ℕ

-- the places with this word, in order, of the `count` places from `from` on
abbrev pub places_in : List ℕ → ℕ → ℕ → ℕ → List ℕ
places_in words word from count = filter (λ at. slice_index words at == word) (range_with_len from count)

-- all places with the word, in order
abbrev pub places_of : ℕ → List ℕ → List ℕ
places_of word words = places_in words word 0 (length words)

-- the words with another word at these places
abbrev pub set_each : (words places : List ℕ) → (word : ℕ) → List ℕ
set_each words [] word = words
set_each words (at ∷ places) word = set_each (slice_set words at word) places word
