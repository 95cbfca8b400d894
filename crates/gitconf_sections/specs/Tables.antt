-- When the places and words that a table keeps besides its sections are right.
use Rattle.std.specs.Prelude.{◌≡◌, ◌≢◌, ℕ, ◌<◌, List, map, length, slice_index}
use Rattle.gitconf_text.specs.Sections.{SectionEntry, IsNumbered}
use Rattle.gitconf_items.specs.declared.items.Item.{Item}
use Rattle.gitconf_sections.specs.declared.row.Row.{Row}
use Rattle.gitconf_sections.specs.Rows.{entries_of, RowsFit}
use Rattle.gitconf_sections.specs.Section.{AreListed}
use Rattle.gitconf_sections.specs.Word.{full_word, name_word}

-- the numbers in file order
abbrev pub numbers_of : {T : Type 0} → List (SectionEntry T) → List ℕ
numbers_of entries = map (λ e. e.number) entries

-- no number is at two places
abbrev pub AreApart : List ℕ → Type 0
AreApart numbers = (i k : ℕ) → i < k → k < length numbers → slice_index numbers i ≢ slice_index numbers k

-- for the first `count` numbers, the place of each is written down
abbrev pub ArePlacedTo : ℕ → List ℕ → List ℕ → Type 0
ArePlacedTo count numbers places = (k : ℕ) → k < count → slice_index places (slice_index numbers k) ≡ k

-- for each number, its place is written down
abbrev pub ArePlaced : List ℕ → List ℕ → Type 0
ArePlaced numbers places = ArePlacedTo (length numbers) numbers places

-- the word of a section's name, made from a seed
abbrev pub word_of_name : {T : Type 0} → (seed : ℕ) → SectionEntry T → ℕ
word_of_name seed e = name_word seed e.name

-- the word of a section's name and subsection, made from a seed
abbrev pub word_of_names : {T : Type 0} → (seed : ℕ) → SectionEntry T → ℕ
word_of_names seed e = full_word seed e.name e.subsection

-- the numbers are in order, each number has its place, and each section has its words
pub record IsTable {T : Type 0} (seed next : ℕ) (entries : List (SectionEntry T)) (places words full_words : List ℕ) : Type 0 where
  pub numbered : IsNumbered (record { entries = entries; next = next })
  pub counted : length places ≡ next
  pub placed : ArePlaced (numbers_of entries) places
  pub names : words ≡ map (word_of_name seed) entries
  pub full : full_words ≡ map (word_of_names seed) entries

-- what is kept besides the rows is right, their names are among the letters, and their bodies are apart in the shared list
pub record IsKept (seed next : ℕ) (letters : List ℕ) (list : List Item) (rows : List Row) (places words full_words : List ℕ) : Type 0 where
  pub table : IsTable seed next (entries_of letters list rows) places words full_words
  pub fit : RowsFit (length letters) rows
  pub listed : AreListed 0 (length list) rows
