-- What the rows of a list show: their names are those at their places among the letters, and their bodies those in the shared list.
use Rattle.std.specs.Prelude.{ℕ, ◌+◌, List, [], ◌∷◌, map, slice_get}
use Rattle.std.specs.List.{filter_map, AllByRecursion}
use Rattle.std.specs.Option.{option_map}
use Rattle.gitconf_items.specs.declared.items.Item.{Item}
use Rattle.gitconf_text.specs.Sections.{SectionEntry}
use Rattle.gitconf_sections.specs.declared.row.Row.{Row}
use Rattle.gitconf_sections.specs.Letters.{moved_names, name_part, part_of, subsection_part, NamesFit}
use Rattle.gitconf_sections.specs.Section.{Section, read, rebased}
use Rattle.gitconf_sections.specs.Word.{full_word, name_word}

-- a row as an entry
abbrev pub entry_of_row : (letters : List ℕ) → (list : List Item) → Row → SectionEntry Section
entry_of_row letters list r =
    record { number = r.id; name = part_of letters (name_part r.names); subsection = option_map (part_of letters) (subsection_part r.names); section = read list r }

-- the rows as entries, in file order
abbrev pub entries_of : (letters : List ℕ) → (list : List Item) → List Row → List (SectionEntry Section)
entries_of letters list rows = map (entry_of_row letters list) rows

-- the entries of the rows at these places, as far as there are such rows
abbrev pub entries_at : (letters : List ℕ) → (list : List Item) → List Row → List ℕ → List (SectionEntry Section)
entries_at letters list rows places = filter_map (λ at. option_map (entry_of_row letters list) (slice_get rows at)) places

-- the numbers of the rows
abbrev pub numbers_in : List Row → List ℕ
numbers_in rows = map (λ r. r.id) rows

-- the word of a row's name, made from a seed
abbrev pub row_word : (seed : ℕ) → (letters : List ℕ) → Row → ℕ
row_word seed letters r = name_word seed (part_of letters (name_part r.names))

-- the word of a row's name and subsection, made from a seed
abbrev pub row_full_word : (seed : ℕ) → (letters : List ℕ) → Row → ℕ
row_full_word seed letters r = full_word seed (part_of letters (name_part r.names)) (option_map (part_of letters) (subsection_part r.names))

-- the names of the rows are within that many letters
abbrev pub RowsFit : (count : ℕ) → List Row → Type 0
RowsFit count rows = AllByRecursion (λ r. NamesFit count r.names) rows

-- the rows with the numbers from `next` on, with names whose letters come after `behind` others, and bodies whose list comes after `by` items
abbrev pub moved_rows : (next behind by : ℕ) → List Row → List Row
moved_rows next behind by [] = []
moved_rows next behind by (r ∷ rows) = record r { id = next; names = moved_names behind r.names; body = rebased by r.body } ∷ moved_rows (next + 1) behind by rows
