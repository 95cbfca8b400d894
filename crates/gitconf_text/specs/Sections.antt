-- The sections of a file as a plain list in file order.
use Rattle.std.specs.Prelude.{◌≡◌, ℕ, ◌+◌, ◌<◌, ◌≤◌, Bool, false, not, ◌==◌, ◌&&◌, List, [], ◌∷◌, ◌++◌, length, take, drop, Option, map, filter, find, position, zero, suc, slice_get}
use Rattle.std.specs.Option.{option_eq, option_map}
use Rattle.std.specs.List.{AllByRecursion, AllZip}
use Rattle.std.specs.Str.{bytes_eq}
use Rattle.gitconf_text.specs.Bytes.{fold}
use Rattle.gitconf_text.specs.Names.{is_same_name}

-- a section of the list: its number, its name in lower case, its subsection, and what it holds
pub record SectionEntry (T : Type 0) : Type 0 where
  pub number : ℕ
  pub name : List ℕ
  pub subsection : Option (List ℕ)
  pub section : T

-- the sections in file order, and the number that the next one gets
pub record Sections (T : Type 0) : Type 0 where
  pub entries : List (SectionEntry T)
  pub next : ℕ

-- the greatest number, which no section gets
abbrev pub no_number : ℕ
no_number = 18446744073709551615

-- a new section, with its name in lower case
abbrev pub entry_of : {T : Type 0} → ℕ → List ℕ → Option (List ℕ) → T → SectionEntry T
entry_of number name subsection section = record { number = number; name = fold name; subsection = subsection; section = section }

-- each number is below the next one, and no number is given twice
abbrev pub AreNumbered : {T : Type 0} → ℕ → List (SectionEntry T) → Type 0
AreNumbered next [] = Unit {0}
AreNumbered next (e ∷ es) = (e.number < next) × AllByRecursion (λ f. (f.number == e.number) ≡ false) es × AreNumbered next es

-- the numbers of a table are in order: none was given twice, and the greatest was not given
pub record IsNumbered {T : Type 0} (all : Sections T) : Type 0 where
  pub once : AreNumbered all.next all.entries
  pub within : all.next ≤ no_number

-- the list with a new section last
abbrev pub with_last : {T : Type 0} → List ℕ → Option (List ℕ) → T → Sections T → Sections T
with_last name subsection section all = record { entries = all.entries ++ entry_of all.next name subsection section ∷ []; next = all.next + 1 }

-- the same sections, numbered from `next` on
abbrev pub numbered_from : {T : Type 0} → ℕ → List (SectionEntry T) → List (SectionEntry T)
numbered_from next [] = []
numbered_from next (e ∷ es) = record e { number = next } ∷ numbered_from (next + 1) es

-- the list with all sections of another one after the first `position` ones, under the next numbers
abbrev pub with_all : {T : Type 0} → ℕ → Sections T → Sections T → Sections T
with_all at other all =
    record { entries = take at all.entries ++ numbered_from all.next other.entries ++ drop at all.entries; next = all.next + length other.entries }

-- the section has the number
abbrev pub has_number : {T : Type 0} → ℕ → SectionEntry T → Bool
has_number id e = e.number == id

-- the place of the section of a number
abbrev pub place_of : {T : Type 0} → ℕ → Sections T → Option ℕ
place_of id all = position (has_number id) all.entries

-- what the section of a number holds
abbrev pub section_of : {T : Type 0} → ℕ → Sections T → Option T
section_of id all = option_map (λ e. e.section) (find (has_number id) all.entries)

-- the list without the section of a number
abbrev pub without : {T : Type 0} → ℕ → Sections T → Sections T
without id all = record all { entries = filter (λ e. not (has_number id e)) all.entries }

-- the number of the section at a place
abbrev pub number_at : {T : Type 0} → ℕ → Sections T → Option ℕ
number_at at all = option_map (λ e. e.number) (slice_get all.entries at)

-- what the section at a place holds
abbrev pub section_at : {T : Type 0} → ℕ → Sections T → Option T
section_at at all = option_map (λ e. e.section) (slice_get all.entries at)

-- the list with a change of the section at a place
abbrev pub changed_at : {T : Type 0} → (SectionEntry T → SectionEntry T) → List (SectionEntry T) → ℕ → List (SectionEntry T)
changed_at f [] at = []
changed_at f (e ∷ es) zero = f e ∷ es
changed_at f (e ∷ es) (suc at) = e ∷ changed_at f es at

-- the table with another content of the section at a place
abbrev pub with_section : {T : Type 0} → Sections T → ℕ → T → Sections T
with_section all at section = record all { entries = changed_at (λ e. record e { section = section }) all.entries at }

-- the table with a change of what the section at a place holds
abbrev pub edited_at : {T : Type 0} → (T → T) → ℕ → Sections T → Sections T
edited_at f at all = record all { entries = changed_at (λ e. record e { section = f e.section }) all.entries at }

-- the table with other names of the section at a place
abbrev pub with_names : {T : Type 0} → Sections T → ℕ → List ℕ → Option (List ℕ) → Sections T
with_names all at name subsection =
    record all { entries = changed_at (λ e. record e { name = fold name; subsection = subsection }) all.entries at }

-- the numbers with what the sections hold, in file order
abbrev pub sections_of : {T : Type 0} → Sections T → List (ℕ × T)
sections_of all = map (λ e. (e.number, e.section)) all.entries

-- the section has the name
abbrev pub has_name : {T : Type 0} → List ℕ → SectionEntry T → Bool
has_name name e = is_same_name name e.name

-- the section has the name, and exactly this subsection
abbrev pub is_named : {T : Type 0} → List ℕ → Option (List ℕ) → SectionEntry T → Bool
is_named name subsection e = has_name name e && option_eq bytes_eq e.subsection subsection

-- the sections of a name and subsection, in file order
abbrev pub named : {T : Type 0} → List ℕ → Option (List ℕ) → Sections T → List (ℕ × T)
named name subsection all = map (λ e. (e.number, e.section)) (filter (is_named name subsection) all.entries)

-- the sections of a name and any subsection, in file order
abbrev pub all_named : {T : Type 0} → List ℕ → Sections T → List (ℕ × T)
all_named name all = map (λ e. (e.number, e.section)) (filter (has_name name) all.entries)

-- a section with the same number and names, and a clone of what it holds
pub record IsEntryClone {T : Type 0} (IsClone : T → T → Type 0) (entry copy : SectionEntry T) : Type 0 where
  pub number : copy.number ≡ entry.number
  pub name : copy.name ≡ entry.name
  pub subsection : copy.subsection ≡ entry.subsection
  pub section : IsClone entry.section copy.section

-- a table of such sections, with the same next number
pub record IsTableClone {T : Type 0} (IsClone : T → T → Type 0) (all copy : Sections T) : Type 0 where
  pub next : copy.next ≡ all.next
  pub entries : AllZip (IsEntryClone IsClone) all.entries copy.entries
