-- The text of sections, one after another.
use Rattle.std.specs.Prelude.{◌≡◌, ℕ, Bool, true, false, not, List, [], ◌∷◌, ◌++◌, ◌||◌, flat_map, if◌then◌else◌}
use Rattle.std.specs.List.{list_any}
use Rattle.gitconf_text.specs.Part.{Item, spelled_item, spelled}
use Rattle.gitconf_state.specs.State.{SectionState, State}
use Rattle.gitconf_state.specs.LineEnds.{ends_line, file_line_end}
use Rattle.gitconf_state.specs.Printing.{unless, ends_with_line, held_items, printed_items, printed_section, sections_parts}

-- a line ending, unless what comes before ended with one
abbrev pub line_end_unless : (ended : Bool) → (line_end : List ℕ) → List ℕ
line_end_unless ended line_end = flat_map spelled_item (unless ended line_end)

-- the text of a section and of what is held after it
abbrev pub whole_text : (line_end : List ℕ) → SectionState → List ℕ
whole_text line_end s = printed_section s ++ flat_map spelled_item (held_items line_end s)

-- the text of the sections that are kept, and of the line endings between them
abbrev pub sections_text : (keeps : SectionState → Bool) → (line_end : List ℕ) → (ended : Bool) → List SectionState → List ℕ
sections_text keeps line_end ended sections = spelled (sections_parts keeps line_end ended sections)

-- the text of the next section, if it is kept
abbrev pub next_text : (keeps : SectionState → Bool) → (line_end : List ℕ) → (ended : Bool) → SectionState → List ℕ
next_text keeps line_end ended s = line_end_unless ended line_end ++ (if keeps s then whole_text line_end s else [])

-- the last printed section ended with a line ending, after the next one
abbrev pub ended_behind : (keeps : SectionState → Bool) → (line_end : List ℕ) → (ended : Bool) → SectionState → Bool
ended_behind keeps line_end ended s = if keeps s then ends_with_line line_end s else ended

-- no line ending is missing after a front
abbrev pub is_front_ended : (keeps : SectionState → Bool) → (line_end : List ℕ) → (front : List Item) → List SectionState → Bool
is_front_ended keeps line_end [] sections = true
is_front_ended keeps line_end (i ∷ front) sections = ends_line line_end (i ∷ front) || not (list_any keeps sections)

-- the text of some of the sections, in order, with the line endings between them
abbrev pub IsTextOfSome : (line_end : List ℕ) → (ended : Bool) → List SectionState → (text : List ℕ) → Type 0
IsTextOfSome line_end ended [] text = text ≡ line_end_unless ended line_end
IsTextOfSome line_end ended (s ∷ sections) text =
    (kept : Bool) × (rest : List ℕ) × (text ≡ next_text (λ _. kept) line_end ended s ++ rest) × IsTextOfSome line_end (ended_behind (λ _. kept) line_end ended s) sections rest

-- the front, as it is printed
abbrev pub front_text : State → List ℕ
front_text state = flat_map spelled_item (printed_items false (file_line_end state) [] state.front)

-- The text of the front and of some of the sections. After a front that doesn't end with a line ending one may follow, if there are sections.
abbrev pub IsTextOfSomeSections : State → (text : List ℕ) → Type 0
IsTextOfSomeSections state text =
    (ended : Bool) × (rest : List ℕ) × (is_front_ended (λ _. true) (file_line_end state) state.front state.sections ≡ true → ended ≡ true)
    × (text ≡ front_text state ++ (line_end_unless ended (file_line_end state) ++ rest)) × IsTextOfSome (file_line_end state) true state.sections rest
