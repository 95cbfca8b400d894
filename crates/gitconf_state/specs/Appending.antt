-- The items that the front of another file is put after, and the line ending that goes between.
use Rattle.std.specs.Prelude.{ℕ, List, [], ◌∷◌, Option, Some, None}
use Rattle.std.specs.List.{last_or}
use Rattle.gitconf_text.specs.Part.{Item}
use Rattle.gitconf_state.specs.State.{SectionState, State}

-- what is held after a section, or the front if there is no section
abbrev pub held_or : (front : List Item) → Option SectionState → List Item
held_or front None = front
held_or front (Some s) = s.held

-- the items that the front of another file is put after
abbrev pub items_before : State → List Item
items_before state = held_or state.front (last_or None state.sections)

-- the bytes of a line ending that is an item, or none if there is no item
abbrev pub line_bytes : (line_end : List ℕ) → List Item → List ℕ
line_bytes line_end [] = []
line_bytes line_end (i ∷ items) = line_end
