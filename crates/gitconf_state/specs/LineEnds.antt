-- Which line ending a file and a section use, and where tokens end with one.
use Rattle.std.specs.Prelude.{ℕ, nat_eq, Bool, false, List, [], ◌∷◌, ◌++◌, ◌==◌, ◌||◌, Some, None, flat_map, if◌then◌else◌}
use Rattle.std.specs.List.{list_any, starts_with}
use Rattle.gitconf_text.specs.Part.{Item, LineEndsItem}
use Rattle.gitconf_text.specs.Token.{Token, NewlineToken, item_tokens}
use Rattle.gitconf_state.specs.State.{SectionState, State, is_comment, is_entry, cut_last}

-- the line ending that the first newline token has: CR LF if it holds a CR, otherwise LF; LF if there is none
abbrev pub line_end_of : List Token → List ℕ
line_end_of [] = 10 ∷ []
line_end_of (NewlineToken run ∷ tokens) = if list_any (λ b. b == 13) run then 13 ∷ 10 ∷ [] else 10 ∷ []
line_end_of (_ ∷ tokens) = line_end_of tokens

-- a section's line ending: that of the first newline in its body
abbrev pub section_line_end : SectionState → List ℕ
section_line_end s = line_end_of (flat_map item_tokens s.items)

-- a file's line ending: that of the first newline in its front and then in the bodies; held items don't count
abbrev pub file_line_end : State → List ℕ
file_line_end state = line_end_of (flat_map item_tokens (state.front ++ flat_map (λ s. s.items) state.sections))

-- the line ending is somewhere in a run
abbrev pub holds : (line_end run : List ℕ) → Bool
holds line_end [] = false
holds line_end (b ∷ run) = starts_with nat_eq (b ∷ run) line_end || holds line_end run

-- the item is line endings, and this line ending is among them
abbrev pub holds_line_end : (line_end : List ℕ) → Item → Bool
holds_line_end line_end (LineEndsItem run) = holds line_end run
holds_line_end line_end _ = false

-- items end with a line ending: among the blanks and line endings at their end one holds it
abbrev pub ends_line : (line_end : List ℕ) → List Item → Bool
ends_line line_end items = list_any (holds_line_end line_end) (elim (cut_last (λ i. is_comment i || is_entry i) items) [ None ↦ items | Some c ↦ c.1.1 ])
