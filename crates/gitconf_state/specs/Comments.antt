-- The comments of a state and of a text, each with its mark.
use Rattle.std.specs.Prelude.{ℕ, Bool, true, false, List, [], ◌∷◌, ◌++◌, ◌||◌, ◌==◌, flat_map, filter}
use Rattle.gitconf_text.specs.Bytes.{is_blank}
use Rattle.gitconf_text.specs.Part.{Item, CommentItem, Part, ItemPart, HeaderPart}
use Rattle.gitconf_state.specs.State.{SectionState, State}

-- a text without the spaces, tabs and CRs at its end
abbrev pub without_white_end : List ℕ → List ℕ
without_white_end [] = []
without_white_end (b ∷ text) = elim (without_white_end text) [ [] ↦ elim (is_blank b || b == 13) [ true ↦ [] | false ↦ b ∷ [] ] | c ∷ rest ↦ b ∷ c ∷ rest ]

-- the comment of an item, if it is one: its mark, and its text without the spaces, tabs and CRs at its end
abbrev pub item_comments : Item → List (List ℕ)
item_comments (CommentItem tag text) = (tag ∷ without_white_end text) ∷ []
item_comments _ = []

-- the comment of a part, if it is one; a header has none
abbrev pub part_comments : Part → List (List ℕ)
part_comments (ItemPart i) = item_comments i
part_comments (HeaderPart h) = []

-- the comments of a text of these parts, in order
abbrev pub comments_of : List Part → List (List ℕ)
comments_of parts = flat_map part_comments parts

-- the comments of the front and of the sections that a filter keeps, as they are printed: a section's, and then those held after it
abbrev pub comments_of_kept : (SectionState → Bool) → State → List (List ℕ)
comments_of_kept keeps state = flat_map item_comments state.front ++ flat_map (λ s. flat_map item_comments (s.items ++ s.held)) (filter keeps state.sections)

-- the comments of a state, as they are printed
abbrev pub comments : State → List (List ℕ)
comments state = flat_map item_comments state.front ++ flat_map (λ s. flat_map item_comments (s.items ++ s.held)) state.sections
