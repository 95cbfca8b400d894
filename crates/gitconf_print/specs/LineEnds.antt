-- The first newline among tokens, and where bodies end with a line ending.
use Rattle.std.specs.Prelude.{ℕ, Bool, List, [], ◌∷◌, Option, Some, None}
use Rattle.std.specs.Option.{option_or}
use Rattle.gitconf_text.specs.LineEnds.{line_end_in}
use Rattle.gitconf_text.specs.Token.{Token, NewlineToken}
use Rattle.gitconf_text.specs.Part.{Item}
use Rattle.gitconf_state.specs.State.{SectionState}
use Rattle.gitconf_state.specs.LineEnds.{ends_line}
use Rattle.gitconf_items.specs.Items.{tokens_in}

-- the line ending of the first newline among tokens, if there is one
abbrev pub first_newline : List Token → Option (List ℕ)
first_newline [] = None
first_newline (NewlineToken run ∷ tokens) = Some (line_end_in run)
first_newline (_ ∷ tokens) = first_newline tokens

-- a body, with the items held after it, ends with a line ending
abbrev pub both_end_line : (line_end : List ℕ) → (items held : List Item) → Bool
both_end_line line_end items [] = ends_line line_end items
both_end_line line_end items (i ∷ held) = ends_line line_end (i ∷ held)

-- the line ending of the first newline in the bodies of sections, in order, if there is one
abbrev pub first_newline_of_bodies : List SectionState → Option (List ℕ)
first_newline_of_bodies [] = None
first_newline_of_bodies (s ∷ sections) = option_or (first_newline (tokens_in s.items)) (first_newline_of_bodies sections)
