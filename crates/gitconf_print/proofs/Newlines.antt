-- The first newline among tokens.
use Rattle.std.proofs.Common.{◌≡◌, ℕ, ◌+◌, ◌<◌, List, [], ◌∷◌, ◌++◌, length, get_or, drop, refl, ap, ◌∙◌}
use Rattle.std.specs.Prelude.{flat_map}
use Rattle.std.specs.Option.{option_or, unwrap_or}
use Rattle.std.proofs.lemmas.Grind.{flat_map-append}
use Rattle.gitconf_items.specs.declared.items.Item.{Item}
use Rattle.gitconf_items.specs.Items.{item_of, items_of, tokens_in}
use Rattle.gitconf_text.specs.Token.{Token, CommentToken, HeaderToken, NameToken, ValueToken, NewlineToken, ValueNotDoneToken, ValueDoneToken, WhitespaceToken, SeparatorToken, item_tokens}
use Rattle.gitconf_state.specs.State.{SectionState, State}
use Rattle.gitconf_state.specs.LineEnds.{line_end_of, file_line_end}
use Rattle.gitconf_print.proofs.Bodies.{at_next}
use Rattle.gitconf_print.specs.LineEnds.{first_newline, first_newline_of_bodies}

-- of two lists it is that of the first one, otherwise of the second
pub first_newline-append : (xs ys : List Token) → first_newline (xs ++ ys) ≡ option_or (first_newline xs) (first_newline ys)
first_newline-append [] ys = refl
first_newline-append (NewlineToken run ∷ xs) ys = refl
first_newline-append (CommentToken tag text ∷ xs) ys = first_newline-append xs ys
first_newline-append (HeaderToken h ∷ xs) ys = first_newline-append xs ys
first_newline-append (NameToken bytes ∷ xs) ys = first_newline-append xs ys
first_newline-append (ValueToken bytes ∷ xs) ys = first_newline-append xs ys
first_newline-append (ValueNotDoneToken bytes ∷ xs) ys = first_newline-append xs ys
first_newline-append (ValueDoneToken bytes ∷ xs) ys = first_newline-append xs ys
first_newline-append (WhitespaceToken bytes ∷ xs) ys = first_newline-append xs ys
first_newline-append (SeparatorToken ∷ xs) ys = first_newline-append xs ys

-- the line ending that tokens say: that of the first newline, otherwise LF
pub line_end_of-first : (tokens : List Token) → line_end_of tokens ≡ unwrap_or (first_newline tokens) (10 ∷ [])
line_end_of-first [] = refl
line_end_of-first (NewlineToken run ∷ tokens) = refl
line_end_of-first (CommentToken tag text ∷ tokens) = line_end_of-first tokens
line_end_of-first (HeaderToken h ∷ tokens) = line_end_of-first tokens
line_end_of-first (NameToken bytes ∷ tokens) = line_end_of-first tokens
line_end_of-first (ValueToken bytes ∷ tokens) = line_end_of-first tokens
line_end_of-first (ValueNotDoneToken bytes ∷ tokens) = line_end_of-first tokens
line_end_of-first (ValueDoneToken bytes ∷ tokens) = line_end_of-first tokens
line_end_of-first (WhitespaceToken bytes ∷ tokens) = line_end_of-first tokens
line_end_of-first (SeparatorToken ∷ tokens) = line_end_of-first tokens

-- the first newline of what is left of items: that of the next one, otherwise of those after it
pub next_newline : (buffer : List ℕ) (items : List Item) (i : ℕ) (x : Item) → i < length items → x ≡ get_or items i x
    → first_newline (tokens_in (items_of buffer (drop i items)))
    ≡ option_or (first_newline (item_tokens (item_of buffer x))) (first_newline (tokens_in (items_of buffer (drop (i + 1) items))))
next_newline buffer items i x within is =
    at_next (λ xs. first_newline (tokens_in xs)) buffer items i x x within is
    ∙ first_newline-append (item_tokens (item_of buffer x)) (tokens_in (items_of buffer (drop (i + 1) items)))

first_in_bodies : (sections : List SectionState) → first_newline (tokens_in (flat_map (λ s. s.items) sections)) ≡ first_newline_of_bodies sections
first_in_bodies [] = refl
first_in_bodies (s ∷ sections) =
    ap first_newline (flat_map-append item_tokens s.items (flat_map (λ t. t.items) sections))
    ∙ (first_newline-append (tokens_in s.items) (tokens_in (flat_map (λ t. t.items) sections))
    ∙ ap (option_or (first_newline (tokens_in s.items))) (first_in_bodies sections))

-- a file's line ending is given by its front, otherwise by the first body that says one
pub file_line_end-first : (state : State)
    → file_line_end state ≡ unwrap_or (option_or (first_newline (tokens_in state.front)) (first_newline_of_bodies state.sections)) (10 ∷ [])
file_line_end-first state =
    let bodies = flat_map (λ (s : SectionState). s.items) state.sections in
    line_end_of-first (tokens_in (state.front ++ bodies))
    ∙ ap (λ o. unwrap_or o (10 ∷ []))
    (ap first_newline (flat_map-append item_tokens state.front bodies)
    ∙ (first_newline-append (tokens_in state.front) (tokens_in bodies)
    ∙ ap (option_or (first_newline (tokens_in state.front))) (first_in_bodies state.sections)))

pub ruleset newlines = (first_newline-append, line_end_of-first, next_newline)
