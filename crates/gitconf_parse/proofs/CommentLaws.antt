-- The printed text has the comments of the state: the tokens of a text say its comments.
use Rattle.std.proofs.Common.{◌≡◌, ℕ, Bool, true, List, [], ◌∷◌, ◌++◌, Option, Some, None, refl, ap, sym, ◌∙◌}
use Rattle.std.specs.List.{flat_map, AllByRecursion}
use Rattle.std.proofs.lemmas.Grind.{flat_map-append}
use Rattle.gitconf_text.specs.Value.{Piece}
use Rattle.gitconf_text.specs.Part.{Assigned, BlanksItem, LineEndsItem, CommentItem, EntryItem, Part, ItemPart, HeaderPart, spelled}
use Rattle.gitconf_text.specs.Token.{Token, CommentToken, NewlineToken, ValueDoneToken, WhitespaceToken, filled, piece_tokens, value_tokens, assigned_tokens, part_tokens, tokens_of}
use Rattle.gitconf_text.specs.Document.{unmarked, IsText}
use Rattle.gitconf_read.proofs.OneDocument.{one_tokens}
use Rattle.gitconf_state.specs.State.{SectionState, State, HasSectionItems, HasItems}
use Rattle.gitconf_state.specs.Clean.{IsCleanSection, IsClean}
use Rattle.gitconf_state.specs.Comments.{without_white_end, item_comments, part_comments, comments_of, comments_of_kept, comments}
use Rattle.gitconf_state.specs.Printing.{section_parts, printed_parts, printed_kept, printed, printed_section}
use Rattle.gitconf_state.specs.Writing.{Closed}
use Rattle.gitconf_state.proofs.Printing.Apart.{AreApart, fitted}
use Rattle.gitconf_state.proofs.Printing.SectionsApart.{IsSection, all_both, all_mapped, section_apart, printed_apart}
use Rattle.gitconf_state.proofs.Printing.PrintedDocument.{section_comments, printed_comments}
use Rattle.gitconf_state.proofs.Printing.ReadsBack.{is_text, filter_all}

-- the comment of a token, if it is one
abbrev token_comments : Token → List (List ℕ)
token_comments (CommentToken tag text) = (tag ∷ without_white_end text) ∷ []
token_comments _ = []

-- blanks are no comment
blanks_tell_none : (blanks : List ℕ) → flat_map token_comments (filled WhitespaceToken blanks) ≡ []
blanks_tell_none [] = refl
blanks_tell_none (b ∷ blanks) = refl

-- a line ending is no comment
line_end_tells_none : (bytes : List ℕ) → flat_map token_comments (filled NewlineToken bytes) ≡ []
line_end_tells_none [] = refl
line_end_tells_none (b ∷ bytes) = refl

-- pieces have no comments
pieces_tell_none : (pieces : List Piece) → flat_map token_comments (flat_map piece_tokens pieces) ≡ []
pieces_tell_none [] = refl
pieces_tell_none (p ∷ pieces) =
    flat_map-append token_comments (piece_tokens p) (flat_map piece_tokens pieces)
    ∙ ap (λ t. t ++ flat_map token_comments (flat_map piece_tokens pieces)) (line_end_tells_none p.line_end)
    ∙ pieces_tell_none pieces

-- a value has no comments
value_tells_none : (pieces : List Piece) (last : List ℕ) → flat_map token_comments (value_tokens pieces last) ≡ []
value_tells_none [] last = refl
value_tells_none (p ∷ pieces) last =
    flat_map-append token_comments (flat_map piece_tokens (p ∷ pieces)) (ValueDoneToken last ∷ []) ∙ ap (λ t. t ++ []) (pieces_tell_none (p ∷ pieces))

-- what is assigned has no comments
assigned_tells_none : (a : Option Assigned) → flat_map token_comments (assigned_tokens a) ≡ []
assigned_tells_none None = refl
assigned_tells_none (Some a) =
    flat_map-append token_comments (filled WhitespaceToken a.blanks) (value_tokens a.value.pieces a.value.last)
    ∙ ap (λ t. t ++ flat_map token_comments (value_tokens a.value.pieces a.value.last)) (blanks_tell_none a.blanks)
    ∙ value_tells_none a.value.pieces a.value.last

-- the tokens of a part say its comment
part_tells : (p : Part) → flat_map token_comments (part_tokens p) ≡ part_comments p
part_tells (ItemPart (BlanksItem run)) = refl
part_tells (ItemPart (LineEndsItem run)) = refl
part_tells (ItemPart (CommentItem tag text)) = refl
part_tells (ItemPart (EntryItem e)) =
    flat_map-append token_comments (filled WhitespaceToken e.blanks) (assigned_tokens e.assigned)
    ∙ ap (λ t. t ++ flat_map token_comments (assigned_tokens e.assigned)) (blanks_tell_none e.blanks)
    ∙ assigned_tells_none e.assigned
part_tells (HeaderPart h) = refl

-- tokens say the comments
tokens_tell : (parts : List Part) → flat_map token_comments (tokens_of parts) ≡ comments_of parts
tokens_tell [] = refl
tokens_tell (p ∷ parts) =
    flat_map-append token_comments (part_tokens p) (tokens_of parts)
    ∙ ap (λ t. t ++ flat_map token_comments (tokens_of parts)) (part_tells p)
    ∙ ap (λ t. part_comments p ++ t) (tokens_tell parts)

-- the parts of one text have the same comments
same_comments : (text : List ℕ) (parts others : List Part) → IsText text parts → IsText text others → comments_of parts ≡ comments_of others
same_comments text parts others is too =
    sym (tokens_tell parts)
    ∙ ap (flat_map token_comments) (one_tokens (unmarked text) parts others is.spelled_is is.fits too.spelled_is too.fits)
    ∙ tokens_tell others

-- the text of parts of which none runs into the next has their comments
comments_told : (loose : List Part) → AreApart Closed loose → (parts : List Part) → IsText (spelled loose) parts → comments_of parts ≡ comments_of loose
comments_told loose apart parts is = let f = fitted loose apart in same_comments (spelled loose) parts f.parts is (is_text f) ∙ f.comments_are

-- The text of the front and of the sections that are kept has their comments.
pub kept_comments : (keeps : SectionState → Bool) (state : State) → HasItems state → IsClean state → (parts : List Part) → IsText (printed_kept keeps state) parts
    → comments_of parts ≡ comments_of_kept keeps state
kept_comments keeps state has clean parts is = comments_told (printed_parts keeps state) (printed_apart keeps state has clean) parts is ∙ printed_comments keeps state

-- The text of a state has its comments.
pub all_comments : (state : State) → HasItems state → IsClean state → (parts : List Part) → IsText (printed state) parts → comments_of parts ≡ comments state
all_comments state has clean parts is =
    kept_comments (λ _. true) state has clean parts is
    ∙ ap (λ (sections : List SectionState). flat_map item_comments state.front ++ flat_map (λ s. flat_map item_comments (s.items ++ s.held)) sections) (filter_all state.sections)

-- The text of a section alone has the comments of its body.
pub sections_comments : (state : State) → HasItems state → IsClean state
    → AllByRecursion (λ s. (parts : List Part) → IsText (printed_section s) parts → comments_of parts ≡ flat_map item_comments s.items) state.sections
sections_comments state has clean =
    all_mapped IsSection (λ s. (parts : List Part) → IsText (printed_section s) parts → comments_of parts ≡ flat_map item_comments s.items) state.sections
    (λ s is parts text. comments_told (section_parts s) (section_apart s is) parts text ∙ section_comments s)
    (all_both HasSectionItems IsCleanSection state.sections has.sections clean.sections)
