-- Where line endings are of one kind, the file's line ending is of that kind, and each run of line endings holds it.
use Rattle.std.proofs.Common.{◌≡◌, ℕ, ◌<◌, Bool, true, false, List, [], ◌∷◌, ◌++◌, length, flat_map, Option, Some, None, refl, ap, sym, subst, ◌∙◌, arith, inl, inr}
use Rattle.std.specs.Prelude.{◌⊎◌, ◌&&◌, ◌||◌, ◌==◌}
use Rattle.std.specs.List.{list_all, list_any}
use Rattle.std.proofs.lemmas.Bool.{eqb-true}
use Rattle.std.proofs.lemmas.Grind.{flat_map-append}
use Rattle.std.proofs.lemmas.List.Folds.{list_all-append}
use Rattle.gitconf_text.specs.Text.{begins}
use Rattle.gitconf_text.specs.Value.{Piece}
use Rattle.gitconf_text.specs.Part.{Assigned, BlanksItem, LineEndsItem, CommentItem, EntryItem, Part, ItemPart, HeaderPart, FitsPart, spelled, AreFit}
use Rattle.gitconf_text.specs.Token.{Token, CommentToken, HeaderToken, NameToken, ValueToken, NewlineToken, ValueNotDoneToken, ValueDoneToken, WhitespaceToken, SeparatorToken, filled, piece_tokens, value_tokens, assigned_tokens, item_tokens, part_tokens, tokens_of}
use Rattle.gitconf_text.proofs.Tests.{both_true, apart}
use Rattle.gitconf_state.specs.State.{SectionState, State}
use Rattle.gitconf_state.specs.LineEnds.{line_end_of, file_line_end, holds}
use Rattle.gitconf_state.specs.Inserted.{are_pairs, newline_passes, are_of_one_kind}
use Rattle.gitconf_state.specs.Loads.{section_tokens}
use Rattle.gitconf_state.proofs.Loading.Filters.{all_parts, both_hold}
use Rattle.gitconf_state.proofs.Loading.Tokens.{own_parts, own_tokens}
use Rattle.gitconf_state.proofs.Exact.Ends.{is_feed}

-- the line endings of a part hold a line ending
abbrev pub holds_line_end : (line_end : List ℕ) → Part → Bool
holds_line_end line_end (ItemPart (LineEndsItem run)) = holds line_end run
holds_line_end line_end (ItemPart (BlanksItem run)) = true
holds_line_end line_end (ItemPart (CommentItem tag text)) = true
holds_line_end line_end (ItemPart (EntryItem e)) = true
holds_line_end line_end (HeaderPart h) = true

-- so do those of all parts, where a test that shows it passes at each
parts_hold : (test : List ℕ → Bool) (line_end : List ℕ) → ((run : List ℕ) → test run ≡ true → 0 < length run → holds line_end run ≡ true)
    → (parts : List Part) → AreFit parts [] → list_all (newline_passes test) (tokens_of parts) ≡ true → list_all (holds_line_end line_end) parts ≡ true
parts_hold test line_end shows [] fits all = refl
parts_hold test line_end shows (p ∷ parts) fits all =
    let b = all_parts (newline_passes test) (part_tokens p) (tokens_of parts) all in
    both_hold (holds_line_end line_end p) (list_all (holds_line_end line_end) parts) (go p fits.0 b.0) (parts_hold test line_end shows parts fits.1 b.1)
  where
    go : (p : Part) → FitsPart p (spelled parts ++ []) → list_all (newline_passes test) (part_tokens p) ≡ true → holds_line_end line_end p ≡ true
    go (ItemPart (LineEndsItem run)) fits all = shows run (both_true (test run) true all).0 fits.0
    go (ItemPart (BlanksItem run)) fits all = refl
    go (ItemPart (CommentItem tag text)) fits all = refl
    go (ItemPart (EntryItem e)) fits all = refl
    go (HeaderPart h) fits all = refl

-- Line endings that are all LF.
feeds_hold : (run : List ℕ) → list_all is_feed run ≡ true → 0 < length run → holds (10 ∷ []) run ≡ true
feeds_hold [] all some = absurd (let h : 0 < 0 = some in omega arith)
feeds_hold (b ∷ run) all some = rw (eqb-true b 10 (both_true (is_feed b) (list_all is_feed run) all).0) refl

-- LFs hold no CR
no_return : (run : List ℕ) → list_all is_feed run ≡ true → list_any (λ b. b == 13) run ≡ false
no_return [] all = refl
no_return (b ∷ run) all =
    let p = both_true (is_feed b) (list_all is_feed run) all in
    rw (apart is_feed 13 b refl p.0) (no_return run p.1)

-- the first of them says LF, and so does none
feeds_told : (tokens : List Token) → list_all (newline_passes (list_all is_feed)) tokens ≡ true → line_end_of tokens ≡ 10 ∷ []
feeds_told [] all = refl
feeds_told (NewlineToken run ∷ tokens) all = rw (no_return run (both_true (list_all is_feed run) _ all).0) refl
feeds_told (CommentToken tag text ∷ tokens) all = feeds_told tokens all
feeds_told (HeaderToken h ∷ tokens) all = feeds_told tokens all
feeds_told (NameToken bytes ∷ tokens) all = feeds_told tokens all
feeds_told (ValueToken bytes ∷ tokens) all = feeds_told tokens all
feeds_told (ValueNotDoneToken bytes ∷ tokens) all = feeds_told tokens all
feeds_told (ValueDoneToken bytes ∷ tokens) all = feeds_told tokens all
feeds_told (WhitespaceToken bytes ∷ tokens) all = feeds_told tokens all
feeds_told (SeparatorToken ∷ tokens) all = feeds_told tokens all

-- Line endings that are all CR LF.
pairs_begin : (b : ℕ) (run : List ℕ) → are_pairs (b ∷ run) ≡ true → (b ≡ 13) × ((more : List ℕ) × (run ≡ 10 ∷ more))
pairs_begin b [] pairs = absurd (cc)
pairs_begin b (c ∷ run) pairs =
    let p = both_true (b == 13 && c == 10) (are_pairs run) pairs in
    let q = both_true (b == 13) (c == 10) p.0 in
    (eqb-true b 13 q.0, (run, ap (λ x. x ∷ run) (eqb-true c 10 q.1)))

-- such a run holds one
pairs_hold : (run : List ℕ) → are_pairs run ≡ true → 0 < length run → holds (13 ∷ 10 ∷ []) run ≡ true
pairs_hold [] pairs some = absurd (let h : 0 < 0 = some in omega arith)
pairs_hold (b ∷ run) pairs some = let p = pairs_begin b run pairs in rw (p.0, p.1.1) refl

-- and it holds a CR
pairs_return : (run : List ℕ) → are_pairs run ≡ true → begins (λ _. true) run ≡ true → list_any (λ b. b == 13) run ≡ true
pairs_return [] pairs some = absurd (cc)
pairs_return (b ∷ run) pairs some = let p = pairs_begin b run pairs in rw p.0 refl

-- no token is a line ending
abbrev no_newline : Token → Bool
no_newline t = newline_passes (λ _. false) t

-- the first of them says CR LF, if there is one
pairs_told : (tokens : List Token) → list_all (newline_passes are_pairs) tokens ≡ true → list_all (newline_passes (begins (λ _. true))) tokens ≡ true
    → (line_end_of tokens ≡ 13 ∷ 10 ∷ []) ⊎ (list_all no_newline tokens ≡ true)
pairs_told [] all some = inr refl
pairs_told (NewlineToken run ∷ tokens) all some = inl (rw (pairs_return run (both_true (are_pairs run) _ all).0 (both_true (begins (λ _. true) run) _ some).0) refl)
pairs_told (CommentToken tag text ∷ tokens) all some = pairs_told tokens all some
pairs_told (HeaderToken h ∷ tokens) all some = pairs_told tokens all some
pairs_told (NameToken bytes ∷ tokens) all some = pairs_told tokens all some
pairs_told (ValueToken bytes ∷ tokens) all some = pairs_told tokens all some
pairs_told (ValueNotDoneToken bytes ∷ tokens) all some = pairs_told tokens all some
pairs_told (ValueDoneToken bytes ∷ tokens) all some = pairs_told tokens all some
pairs_told (WhitespaceToken bytes ∷ tokens) all some = pairs_told tokens all some
pairs_told (SeparatorToken ∷ tokens) all some = pairs_told tokens all some

-- a newline has a byte
abbrev has_byte : Token → Bool
has_byte t = newline_passes (begins (λ _. true)) t

-- two lists of tokens, put together
both_lists : (xs ys : List Token) → list_all has_byte xs ≡ true → list_all has_byte ys ≡ true → list_all has_byte (xs ++ ys) ≡ true
both_lists xs ys p q = list_all-append has_byte xs ys ∙ both_hold (list_all has_byte xs) (list_all has_byte ys) p q

-- blanks are no newline
blanks_have : (run : List ℕ) → list_all has_byte (filled WhitespaceToken run) ≡ true
blanks_have [] = refl
blanks_have (b ∷ run) = refl

-- a piece has a newline only if there are bytes for it
pieces_have : (pieces : List Piece) → list_all has_byte (flat_map piece_tokens pieces) ≡ true
pieces_have [] = refl
pieces_have (p ∷ pieces) = both_lists (filled NewlineToken p.line_end) (flat_map piece_tokens pieces) (go p.line_end) (pieces_have pieces)
  where
    go : (run : List ℕ) → list_all has_byte (filled NewlineToken run) ≡ true
    go [] = refl
    go (b ∷ run) = refl

-- the newlines of a value have bytes
value_has : (pieces : List Piece) (last : List ℕ) → list_all has_byte (value_tokens pieces last) ≡ true
value_has [] last = refl
value_has (p ∷ pieces) last = both_lists (flat_map piece_tokens (p ∷ pieces)) (ValueDoneToken last ∷ []) (pieces_have (p ∷ pieces)) refl

-- so have those of what is assigned
assigned_has : (assigned : Option Assigned) → list_all has_byte (assigned_tokens assigned) ≡ true
assigned_has None = refl
assigned_has (Some a) = both_lists (filled WhitespaceToken a.blanks) (value_tokens a.value.pieces a.value.last) (blanks_have a.blanks) (value_has a.value.pieces a.value.last)

-- the newlines of fitting parts have bytes
parts_have : (parts : List Part) → AreFit parts [] → list_all has_byte (tokens_of parts) ≡ true
parts_have [] fits = refl
parts_have (p ∷ parts) fits = both_lists (part_tokens p) (tokens_of parts) (go p fits.0) (parts_have parts fits.1)
  where
    go : (p : Part) → FitsPart p (spelled parts ++ []) → list_all has_byte (part_tokens p) ≡ true
    go (ItemPart (LineEndsItem [])) fits = absurd (let h : 0 < 0 = fits.0 in omega arith)
    go (ItemPart (LineEndsItem (b ∷ run))) fits = refl
    go (ItemPart (BlanksItem run)) fits = refl
    go (ItemPart (CommentItem tag text)) fits = refl
    go (ItemPart (EntryItem e)) fits = both_lists (filled WhitespaceToken e.blanks) (assigned_tokens e.assigned) (blanks_have e.blanks) (assigned_has e.assigned)
    go (HeaderPart h) fits = refl

-- where one of two holds, either the first or the second does
either : (a b : Bool) → (a || b) ≡ true → (a ≡ true) ⊎ (b ≡ true)
either true b h = inl refl
either false b h = inr h

-- Where the line endings of a text are of one kind, each run of them holds the line ending that the first one says.
pub one_kind_holds : (parts : List Part) → AreFit parts [] → are_of_one_kind parts ≡ true → list_all (holds_line_end (line_end_of (tokens_of parts))) parts ≡ true
one_kind_holds parts fits kind = elim (either (list_all (newline_passes (list_all is_feed)) (tokens_of parts)) (list_all (newline_passes are_pairs) (tokens_of parts)) kind) [
  | inl feeds ↦ subst (λ l. list_all (holds_line_end l) parts ≡ true) (sym (feeds_told (tokens_of parts) feeds)) (parts_hold (list_all is_feed) (10 ∷ []) feeds_hold parts fits feeds)
  | inr pairs ↦ elim (pairs_told (tokens_of parts) pairs (parts_have parts fits)) [
    | inl told ↦ subst (λ l. list_all (holds_line_end l) parts ≡ true) (sym told) (parts_hold are_pairs (13 ∷ 10 ∷ []) pairs_hold parts fits pairs)
    | inr none ↦ parts_hold (λ _. false) (line_end_of (tokens_of parts)) (λ run never some. absurd (cc)) parts fits none
  ]
]

-- Headers say no line ending.
told_behind : (front : List Token) (tokens others : List Token) → line_end_of tokens ≡ line_end_of others → line_end_of (front ++ tokens) ≡ line_end_of (front ++ others)
told_behind [] tokens others same = same
told_behind (NewlineToken run ∷ front) tokens others same = refl
told_behind (CommentToken tag text ∷ front) tokens others same = told_behind front tokens others same
told_behind (HeaderToken h ∷ front) tokens others same = told_behind front tokens others same
told_behind (NameToken bytes ∷ front) tokens others same = told_behind front tokens others same
told_behind (ValueToken bytes ∷ front) tokens others same = told_behind front tokens others same
told_behind (ValueNotDoneToken bytes ∷ front) tokens others same = told_behind front tokens others same
told_behind (ValueDoneToken bytes ∷ front) tokens others same = told_behind front tokens others same
told_behind (WhitespaceToken bytes ∷ front) tokens others same = told_behind front tokens others same
told_behind (SeparatorToken ∷ front) tokens others same = told_behind front tokens others same

-- the bodies of sections say the line ending that the sections' tokens say
sections_tell : (sections : List SectionState) → line_end_of (flat_map item_tokens (flat_map (λ (s : SectionState). s.items) sections)) ≡ line_end_of (flat_map section_tokens sections)
sections_tell [] = refl
sections_tell (s ∷ sections) =
    ap line_end_of (flat_map-append item_tokens s.items (flat_map (λ (s : SectionState). s.items) sections))
    ∙ told_behind (flat_map item_tokens s.items) (flat_map item_tokens (flat_map (λ (s : SectionState). s.items) sections)) (flat_map section_tokens sections) (sections_tell sections)

-- A file's line ending is the one that the tokens of all its parts say.
pub file_tells : (state : State) → file_line_end state ≡ line_end_of (tokens_of (own_parts state))
file_tells state =
    ap line_end_of (flat_map-append item_tokens state.front (flat_map (λ (s : SectionState). s.items) state.sections))
    ∙ told_behind (flat_map item_tokens state.front) (flat_map item_tokens (flat_map (λ (s : SectionState). s.items) state.sections)) (flat_map section_tokens state.sections) (sections_tell state.sections)
    ∙ ap line_end_of (sym (own_tokens state))
