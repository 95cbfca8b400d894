-- Newlines that are made of the line ending that was chosen: `Detect` finds it there, and a text without one ends with no LF.
use Rattle.std.proofs.Common.{◌≡◌, ◌<◌, ℕ, ◌+◌, zero, suc, Bool, true, false, not, List, [], ◌∷◌, ◌++◌, length, map, Option, Some, None, inl, inr, refl, ap, sym, subst, ◌∙◌, append_assoc, append-nil, arith}
use Rattle.std.specs.Prelude.{◌⊎◌, ◌==◌, ◌||◌, flat_map, replicate}
use Rattle.std.specs.List.{AllByRecursion, concat, fold, list_all, list_any}
use Rattle.std.proofs.lemmas.List.{map-append, replicate-append-replicate}
use Rattle.std.proofs.lemmas.List.Folds.{concat-append, list_any-append}
use Rattle.std.proofs.lemmas.List.Sums.{fold-append}
use Rattle.gitconf_text.specs.Bytes.{is_blank, is_name_byte}
use Rattle.gitconf_text.specs.Text.{ends, is_line_end}
use Rattle.gitconf_text.specs.Unit.{is_mark, units_of}
use Rattle.gitconf_text.specs.Value.{Piece, spelled_value, FitsValue}
use Rattle.gitconf_text.specs.Header.{Header, PlainHeader, DottedHeader, QuotedHeader, spelled_header}
use Rattle.gitconf_text.specs.Part.{Assigned, Entry, BlanksItem, LineEndsItem, CommentItem, EntryItem, Part, ItemPart, HeaderPart, spelled_assigned, spelled_part, spelled, FitsAssigned, FitsPart, AreFit}
use Rattle.gitconf_text.specs.Token.{Token, NewlineToken, ValueDoneToken, WhitespaceToken, filled, piece_tokens, value_tokens, assigned_tokens, item_tokens, part_tokens, tokens_of}
use Rattle.gitconf_items.specs.EventRef.{Shown, ShownComment, ShownHeader, ShownValueName, ShownValue, ShownNewline, ShownUnfinished, ShownLast, ShownBlanks, ShownSeparator}
use Rattle.gitconf_items.specs.ShownEvents.{shown_token}
use Rattle.gitconf_text.proofs.Tests.{both_true, apart}
use Rattle.gitconf_layout.specs.declared.format.Options.{Options}
use Rattle.gitconf_layout.specs.declared.place.Place.{Place}
use Rattle.gitconf_layout.specs.Kept.{HoldsLineEnd}
use Rattle.gitconf_layout.specs.Layout.{is_newline, line_ends_in, detected}
use Rattle.gitconf_layout.specs.Setting.{behind_token, is_dropped, on_next_line, end_text, ends_text, ends_place, set_tokens}
use Rattle.gitconf_layout.proofs.SetEntries.{set_end, set_piece, one_line_end}
use Rattle.gitconf_layout.proofs.Ending.{flat, name_bytes, no_feed}
use Rattle.gitconf_layout.proofs.Ended.{closed_or_bare, paired_rest}

-- the line ending, any number of times
abbrev pub IsMade : (e run : List ℕ) → Type 0
IsMade e run = (n : ℕ) × (run ≡ concat (replicate n e))

made_append : (e x y : List ℕ) → IsMade e x → IsMade e y → IsMade e (x ++ y)
made_append e x y f g = (
  f.0 + g.0,
  ap (λ t. t ++ y) f.1 ∙ ap (λ t. concat (replicate f.0 e) ++ t) g.1 ∙ sym (concat-append (replicate f.0 e) (replicate g.0 e)) ∙ ap concat (replicate-append-replicate f.0 g.0 e),
)

made_once : (e : List ℕ) → IsMade e e
made_once e = (1, sym (append-nil e))

-- what is set of a newline
pub made_ends : (o : Options) (e : List ℕ) (p : Place) (run : List ℕ) → IsMade e (ends_text o e p run)
unfolding ends_text
made_ends o e p [] = (0, refl)
made_ends o e p (b ∷ run) = go (b == 10) refl (λ p. made_ends o e p run)
  where
    end : (t : Bool) → is_dropped p ≡ t → IsMade e (end_text e p)
    end true h = rw (h, end_text) (0, refl)
    end false h = rw (h, end_text) (made_once e)

    go : (t : Bool) → (b == 10) ≡ t → ((p : Place) → IsMade e (ends_text o e p run)) → IsMade e (ends_text o e p (b ∷ run))
    go true h later = rw (h, ends_text) (made_append e (end_text e p) (ends_text o e (on_next_line o p) run) (end (is_dropped p) refl) (later (on_next_line o p)))
    go false h later = rw (h, ends_text) (later p)

-- such a run that isn't empty
pub holds_run : (e run : List ℕ) → 0 < length run → IsMade e run → HoldsLineEnd e (ShownNewline run)
holds_run e run some m = go m.0 m.1
  where
    none : (x : List ℕ) → x ≡ [] → 0 < length x → HoldsLineEnd e (ShownNewline run)
    none [] h some = absurd (omega arith)
    none (b ∷ x) h some = absurd (cc)

    go : (n : ℕ) → run ≡ concat (replicate n e) → HoldsLineEnd e (ShownNewline run)
    go zero h = none run h some
    go (suc n) h = (n, h)

pub made_of : (e run : List ℕ) → HoldsLineEnd e (ShownNewline run) → IsMade e run
made_of e run h = (suc h.0, h.1)

-- two runs as one newline
pub holds_both : (e x y : List ℕ) → 0 < length (x ++ y) → IsMade e x → IsMade e y → HoldsLineEnd e (ShownNewline (x ++ y))
holds_both e x y some f g = holds_run e (x ++ y) some (made_append e x y f g)

-- each newline of these tokens is the line ending, once or more
abbrev pub TokensHold : (e : List ℕ) → List Token → Type 0
TokensHold e tokens = AllByRecursion (HoldsLineEnd e) (map shown_token tokens)

abbrev pub Holds : (e : List ℕ) → List Part → Type 0
Holds e parts = TokensHold e (tokens_of parts)

hold_append : (e : List ℕ) (xs ys : List Token) → TokensHold e xs → TokensHold e ys → TokensHold e (xs ++ ys)
hold_append e [] ys h k = k
hold_append e (t ∷ xs) ys h k = (h.0, hold_append e xs ys h.1 k)

hold_blanks : (e run : List ℕ) → TokensHold e (filled WhitespaceToken run)
hold_blanks e [] = tt
hold_blanks e (b ∷ run) = (tt, tt)

hold_newline : (e run : List ℕ) → IsMade e run → TokensHold e (filled NewlineToken run)
hold_newline e [] m = tt
hold_newline e (b ∷ run) m = (holds_run e (b ∷ run) (omega arith) m, tt)

-- each piece ends with the line ending, or with nothing
abbrev pub PiecesHold : (e : List ℕ) → List Piece → Type 0
PiecesHold e [] = Unit {0}
PiecesHold e (p ∷ pieces) = IsMade e p.line_end × PiecesHold e pieces

pub set_pieces_hold : (e : List ℕ) (pieces : List Piece) → PiecesHold e (map (set_piece e) pieces)
set_pieces_hold e [] = tt
set_pieces_hold e (p ∷ pieces) = (end p.line_end, set_pieces_hold e pieces)
  where
    end : (line_end : List ℕ) → IsMade e (set_end e line_end)
    end [] = (0, refl)
    end (b ∷ bytes) = made_once e

abbrev pub AssignedHolds : (e : List ℕ) → Option Assigned → Type 0
AssignedHolds e None = Unit {0}
AssignedHolds e (Some a) = PiecesHold e a.value.pieces

hold_pieces : (e : List ℕ) (pieces : List Piece) → PiecesHold e pieces → TokensHold e (flat_map piece_tokens pieces)
hold_pieces e [] h = tt
hold_pieces e (p ∷ pieces) h = hold_append e (piece_tokens p) (flat_map piece_tokens pieces) (tt, hold_newline e p.line_end h.0) (hold_pieces e pieces h.1)

hold_value : (e : List ℕ) (pieces : List Piece) (last : List ℕ) → PiecesHold e pieces → TokensHold e (value_tokens pieces last)
hold_value e [] last h = (tt, tt)
hold_value e (p ∷ pieces) last h = hold_append e (flat_map piece_tokens (p ∷ pieces)) (ValueDoneToken last ∷ []) (hold_pieces e (p ∷ pieces) h) (tt, tt)

hold_assigned : (e : List ℕ) (a : Option Assigned) → AssignedHolds e a → TokensHold e (assigned_tokens a)
hold_assigned e None h = (tt, tt)
hold_assigned e (Some a) h = (tt, hold_append e (filled WhitespaceToken a.blanks) (value_tokens a.value.pieces a.value.last) (hold_blanks e a.blanks) (hold_value e a.value.pieces a.value.last h))

-- an entry before parts
pub entry_holds : (e : List ℕ) (en : Entry) (rest : List Part) → AssignedHolds e en.assigned → Holds e rest → Holds e (ItemPart (EntryItem en) ∷ rest)
entry_holds e en rest h k =
    hold_append e (item_tokens (EntryItem en)) (tokens_of rest) (tt, hold_append e (filled WhitespaceToken en.blanks) (assigned_tokens en.assigned) (hold_blanks e en.blanks) (hold_assigned e en.assigned h)) k

-- no newline is among the tokens
abbrev pub has_newline : List Token → Bool
has_newline tokens = list_any is_newline (map shown_token tokens)

made_no_cr : (n : ℕ) → list_any (λ b. b == 13) (concat (replicate n (10 ∷ []))) ≡ false
made_no_cr zero = refl
made_no_cr (suc n) = made_no_cr n

detected_run : (e : List ℕ) → is_line_end e ≡ true → (run : List ℕ) → HoldsLineEnd e (ShownNewline run) → detected (ShownNewline run ∷ []) ≡ e
detected_run e line run h = one_line_end (λ e. (n : ℕ) → run ≡ e ++ concat (replicate n e) → detected (ShownNewline run ∷ []) ≡ e) feed both e line h.0 h.1
  where
    feed : (n : ℕ) → run ≡ (10 ∷ []) ++ concat (replicate n (10 ∷ [])) → detected (ShownNewline run ∷ []) ≡ 10 ∷ []
    feed n same = rw (same, made_no_cr n) refl

    both : (n : ℕ) → run ≡ (13 ∷ 10 ∷ []) ++ concat (replicate n (13 ∷ 10 ∷ [])) → detected (ShownNewline run ∷ []) ≡ 13 ∷ 10 ∷ []
    both n same = rw same refl

-- the line ending is found, if there is a newline
pub detected_is : (e : List ℕ) → is_line_end e ≡ true → (tokens : List Shown) → AllByRecursion (HoldsLineEnd e) tokens → (detected tokens ≡ e) ⊎ (list_any is_newline tokens ≡ false)
detected_is e line [] h = inr refl
detected_is e line (ShownNewline run ∷ tokens) h = inl (detected_run e line run h.0)
detected_is e line (ShownComment tag text ∷ tokens) h = detected_is e line tokens h.1
detected_is e line (ShownHeader name separator subsection ∷ tokens) h = detected_is e line tokens h.1
detected_is e line (ShownValueName bytes ∷ tokens) h = detected_is e line tokens h.1
detected_is e line (ShownValue bytes ∷ tokens) h = detected_is e line tokens h.1
detected_is e line (ShownUnfinished bytes ∷ tokens) h = detected_is e line tokens h.1
detected_is e line (ShownLast bytes ∷ tokens) h = detected_is e line tokens h.1
detected_is e line (ShownBlanks bytes ∷ tokens) h = detected_is e line tokens h.1
detected_is e line (ShownSeparator ∷ tokens) h = detected_is e line tokens h.1

both_false : (a b : Bool) → (a || b) ≡ false → (a ≡ false) × (b ≡ false)
both_false true b h = absurd (cc)
both_false false b h = (refl, h)

no_line_ends : (t : Shown) → is_newline t ≡ false → line_ends_in t ≡ []
no_line_ends (ShownNewline run) h = absurd (cc)
no_line_ends (ShownComment tag text) h = refl
no_line_ends (ShownHeader name separator subsection) h = refl
no_line_ends (ShownValueName bytes) h = refl
no_line_ends (ShownValue bytes) h = refl
no_line_ends (ShownUnfinished bytes) h = refl
no_line_ends (ShownLast bytes) h = refl
no_line_ends (ShownBlanks bytes) h = refl
no_line_ends ShownSeparator h = refl

-- without a newline no line ending is set
pub set_unended : (o : Options) (e other : List ℕ) (p : Place) (tokens : List Shown) → list_any is_newline tokens ≡ false → set_tokens o e p tokens ≡ set_tokens o other p tokens
unfolding set_tokens ends_text ends_place
set_unended o e other p [] h = refl
set_unended o e other p (t ∷ tokens) h =
    let q = both_false (is_newline t) (list_any is_newline tokens) h in
    let none = no_line_ends t q.0 in
    rw (none, set_unended o e other (behind_token p t) tokens q.1) refl

-- no LF is the last byte
abbrev pub Unended : List ℕ → Type 0
Unended text = ends (λ b. b == 10) text ≡ false

step : Bool → ℕ → Bool
step _ b = b == 10

unended_append : (x y : List ℕ) → Unended x → Unended y → Unended (x ++ y)
unfolding step
unended_append x y f g = fold-append step false x y ∙ ap (λ a. fold step a y) f ∙ g

unended_from : (p : ℕ → Bool) → p 10 ≡ false → (a : Bool) → a ≡ false → (text : List ℕ) → list_all p text ≡ true → fold step a text ≡ false
unfolding step
unended_from p fails a none [] all = none
unended_from p fails a none (b ∷ text) all =
    let q = both_true (p b) (list_all p text) all in
    unended_from p fails (b == 10) (apart p 10 b fails q.0) text q.1

unended_all : (p : ℕ → Bool) → p 10 ≡ false → (text : List ℕ) → list_all p text ≡ true → Unended text
unfolding step
unended_all p fails text all = unended_from p fails false refl text all

unended_last : (x : List ℕ) (b : ℕ) → (b == 10) ≡ false → Unended (x ++ b ∷ [])
unfolding step
unended_last x b h = fold-append step false x (b ∷ []) ∙ h

-- a line ending at the end
pub ended_last : (x e : List ℕ) → is_line_end e ≡ true → ends (λ b. b == 10) (x ++ e) ≡ true
unfolding step
ended_last x e line = fold-append step false x e ∙ one_line_end (λ e. fold step (fold step false x) e ≡ true) refl refl e line

unended_header : (h : Header) → Unended (spelled_header h)
unended_header (PlainHeader name) = unended_last (91 ∷ name) 93 refl
unended_header (DottedHeader name subsection) =
    let same : (91 ∷ (name ++ 46 ∷ subsection)) ++ 93 ∷ [] ≡ 91 ∷ (name ++ 46 ∷ (subsection ++ 93 ∷ [])) = ap (λ t. 91 ∷ t) (append_assoc name (46 ∷ subsection) (93 ∷ [])) in
    subst Unended same (unended_last (91 ∷ (name ++ 46 ∷ subsection)) 93 refl)
unended_header (QuotedHeader name blanks spelling) =
    let same : (91 ∷ (name ++ (blanks ++ 34 ∷ (spelling ++ 34 ∷ [])))) ++ 93 ∷ [] ≡ 91 ∷ (name ++ (blanks ++ 34 ∷ (spelling ++ 34 ∷ 93 ∷ []))) = ap (λ t. 91 ∷ t) (simp append_assoc) in
    subst Unended same (unended_last (91 ∷ (name ++ (blanks ++ 34 ∷ (spelling ++ 34 ∷ [])))) 93 refl)

newline_append : (xs ys : List Token) → has_newline (xs ++ ys) ≡ false → (has_newline xs ≡ false) × (has_newline ys ≡ false)
newline_append xs ys h =
    both_false (has_newline xs) (has_newline ys) (sym (ap (list_any is_newline) (map-append shown_token xs ys) ∙ list_any-append is_newline (map shown_token xs) (map shown_token ys)) ∙ h)

unended_pieces : (pieces : List Piece) → has_newline (flat_map piece_tokens pieces) ≡ false → Unended (flat pieces)
unended_pieces [] h = refl
unended_pieces (p ∷ pieces) h =
    let q = newline_append (piece_tokens p) (flat_map piece_tokens pieces) h in
    unended_append (p.text ++ 92 ∷ p.line_end) (flat pieces) (piece p.line_end q.0) (unended_pieces pieces q.1)
  where
    piece : (line_end : List ℕ) → has_newline (filled NewlineToken line_end) ≡ false → Unended (p.text ++ 92 ∷ line_end)
    piece [] h = unended_last p.text 92 refl
    piece (b ∷ bytes) h = absurd (cc)

unended_value : (pieces : List Piece) (last rest : List ℕ) → FitsValue (record { pieces = pieces; last = last }) rest → has_newline (value_tokens pieces last) ≡ false → Unended (flat pieces ++ last)
unended_value pieces last rest fits none = unended_append (flat pieces) last (front pieces none) (elim (closed_or_bare pieces last rest fits.end) [
  | inl closed ↦
      let paired = paired_rest (flat_map (λ (p : Piece). units_of p.text) pieces) (units_of last) false fits.units in
      unended_all (λ b. not (b == 10)) refl last (no_feed false paired.0 last paired.1)
  | inr bare ↦ subst Unended (sym bare.1) refl
])
  where
    front : (pieces : List Piece) → has_newline (value_tokens pieces last) ≡ false → Unended (flat pieces)
    front [] h = refl
    front (p ∷ more) h = unended_pieces (p ∷ more) (newline_append (flat_map piece_tokens (p ∷ more)) (ValueDoneToken last ∷ []) h).0

unended_assigned : (blanks : List ℕ) (a : Option Assigned) (rest : List ℕ) → FitsAssigned blanks a rest → has_newline (assigned_tokens a) ≡ false → Unended (spelled_assigned a)
unended_assigned blanks None rest fits none = refl
unended_assigned blanks (Some a) rest fits none =
    unended_append a.blanks (spelled_value a.value) (unended_all is_blank refl a.blanks fits.0)
    (unended_value a.value.pieces a.value.last rest fits.1 (newline_append (filled WhitespaceToken a.blanks) (value_tokens a.value.pieces a.value.last) none).1)

unended_part : (p : Part) (rest : List ℕ) → FitsPart p rest → has_newline (part_tokens p) ≡ false → Unended (spelled_part p)
unfolding step
unended_part (ItemPart (BlanksItem run)) rest fits none = unended_all is_blank refl run fits.1
unended_part (ItemPart (LineEndsItem run)) rest fits none = absurd (cc)
unended_part (ItemPart (CommentItem tag text)) rest fits none = unended_from (λ b. not (b == 10)) refl (tag == 10) (apart is_mark 10 tag refl fits.0) text fits.1
unended_part (ItemPart (EntryItem en)) rest fits none =
    unended_append en.name (en.blanks ++ spelled_assigned en.assigned) (unended_all is_name_byte refl en.name (name_bytes en.name fits.0))
    (unended_append en.blanks (spelled_assigned en.assigned) (unended_all is_blank refl en.blanks fits.1)
    (unended_assigned en.blanks en.assigned rest fits.2 (newline_append (filled WhitespaceToken en.blanks) (assigned_tokens en.assigned) none).1))
unended_part (HeaderPart h) rest fits none = unended_header h

-- parts without a newline don't end with LF
pub unended : (parts : List Part) → AreFit parts [] → has_newline (tokens_of parts) ≡ false → Unended (spelled parts)
unended [] fits none = refl
unended (p ∷ parts) fits none =
    let q = newline_append (part_tokens p) (tokens_of parts) none in
    unended_append (spelled_part p) (spelled parts) (unended_part p (spelled parts ++ []) fits.0 q.0) (unended parts fits.1 q.1)
