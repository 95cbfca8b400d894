-- A value that fits is read to its pieces.
use Rattle.std.proofs.Common.{◌≡◌, ℕ, ◌+◌, Bool, true, false, not, List, [], ◌∷◌, ◌++◌, length, refl, ap, ◌∙◌, arith, cond, append-nil, append_assoc, add-zero, inl, inr, Ok}
use Rattle.std.specs.Prelude.{◌==◌, ◌⊎◌, if◌then◌else◌}
use Rattle.std.specs.List.{fold, flat_map}
use Rattle.std.specs.Prelude.{◌||◌}
use Rattle.gitconf_text.specs.Bytes.{is_whitespace}
use Rattle.std.proofs.lemmas.Bool.Decides.{nat_tests}
use Rattle.gitconf_text.specs.Unit.{Class, LineFeed, Quote, Mark, Backslash, White, Other, class_of, TextUnit, units_behind, units_of, is_white}
use Rattle.gitconf_text.specs.Value.{is_value_escape, are_paired, may_follow_value, Piece, IsEnded}
use Rattle.gitconf_text.proofs.ByteLaws.{line_end_is, unchosen}
use Rattle.gitconf_text.proofs.Tests.{both_true, apart}
use Rattle.gitconf_items.specs.declared.event.Event.{Event}
use Rattle.gitconf_read.specs.Reading.{Read, value_from, value_end, span, behind, EscapeBehind}
use Rattle.gitconf_items.specs.declared.event.Event.TheVariants as kinds

-- after the last byte that isn't white, or `kept` where all are
abbrev pub kept_behind : (kept n : ℕ) → List ℕ → ℕ
kept_behind kept n [] = kept
kept_behind kept n (b ∷ rest) = kept_behind (elim (class_of b) [ White ↦ kept | _ ↦ n + 1 ]) (n + 1) rest

abbrev pub skip_of : Bool → ℕ
skip_of true = 1
skip_of false = 0

-- an escape that a value may have is told as one
pub escape_behind : (b : ℕ) (rest : List ℕ) → is_value_escape b ≡ true → behind (b ∷ rest) ≡ EscapeBehind
escape_behind b rest h = rw (apart is_value_escape 10 b refl h, apart is_value_escape 13 b refl h, h) refl

-- after a backslash of paired units is an escape
pub paired_escape : (text : List ℕ) (more : List TextUnit) (quoted : Bool) (rest : List ℕ) → are_paired quoted (units_behind true text ++ more) ≡ true → behind (text ++ rest) ≡ EscapeBehind
paired_escape [] more quoted rest paired = absurd (let e = paired in cc)
paired_escape (b ∷ text) more quoted rest paired = escape_behind b (text ++ rest) (both_true _ _ paired).0

-- no white byte is an escape
pub white_is_whitespace : (b : ℕ) → class_of b ≡ White → is_whitespace b ≡ true
white_is_whitespace b h =
    let a = unchosen (b == 10) LineFeed _ White (λ e. absurd (cc)) h in
    let c = unchosen (b == 34) Quote _ White (λ e. absurd (cc)) a.1 in
    let d = unchosen (b == 59 || b == 35) Mark _ White (λ e. absurd (cc)) c.1 in
    let f = unchosen (b == 92) Backslash _ White (λ e. absurd (cc)) d.1 in
    go (is_whitespace b) refl f.1
  where
    go : (t : Bool) → is_whitespace b ≡ t → cond (is_whitespace b) White Other ≡ White → is_whitespace b ≡ true
    go true e k = e
    go false e k = absurd (let g = rw e at k in cc)

pub whitespace_no_escape : (b : ℕ) → is_whitespace b ≡ true → is_value_escape b ≡ true → ⊥
whitespace_no_escape b white escape = grind (arith, nat_tests)

-- after a backslash of paired units is no white byte
pub kept_paired : (text : List ℕ) (more : List TextUnit) (quoted : Bool) → are_paired quoted (units_behind true text ++ more) ≡ true
    → (kept other n : ℕ) → kept_behind kept n text ≡ kept_behind other n text
kept_paired [] more quoted paired kept other n = absurd (let e = paired in cc)
kept_paired (b ∷ text) more quoted paired kept other n = go (class_of b) refl
  where
    go : (c : Class) → class_of b ≡ c → kept_behind kept n (b ∷ text) ≡ kept_behind other n (b ∷ text)
    go White e = absurd (whitespace_no_escape b (white_is_whitespace b e) (both_true _ _ paired).0)
    go LineFeed e = rw (e, kept_behind) refl
    go Quote e = rw (e, kept_behind) refl
    go Mark e = rw (e, kept_behind) refl
    go Backslash e = rw (e, kept_behind) refl
    go Other e = rw (e, kept_behind) refl

abbrev PieceAgain : (escaped : Bool) (text rest : List ℕ) (first : ℕ) (events : List Event) (joined : Bool) (from kept : ℕ) (quoted : Bool) (n : ℕ) (more : List TextUnit) (k end : ℕ) (answer : Read) → Type 0
PieceAgain escaped text rest first events joined from kept quoted n more k end answer =
    (escaped ≡ true → kept ≡ n + 1)
    → kept_behind kept n text ≡ k
    → n + length text ≡ end
    → are_paired quoted (units_behind escaped text ++ more) ≡ true
    → ((now : Bool) → are_paired now more ≡ true → value_from first events joined from k now end 0 rest ≡ answer)
    → value_from first events joined from kept quoted n (skip_of escaped) (text ++ rest) ≡ answer

-- The bytes of a piece are read up to what follows it.
pub piece_again : (escaped : Bool) (text rest : List ℕ) (first : ℕ) (events : List Event) (joined : Bool) (from kept : ℕ) (quoted : Bool) (n : ℕ) (more : List TextUnit) (k end : ℕ) (answer : Read)
    → PieceAgain escaped text rest first events joined from kept quoted n more k end answer
unfolding value_from
piece_again true [] rest first events joined from kept quoted n more k end answer at kept_is end_is paired last = absurd (let e = paired in cc)
piece_again false [] rest first events joined from kept quoted n more k end answer at kept_is end_is paired last =
    let e : n ≡ end = omega arith in
    rw (kept_is, e) (last quoted paired)
piece_again true (b ∷ text) rest first events joined from kept quoted n more k end answer at kept_is end_is paired last =
    let here : kept ≡ n + 1 = at refl in
    let same : kept_behind kept (n + 1) text ≡ k = go (class_of b) refl in
    piece_again false text rest first events joined from kept quoted (n + 1) more k end answer (λ h. absurd (cc)) same (omega arith) (both_true _ _ paired).1 last
  where
    go : (c : Class) → class_of b ≡ c → kept_behind kept (n + 1) text ≡ k
    go White e = rw (e, kept_behind) at kept_is
    go LineFeed e = rw (at refl) (rw (e, kept_behind) at kept_is)
    go Quote e = rw (at refl) (rw (e, kept_behind) at kept_is)
    go Mark e = rw (at refl) (rw (e, kept_behind) at kept_is)
    go Backslash e = rw (at refl) (rw (e, kept_behind) at kept_is)
    go Other e = rw (at refl) (rw (e, kept_behind) at kept_is)
piece_again false (b ∷ text) rest first events joined from kept quoted n more k end answer at kept_is end_is paired last =
    go (class_of b) refl (λ escaped kept quoted. piece_again escaped text rest first events joined from kept quoted (n + 1) more k end answer)
  where
    off : n + 1 + length text ≡ end
    off = omega arith

    go : (c : Class) → class_of b ≡ c
        → ((escaped : Bool) (kept : ℕ) (quoted : Bool) → PieceAgain escaped text rest first events joined from kept quoted (n + 1) more k end answer)
        → value_from first events joined from kept quoted n 0 ((b ∷ text) ++ rest) ≡ answer
    go LineFeed e later = absurd (let h = rw (e, units_behind) at paired in let h2 = rw (e, are_paired) at h in cc)
    go Quote e later = rw (e, value_from) (later false (n + 1) (not quoted) (λ h. absurd (cc)) (rw (e, kept_behind) at kept_is) off
        (let h = rw (e, units_behind) at paired in rw (e, are_paired) at h) last)
    go Mark e later =
        let h = rw (e, units_behind) at paired in
        let p = both_true quoted (are_paired quoted (units_behind false text ++ more)) (rw (e, are_paired) at h) in
        rw (e, value_from) (rw p.0 (later false (n + 1) true (λ h. absurd (cc)) (rw (e, kept_behind) at kept_is) off (rw p.0 at p.1) last))
    go Backslash e later =
        let h = rw (e, units_behind) at paired in
        rw (e, value_from) (rw (paired_escape text more quoted rest h) (later true (n + 1 + 1) quoted (λ _. refl) (kept_paired text more quoted h (n + 1 + 1) (n + 1) (n + 1) ∙ rw (e, kept_behind) at kept_is) off h last))
    go White e later = rw (e, value_from) (later false kept quoted (λ h. absurd (cc)) (rw (e, kept_behind) at kept_is) off
        (let h = rw (e, units_behind) at paired in rw (e, are_paired) at h) last)
    go Other e later = rw (e, value_from) (later false (n + 1) quoted (λ h. absurd (cc)) (rw (e, kept_behind) at kept_is) off
        (let h = rw (e, units_behind) at paired in rw (e, are_paired) at h) last)

-- what doesn't end in white is kept whole
pub kept_behind-whole : (text : List ℕ) (before : Bool) (kept n : ℕ) → fold (λ (_ : Bool) b. is_white b) before text ≡ false → (before ≡ false → kept ≡ n)
    → kept_behind kept n text ≡ n + length text
kept_behind-whole [] before kept n ends at = let e : kept ≡ n = at ends in omega arith
kept_behind-whole (b ∷ text) before kept n ends at = go (class_of b) refl (kept_behind-whole text)
  where
    go : (c : Class) → class_of b ≡ c
        → ((before : Bool) (kept n : ℕ) → fold (λ (_ : Bool) b. is_white b) before text ≡ false → (before ≡ false → kept ≡ n) → kept_behind kept n text ≡ n + length text)
        → kept_behind kept n (b ∷ text) ≡ n + length (b ∷ text)
    go White e later = rw (e, kept_behind) (later true kept (n + 1) (rw (e, fold, is_white) at ends) (λ h. absurd (cc)) ∙ (omega arith))
    go LineFeed e later = rw (e, kept_behind) (later false (n + 1) (n + 1) (rw (e, fold, is_white) at ends) (λ _. refl) ∙ (omega arith))
    go Quote e later = rw (e, kept_behind) (later false (n + 1) (n + 1) (rw (e, fold, is_white) at ends) (λ _. refl) ∙ (omega arith))
    go Mark e later = rw (e, kept_behind) (later false (n + 1) (n + 1) (rw (e, fold, is_white) at ends) (λ _. refl) ∙ (omega arith))
    go Backslash e later = rw (e, kept_behind) (later false (n + 1) (n + 1) (rw (e, fold, is_white) at ends) (λ _. refl) ∙ (omega arith))
    go Other e later = rw (e, kept_behind) (later false (n + 1) (n + 1) (rw (e, fold, is_white) at ends) (λ _. refl) ∙ (omega arith))

-- what may follow a value ends it
pub value_stops : (rest : List ℕ) (first : ℕ) (events : List Event) (joined : Bool) (from kept n : ℕ) → may_follow_value rest ≡ true
    → value_from first events joined from kept false n 0 rest ≡ value_end first events joined from kept false
unfolding value_from
value_stops [] first events joined from kept n follows = refl
value_stops (b ∷ rest) first events joined from kept n follows = go (class_of b) refl (value_stops rest first events joined from kept (n + 1))
  where
    go : (c : Class) → class_of b ≡ c
        → (may_follow_value rest ≡ true → value_from first events joined from kept false (n + 1) 0 rest ≡ value_end first events joined from kept false)
        → value_from first events joined from kept false n 0 (b ∷ rest) ≡ value_end first events joined from kept false
    go White e later = rw (e, value_from) (later (rw (e, may_follow_value) at follows))
    go LineFeed e later = rw (e, value_from) refl
    go Mark e later = rw (e, value_from) refl
    go Quote e later = absurd (let h = rw (e, may_follow_value) at follows in cc)
    go Backslash e later = absurd (let h = rw (e, may_follow_value) at follows in cc)
    go Other e later = absurd (let h = rw (e, may_follow_value) at follows in cc)

-- pieces, the last one, and what follows, grouped to the right
abbrev pub pieces_text : List Piece → (last rest : List ℕ) → List ℕ
pieces_text [] last rest = last ++ rest
pieces_text (p ∷ pieces) last rest = p.text ++ (92 ∷ (p.line_end ++ pieces_text pieces last rest))

abbrev pub pieces_units : List Piece → (last : List ℕ) → List TextUnit
pieces_units [] last = units_of last
pieces_units (p ∷ pieces) last = units_of p.text ++ pieces_units pieces last

pub pieces_text-is : (pieces : List Piece) (last rest : List ℕ) → (flat_map (λ (p : Piece). p.text ++ 92 ∷ p.line_end) pieces ++ last) ++ rest ≡ pieces_text pieces last rest
pieces_text-is [] last rest = refl
pieces_text-is (p ∷ pieces) last rest = simp append_assoc (ap (λ t. p.text ++ (92 ∷ (p.line_end ++ t))) (simp append_assoc at (pieces_text-is pieces last rest)))

pub pieces_units-is : (pieces : List Piece) (last : List ℕ) → flat_map (λ (p : Piece). units_of p.text) pieces ++ units_of last ≡ pieces_units pieces last
pieces_units-is [] last = refl
pieces_units-is (p ∷ pieces) last = rw append_assoc (ap (λ t. units_of p.text ++ t) (pieces_units-is pieces last))

-- the events of a value whose first piece begins at the offset n, and the offset after it
abbrev pub newline_after : List Event → (n : ℕ) → List ℕ → List Event
newline_after events n [] = events
newline_after events n (b ∷ bytes) = events ++ kinds.Newline (span n (n + length (b ∷ bytes))) ∷ []

abbrev pub value_after : List Event → (joined : Bool) → (n : ℕ) → List Piece → (last : List ℕ) → List Event × ℕ
value_after events joined n [] last = (events ++ (if joined then kinds.ValueDone (span n (n + length last)) else kinds.Value (span n (n + length last))) ∷ [], n + length last)
value_after events joined n (p ∷ pieces) last =
    let m = n + length p.text in
    value_after (newline_after (events ++ kinds.ValueNotDone (span n m) ∷ []) (m + 1) p.line_end) true (m + 1 + length p.line_end) pieces last

-- A value that fits is read to its pieces, and up to its end.
pub pieces_again : (pieces : List Piece) (last rest : List ℕ) (first : ℕ) (events : List Event) (joined : Bool) (n : ℕ) (quoted : Bool)
    → are_paired quoted (pieces_units pieces last) ≡ true → IsEnded pieces last rest
    → value_from first events joined n n quoted n 0 (pieces_text pieces last rest) ≡ Ok (value_after events joined n pieces last)
unfolding value_from
pieces_again [] last rest first events joined n quoted paired ended =
    piece_again false last rest first events joined n n quoted n [] (kept_behind n n last) (n + length last) _ (λ h. absurd (cc)) refl refl (rw append-nil paired)
    (λ now closed. go now closed)
  where
    whole : kept_behind n n last ≡ n + length last
    whole = kept_behind-whole last false n n ended.0 (λ _. refl)

    go : (now : Bool) → are_paired now [] ≡ true
        → value_from first events joined n (kept_behind n n last) now (n + length last) 0 rest ≡ Ok (value_after events joined n [] last)
    go true closed = absurd (let e = closed in cc)
    go false closed = value_stops rest first events joined n (kept_behind n n last) (n + length last) ended.1 ∙ rw whole refl
pieces_again (p ∷ pieces) last rest first events joined n quoted paired ended =
    piece_again false p.text (92 ∷ (p.line_end ++ pieces_text pieces last rest)) first events joined n n quoted n (pieces_units pieces last)
    (kept_behind n n p.text) (n + length p.text) _ (λ h. absurd (cc)) refl refl paired
    (λ now closed. go now closed ended (λ events n quoted. pieces_again pieces last rest first events true n quoted))
  where
    m : ℕ
    m = n + length p.text

    Later : Type 0
    Later = (events : List Event) (n : ℕ) (quoted : Bool) → are_paired quoted (pieces_units pieces last) ≡ true → IsEnded pieces last rest
        → value_from first events true n n quoted n 0 (pieces_text pieces last rest) ≡ Ok (value_after events true n pieces last)

    Goal : Bool → Type 0
    Goal now = value_from first events joined n (kept_behind n n p.text) now (n + length p.text) 0 (92 ∷ (p.line_end ++ pieces_text pieces last rest))
        ≡ Ok (value_after events joined n (p ∷ pieces) last)

    line : (now : Bool) → are_paired now (pieces_units pieces last) ≡ true → IsEnded pieces last rest → (p.line_end ≡ 10 ∷ []) ⊎ (p.line_end ≡ 13 ∷ 10 ∷ []) → Later → Goal now
    line now closed ended (inl e) later = rw e (later _ _ now closed ended)
    line now closed ended (inr e) later =
        let off : n + length p.text + 1 + 1 + 1 ≡ n + length p.text + 1 + 2 = omega arith in
        let f = n + length p.text + 1 + 2 in
        let more = events ++ kinds.ValueNotDone (span n (n + length p.text)) ∷ [] ++ kinds.Newline (span (n + length p.text + 1) f) ∷ [] in
        rw e (ap (λ k. value_from first more true f f now k 0 (pieces_text pieces last rest)) off ∙ later more f now closed ended)

    go : (now : Bool) → are_paired now (pieces_units pieces last) ≡ true → IsEnded (p ∷ pieces) last rest → Later → Goal now
    go now closed (inl e) later = line now closed e.1 (line_end_is p.line_end e.0) later
    go true closed (inr e) later = absurd (let h = rw (e.1, e.2) at closed in cc)
    go false closed (inr e) later = rw (e.0, e.1, e.2, e.3) (simp add-zero)
