-- What is read as a value is one.
use Rattle.std.proofs.Common.{◌≡◌, ◌≢◌, ◌≤◌, arith, ℕ, zero, suc, ◌+◌, Bool, true, false, not, List, [], ◌∷◌, ◌++◌, length, drop, refl, ap, subst, cond, append_assoc, Ok, inl, inr}
use Rattle.std.specs.Prelude.{◌&&◌, ◌==◌}
use Rattle.std.proofs.lemmas.Bool.{eqb-true}
use Rattle.gitconf_text.specs.Text.{begins, ends, is_line_end}
use Rattle.gitconf_text.specs.Unit.{Class, LineFeed, Quote, Mark, Backslash, White, Other, class_of, is_white, TextUnit, Escape, Plain, units_of, units_behind}
use Rattle.gitconf_text.specs.Value.{is_value_escape, are_paired, may_follow_value, Piece, IsEnded}
use Rattle.gitconf_text.proofs.ByteLaws.{backslash_is}
use Rattle.gitconf_items.specs.declared.event.Event.{Event}
use Rattle.gitconf_read.specs.Reading.{value_from, value_end, Behind, NothingBehind, LineFeedBehind, CrLfBehind, EscapeBehind, OtherBehind, behind}
use Rattle.gitconf_text.proofs.Tests.{both_true}
use Rattle.gitconf_read.proofs.ValueAgain.{white_is_whitespace, whitespace_no_escape, pieces_text, pieces_units}

-- a text that begins with a value, whose first piece may begin between quotes
pub record ValueShape (quoted : Bool) (text : List ℕ) : Type 0 where
  pub pieces : List Piece
  pub last : List ℕ
  pub rest : List ℕ
  pub whole : text ≡ pieces_text pieces last rest
  pub paired : are_paired quoted (pieces_units pieces last) ≡ true
  pub ended : IsEnded pieces last rest

-- one unit more in front
put_in_front : (bytes : List ℕ) (unit : TextUnit) (quoted now : Bool) (pieces : List Piece) (last rest text : List ℕ)
    → ((t : List ℕ) → units_of (bytes ++ t) ≡ unit ∷ units_of t)
    → ((units : List TextUnit) → are_paired now units ≡ true → are_paired quoted (unit ∷ units) ≡ true)
    → (pieces ≡ [] → ends is_white last ≡ false → ends is_white (bytes ++ last) ≡ false)
    → text ≡ pieces_text pieces last rest → are_paired now (pieces_units pieces last) ≡ true → IsEnded pieces last rest
    → ValueShape quoted (bytes ++ text)
put_in_front bytes unit quoted now [] last rest text cut pairs dark whole paired ended = record {
  pieces = [];
  last = bytes ++ last;
  rest = rest;
  whole = simp append_assoc (ap (λ t. bytes ++ t) whole);
  paired = rw cut (pairs _ paired);
  ended = (dark refl ended.0, ended.1);
}
put_in_front bytes unit quoted now (p ∷ pieces) last rest text cut pairs dark whole paired ended = record {
  pieces = (record { text = bytes ++ p.text; line_end = p.line_end }) ∷ pieces;
  last = last;
  rest = rest;
  whole = simp append_assoc (ap (λ t. bytes ++ t) whole);
  paired = rw cut (pairs _ paired);
  ended = ended;
}

-- a byte that isn't white, in front of a text that doesn't end in white
dark_byte : (b : ℕ) → is_white b ≡ false → (t : List ℕ) → ends is_white t ≡ false → ends is_white ((b ∷ []) ++ t) ≡ false
dark_byte b e [] h = e
dark_byte b e (c ∷ t) h = h

dark_escape : (b : ℕ) → is_white b ≡ false → (t : List ℕ) → ends is_white t ≡ false → ends is_white ((92 ∷ b ∷ []) ++ t) ≡ false
dark_escape b e [] h = e
dark_escape b e (c ∷ t) h = h

-- what follows a backslash, by its kind
abbrev pub IsBehind : Behind → List ℕ → Type 0
IsBehind NothingBehind text = text ≡ []
IsBehind LineFeedBehind text = (rest : List ℕ) × (text ≡ 10 ∷ rest)
IsBehind CrLfBehind text = (rest : List ℕ) × (text ≡ 13 ∷ 10 ∷ rest)
IsBehind EscapeBehind text = (b : ℕ) × (rest : List ℕ) × (text ≡ b ∷ rest) × (is_value_escape b ≡ true)
IsBehind OtherBehind text = Unit {0}

begins_line_feed : (text : List ℕ) → begins (λ c. c == 10) text ≡ true → (rest : List ℕ) × (text ≡ 10 ∷ rest)
begins_line_feed [] h = absurd (cc)
begins_line_feed (b ∷ rest) h = (rest, ap (λ x. x ∷ rest) (eqb-true b 10 h))

pub behind_is : (text : List ℕ) → IsBehind (behind text) text
behind_is [] = refl
behind_is (b ∷ rest) = ten (b == 10) refl
  where
    escape : (t : Bool) → is_value_escape b ≡ t → IsBehind (cond t EscapeBehind OtherBehind) (b ∷ rest)
    escape true e = (b, rest, refl, e)
    escape false e = tt

    cr : (t : Bool) → (b == 13 && begins (λ c. c == 10) rest) ≡ t → IsBehind (cond t CrLfBehind (cond (is_value_escape b) EscapeBehind OtherBehind)) (b ∷ rest)
    cr true e =
        let p = both_true (b == 13) (begins (λ c. c == 10) rest) e in
        let r = begins_line_feed rest p.1 in
        let b_is : b ≡ 13 = eqb-true b 13 p.0 in
        let rest_is : rest ≡ 10 ∷ r.0 = r.1 in
        (r.0, cc)
    cr false e = escape (is_value_escape b) refl

    ten : (t : Bool) → (b == 10) ≡ t → IsBehind (cond t LineFeedBehind (cond (b == 13 && begins (λ c. c == 10) rest) CrLfBehind (cond (is_value_escape b) EscapeBehind OtherBehind))) (b ∷ rest)
    ten true e = (rest, ap (λ x. x ∷ rest) (eqb-true b 10 e))
    ten false e = cr (b == 13 && begins (λ c. c == 10) rest) refl

-- the class of an escape isn't white
escape_dark : (b : ℕ) → is_value_escape b ≡ true → is_white b ≡ false
escape_dark b h = go (class_of b) refl
  where
    go : (c : Class) → class_of b ≡ c → is_white b ≡ false
    go White e = absurd (whitespace_no_escape b (white_is_whitespace b e) h)
    go LineFeed e = rw (e, is_white) refl
    go Quote e = rw (e, is_white) refl
    go Mark e = rw (e, is_white) refl
    go Backslash e = rw (e, is_white) refl
    go Other e = rw (e, is_white) refl

-- a white byte: in front of an empty last piece it is left to what follows
white_in_front : (b : ℕ) → class_of b ≡ White → (quoted : Bool) (pieces : List Piece) (last rest text : List ℕ)
    → text ≡ pieces_text pieces last rest → are_paired quoted (pieces_units pieces last) ≡ true → IsEnded pieces last rest
    → ValueShape quoted (b ∷ text)
white_in_front b e quoted [] [] rest text whole paired ended = record {
  pieces = [];
  last = [];
  rest = b ∷ rest;
  whole = ap (λ t. b ∷ t) whole;
  paired = paired;
  ended = (refl, rw (e, may_follow_value) ended.1);
}
white_in_front b e quoted [] (c ∷ last) rest text whole paired ended =
    put_in_front (b ∷ []) (Plain b) quoted quoted [] (c ∷ last) rest text (λ t. rw (e, units_behind) refl) (λ units h. rw (e, are_paired) h) (λ _ h. h) whole paired ended
white_in_front b e quoted (p ∷ pieces) last rest text whole paired ended =
    put_in_front (b ∷ []) (Plain b) quoted quoted (p ∷ pieces) last rest text (λ t. rw (e, units_behind) refl) (λ units h. rw (e, are_paired) h) (λ none. absurd (cc)) whole paired ended

-- What is read to an end begins with a value.
pub value_takes : (text : List ℕ) (first : ℕ) (events : List Event) (joined : Bool) (from kept : ℕ) (quoted : Bool) (n skip : ℕ) (more : List Event) (end : ℕ)
    → value_from first events joined from kept quoted n skip text ≡ Ok (more, end) → skip ≤ length text → ValueShape quoted (drop skip text)
unfolding value_from
value_takes [] first events joined from kept true n skip more end read within = absurd (let h = read in cc)
value_takes [] first events joined from kept false n zero more end read within = record { pieces = []; last = []; rest = []; whole = refl; paired = refl; ended = (refl, refl) }
value_takes [] first events joined from kept false n (suc skip) more end read within = absurd (omega arith)
value_takes (b ∷ text) first events joined from kept quoted n (suc skip) more end read within =
    value_takes text first events joined from kept quoted (n + 1) skip more end read (omega arith)
value_takes (b ∷ text) first events joined from kept quoted n zero more end read within =
    go (class_of b) refl (λ events joined from kept quoted n skip. value_takes text first events joined from kept quoted n skip more end)
  where
    Later : Type 0
    Later = (events : List Event) (joined : Bool) (from kept : ℕ) (quoted : Bool) (n skip : ℕ)
        → value_from first events joined from kept quoted n skip text ≡ Ok (more, end) → skip ≤ length text → ValueShape quoted (drop skip text)

    -- a byte that stands for itself
    plain_byte : (now : Bool) → class_of b ≢ Backslash → is_white b ≡ false
        → ((units : List TextUnit) → are_paired now units ≡ true → are_paired quoted (Plain b ∷ units) ≡ true)
        → ((t : List ℕ) → units_of (b ∷ t) ≡ Plain b ∷ units_of t)
        → ValueShape now text → ValueShape quoted (b ∷ text)
    plain_byte now no_escape dark pairs cut s = put_in_front (b ∷ []) (Plain b) quoted now s.pieces s.last s.rest text cut pairs (λ _ h. dark_byte b dark s.last h) s.whole s.paired s.ended

    ends_here : (q : Bool) → quoted ≡ q → may_follow_value (b ∷ text) ≡ true → value_end first events joined from kept quoted ≡ Ok (more, end) → ValueShape quoted (b ∷ text)
    ends_here true e follows read = absurd (let h = rw e at read in cc)
    ends_here false e follows read = record { pieces = []; last = []; rest = b ∷ text; whole = refl; paired = rw e refl; ended = (refl, follows) }

    mark_byte : (q : Bool) → quoted ≡ q → class_of b ≡ Mark → Later → ValueShape quoted (b ∷ text)
    mark_byte true eq e later = plain_byte true (λ x. absurd (let h = e in cc)) (rw (e, is_white) refl) (λ units h. rw (e, are_paired) (rw eq h)) (λ t. rw (e, units_behind) refl)
        (later _ _ _ _ _ _ 0 (rw eq at (rw (e, value_from) at read)) (omega arith))
    mark_byte false eq e later = ends_here quoted refl (rw (e, may_follow_value) refl) (rw eq (rw eq at (rw (e, value_from) at read)))

    nothing_behind : (q : Bool) → quoted ≡ q → class_of b ≡ Backslash → behind text ≡ NothingBehind → text ≡ [] → ValueShape quoted (b ∷ text)
    nothing_behind true eq e h is = absurd (let r = rw eq at (rw h at (rw (e, value_from) at read)) in cc)
    nothing_behind false eq e h is = record {
      pieces = (record { text = []; line_end = [] }) ∷ [];
      last = [];
      rest = [];
      whole = (let b_is : b ≡ 92 = backslash_is b e in cc);
      paired = rw eq refl;
      ended = inr (refl, refl, refl, refl);
    }

    joint : (line_end rest : List ℕ) → is_line_end line_end ≡ true → text ≡ line_end ++ rest → class_of b ≡ Backslash → ValueShape quoted rest → ValueShape quoted (b ∷ text)
    joint line_end rest ends_so text_is e s = record {
      pieces = (record { text = []; line_end = line_end }) ∷ s.pieces;
      last = s.last;
      rest = s.rest;
      whole = (let b_is : b ≡ 92 = backslash_is b e in let t = ap (λ t. line_end ++ t) s.whole in cc);
      paired = s.paired;
      ended = inl (ends_so, s.ended);
    }

    escape : (c : ℕ) (rest : List ℕ) → text ≡ c ∷ rest → is_value_escape c ≡ true → class_of b ≡ Backslash → ValueShape quoted rest → ValueShape quoted (b ∷ text)
    escape c rest text_is escapes e s =
        let b_is : b ≡ 92 = backslash_is b e in
        let same : 92 ∷ c ∷ rest ≡ b ∷ text = cc in
        subst (λ t. ValueShape quoted t) same (put_in_front (92 ∷ c ∷ []) (Escape c) quoted quoted s.pieces s.last s.rest rest (λ t. refl) (λ units h. rw (escapes, are_paired) h)
        (λ _ h. dark_escape c (escape_dark c escapes) s.last h) s.whole s.paired s.ended)

    slash : (k : Behind) → behind text ≡ k → IsBehind k text → class_of b ≡ Backslash → Later → ValueShape quoted (b ∷ text)
    slash NothingBehind h is e later = nothing_behind quoted refl e h is
    slash LineFeedBehind h is e later =
        joint (10 ∷ []) is.0 refl is.1 e (subst (λ t. ValueShape quoted t) (ap (λ t. drop 1 t) is.1) (later _ _ _ _ _ _ 1 (rw h at (rw (e, value_from) at read)) (rw is.1 (omega arith))))
    slash CrLfBehind h is e later =
        joint (13 ∷ 10 ∷ []) is.0 refl is.1 e (subst (λ t. ValueShape quoted t) (ap (λ t. drop 2 t) is.1) (later _ _ _ _ _ _ 2 (rw h at (rw (e, value_from) at read)) (rw is.1 (omega arith))))
    slash EscapeBehind h is e later =
        escape is.0 is.1 is.2 is.3 e (subst (λ t. ValueShape quoted t) (ap (λ t. drop 1 t) is.2) (later _ _ _ _ _ _ 1 (rw h at (rw (e, value_from) at read)) (rw is.2 (omega arith))))
    slash OtherBehind h is e later = absurd (let r = rw h at (rw (e, value_from) at read) in cc)

    go : (c : Class) → class_of b ≡ c → Later → ValueShape quoted (b ∷ text)
    go LineFeed e later = ends_here quoted refl (rw (e, may_follow_value) refl) (rw (e, value_from) at read)
    go Quote e later = plain_byte (not quoted) (λ x. absurd (cc)) (rw (e, is_white) refl) (λ units h. rw (e, are_paired) h) (λ t. rw (e, units_behind) refl)
        (later _ _ _ _ _ _ 0 (rw (e, value_from) at read) (omega arith))
    go Mark e later = mark_byte quoted refl e later
    go White e later =
        let s = later _ _ _ _ _ _ 0 (rw (e, value_from) at read) (omega arith) in
        white_in_front b e quoted s.pieces s.last s.rest text s.whole s.paired s.ended
    go Other e later = plain_byte quoted (λ x. absurd (cc)) (rw (e, is_white) refl) (λ units h. rw (e, are_paired) h) (λ t. rw (e, units_behind) refl)
        (later _ _ _ _ _ _ 0 (rw (e, value_from) at read) (omega arith))
    go Backslash e later = slash (behind text) refl (behind_is text) e later
