-- A meaning as it is written: it reads back, and it is one value.
use Rattle.std.proofs.Common.{◌≡◌, ◌⊎◌, ℕ, Bool, true, false, List, [], ◌∷◌, ◌++◌, refl, ap, sym, ◌∙◌, append-nil, length-append, length, ◌+◌, ◌<◌, cond, arith, inl, inr}
use Rattle.std.specs.Prelude.{◌&&◌, ◌||◌, ◌==◌, flat_map}
use Rattle.std.specs.List.{fold, list_any}
use Rattle.std.proofs.lemmas.Bool.{eqb-true, and_parts, or_parts, or_cases, or_from}
use Rattle.gitconf_text.specs.Bytes.{is_blank, is_whitespace}
use Rattle.gitconf_text.specs.Text.{begins, ends, begins_line_end}
use Rattle.gitconf_text.specs.Unit.{is_white, is_mark, TextUnit, Plain, units_behind, units_of}
use Rattle.gitconf_text.specs.Value.{IsValue, FitsValue, are_paired, may_follow_value, plain, escaped_byte, needs_quotes, escaped}
use Rattle.gitconf_text.proofs.ValuesPlain.{meaning, meaning_of_other, other_byte}

-- a byte that is written as it is
written_alone : (b : ℕ) → (b == 10) ≡ false → (b == 9) ≡ false → (b == 34) ≡ false → (b == 92) ≡ false → escaped_byte b ≡ b ∷ []
written_alone b e f g h = rw (e, f, g, h) refl

-- a written byte is a backslash with one of four letters, or itself
data Written (b : ℕ) : Type 0 where
  LineFeedWritten : b ≡ 10 → Written b
  TabWritten : b ≡ 9 → Written b
  QuoteWritten : b ≡ 34 → Written b
  BackslashWritten : b ≡ 92 → Written b
  ItselfWritten : (b == 10) ≡ false → (b == 34) ≡ false → (b == 92) ≡ false → escaped_byte b ≡ b ∷ [] → Written b

written : (b : ℕ) → Written b
written b = go (b == 10) (b == 9) (b == 34) (b == 92) refl refl refl refl
  where
    go : (l t q s : Bool) → (b == 10) ≡ l → (b == 9) ≡ t → (b == 34) ≡ q → (b == 92) ≡ s → Written b
    go true t q s e f g h = LineFeedWritten (eqb-true b 10 e)
    go false true q s e f g h = TabWritten (eqb-true b 9 f)
    go false false true s e f g h = QuoteWritten (eqb-true b 34 g)
    go false false false true e f g h = BackslashWritten (eqb-true b 92 h)
    go false false false false e f g h = ItselfWritten e g h (written_alone b e f g h)

-- what was written means the bytes
meaning_of_written : (bytes rest : List ℕ) → meaning false (flat_map escaped_byte bytes ++ rest) ≡ bytes ++ meaning false rest
meaning_of_written [] rest = refl
meaning_of_written (b ∷ bytes) rest = go (written b) (meaning_of_written bytes rest)
  where
    go : Written b → meaning false (flat_map escaped_byte bytes ++ rest) ≡ bytes ++ meaning false rest
        → meaning false (flat_map escaped_byte (b ∷ bytes) ++ rest) ≡ b ∷ (bytes ++ meaning false rest)
    go (LineFeedWritten e) later = rw e (ap (λ t. 10 ∷ t) later)
    go (TabWritten e) later = rw e (ap (λ t. 9 ∷ t) later)
    go (QuoteWritten e) later = rw e (ap (λ t. 34 ∷ t) later)
    go (BackslashWritten e) later = rw e (ap (λ t. 92 ∷ t) later)
    go (ItselfWritten e g h alone) later =
        ap (λ t. meaning false ((t ++ flat_map escaped_byte bytes) ++ rest)) alone
        ∙ meaning_of_other b (flat_map escaped_byte bytes ++ rest) g h ∙ ap (λ t. b ∷ t) later

-- Decoding undoes escaping.
pub plain-escaped : (bytes : List ℕ) → plain (escaped bytes) ≡ bytes
plain-escaped bytes = go (needs_quotes bytes) refl
  where
    go : (t : Bool) → needs_quotes bytes ≡ t → plain (escaped bytes) ≡ bytes
    go true e = rw e (meaning_of_written bytes (34 ∷ []) ∙ append-nil bytes)
    go false e = rw e (ap (meaning false) (sym (append-nil (flat_map escaped_byte bytes))) ∙ meaning_of_written bytes [] ∙ append-nil bytes)

-- a byte that may be as it is changes no pairing
pairs_other : (b : ℕ) (quoted : Bool) (units : List TextUnit) → (b == 10) ≡ false → (b == 34) ≡ false → (b == 92) ≡ false
    → (is_mark b ≡ true → quoted ≡ true) → are_paired quoted (Plain b ∷ units) ≡ are_paired quoted units
pairs_other b quoted units e f h marked = go (b == 59 || b == 35) (is_whitespace b) refl refl
  where
    go : (m w : Bool) → (b == 59 || b == 35) ≡ m → is_whitespace b ≡ w → are_paired quoted (Plain b ∷ units) ≡ are_paired quoted units
    go true w m k =
        let mark : is_mark b ≡ true = rw (e, f, m, is_mark) refl in
        let between : quoted ≡ true = marked mark in
        rw (e, f, m, are_paired) (rw between refl)
    go false true m k = rw (e, f, m, h, k, are_paired) refl
    go false false m k = rw (e, f, m, h, k, are_paired) refl

-- what was written changes no pairing, where its marks are in quotes
pairs_written : (bytes rest : List ℕ) (quoted : Bool) → (list_any is_mark bytes ≡ true → quoted ≡ true)
    → are_paired quoted (units_behind false (flat_map escaped_byte bytes ++ rest)) ≡ are_paired quoted (units_behind false rest)
pairs_written [] rest quoted marked = refl
pairs_written (b ∷ bytes) rest quoted marked = go (written b) (pairs_written bytes rest quoted (λ h. marked (any_behind (is_mark b) (list_any is_mark bytes) h)))
  where
    any_behind : (x y : Bool) → y ≡ true → (x || y) ≡ true
    any_behind true y h = refl
    any_behind false y h = h

    any_here : (x y : Bool) → x ≡ true → (x || y) ≡ true
    any_here true y h = refl
    any_here false y h = absurd (cc)

    go : Written b → are_paired quoted (units_behind false (flat_map escaped_byte bytes ++ rest)) ≡ are_paired quoted (units_behind false rest)
        → are_paired quoted (units_behind false (flat_map escaped_byte (b ∷ bytes) ++ rest)) ≡ are_paired quoted (units_behind false rest)
    go (LineFeedWritten e) later = rw e later
    go (TabWritten e) later = rw e later
    go (QuoteWritten e) later = rw e later
    go (BackslashWritten e) later = rw e later
    go (ItselfWritten e g h alone) later =
        ap (λ t. are_paired quoted (units_behind false ((t ++ flat_map escaped_byte bytes) ++ rest))) alone
        ∙ ap (are_paired quoted) (other_byte b (flat_map escaped_byte bytes ++ rest) g h).0
        ∙ pairs_other b quoted (units_behind false (flat_map escaped_byte bytes ++ rest)) e g h (λ mark. marked (any_here (is_mark b) (list_any is_mark bytes) mark)) ∙ later

units_fit : (bytes : List ℕ) → are_paired false (units_of (escaped bytes)) ≡ true
units_fit bytes = go (needs_quotes bytes) refl
  where
    go : (t : Bool) → needs_quotes bytes ≡ t → are_paired false (units_of (escaped bytes)) ≡ true
    go true e = rw e (pairs_written bytes (34 ∷ []) true (λ _. refl))
    go false e =
        let none : list_any is_mark bytes ≡ false = (or_parts (begins is_whitespace bytes || ends is_whitespace bytes) (list_any is_mark bytes) e).1 in
        rw e (ap (λ t. are_paired false (units_of t)) (sym (append-nil (flat_map escaped_byte bytes)))
        ∙ pairs_written bytes [] false (λ some. sym none ∙ some))

-- a byte that fails a test isn't one that passes it
differs : (test : ℕ → Bool) (k b : ℕ) → test k ≡ true → test b ≡ false → (b == k) ≡ false
differs test k b passes fails = go (b == k) refl
  where
    go : (t : Bool) → (b == k) ≡ t → (b == k) ≡ false
    go false e = e
    go true e = absurd (let same : test b ≡ test k = ap test (eqb-true b k e) in cc)

-- a line ending is no blank, and the front of an empty value
front_of_rest : (rest : List ℕ) → (rest ≡ []) ⊎ (begins_line_end rest ≡ true) → begins is_blank rest ≡ false
front_of_rest [] line = refl
front_of_rest (b ∷ rest) (inl none) = absurd (cc)
front_of_rest (b ∷ rest) (inr line) = elim (or_cases (b == 10) (b == 13 && begins (λ c. c == 10) rest) line) [
  | inl lf ↦ rw (eqb-true b 10 lf) refl
  | inr cr ↦ rw (eqb-true b 13 (and_parts (b == 13) (begins (λ c. c == 10) rest) cr).0) refl
]

front_of_written : (bytes rest : List ℕ) → begins is_whitespace bytes ≡ false → begins is_blank rest ≡ false → begins is_blank (flat_map escaped_byte bytes ++ rest) ≡ false
front_of_written [] rest dark front = front
front_of_written (b ∷ bytes) rest dark front = go (written b)
  where
    go : Written b → begins is_blank (flat_map escaped_byte (b ∷ bytes) ++ rest) ≡ false
    go (LineFeedWritten e) = rw e refl
    go (TabWritten e) = rw e refl
    go (QuoteWritten e) = rw e refl
    go (BackslashWritten e) = rw e refl
    go (ItselfWritten e g h alone) =
        ap (λ t. begins is_blank ((t ++ flat_map escaped_byte bytes) ++ rest)) alone
        ∙ or_from (b == 32) (b == 9) (differs is_whitespace 32 b refl dark) (differs is_whitespace 9 b refl dark)

front_fits : (bytes rest : List ℕ) → (rest ≡ []) ⊎ (begins_line_end rest ≡ true) → begins is_blank (escaped bytes ++ rest) ≡ false
front_fits bytes rest line = go (needs_quotes bytes) refl
  where
    go : (t : Bool) → needs_quotes bytes ≡ t → begins is_blank (escaped bytes ++ rest) ≡ false
    go true e = rw e refl
    go false e =
        let dark : begins is_whitespace bytes ≡ false = (or_parts (begins is_whitespace bytes) (ends is_whitespace bytes) (or_parts (begins is_whitespace bytes || ends is_whitespace bytes) (list_any is_mark bytes) e).0).0 in
        rw e (front_of_written bytes rest dark (front_of_rest rest line))

-- white bytes are white space
no_white : (b : ℕ) → is_whitespace b ≡ false → is_white b ≡ false
no_white b dark = go (b == 10) (b == 34) (b == 59 || b == 35) (b == 92) refl refl refl refl
  where
    go : (l q m s : Bool) → (b == 10) ≡ l → (b == 34) ≡ q → (b == 59 || b == 35) ≡ m → (b == 92) ≡ s → is_white b ≡ false
    go true q m s e f g h = rw (e, is_white) refl
    go false true m s e f g h = rw (e, f, is_white) refl
    go false false true s e f g h = rw (e, f, g, is_white) refl
    go false false false true e f g h = rw (e, f, g, h, is_white) refl
    go false false false false e f g h = rw (e, f, g, h, dark, is_white) refl

end_of_written : (bytes : List ℕ) (before space : Bool) → (space ≡ false → before ≡ false) → fold (λ (_ : Bool) b. is_whitespace b) space bytes ≡ false
    → fold (λ (_ : Bool) b. is_white b) before (flat_map escaped_byte bytes) ≡ false
end_of_written [] before space so dark = so dark
end_of_written (b ∷ bytes) before space so dark = go (written b) (λ before so. end_of_written bytes before (is_whitespace b) so dark)
  where
    go : Written b → ((now : Bool) → (is_whitespace b ≡ false → now ≡ false) → fold (λ (_ : Bool) b. is_white b) now (flat_map escaped_byte bytes) ≡ false)
        → fold (λ (_ : Bool) b. is_white b) before (flat_map escaped_byte (b ∷ bytes)) ≡ false
    go (LineFeedWritten e) later = rw e (later false (λ _. refl))
    go (TabWritten e) later = rw e (later false (λ _. refl))
    go (QuoteWritten e) later = rw e (later false (λ _. refl))
    go (BackslashWritten e) later = rw e (later false (λ _. refl))
    go (ItselfWritten e g h alone) later =
        ap (λ t. fold (λ (_ : Bool) b. is_white b) before (t ++ flat_map escaped_byte bytes)) alone ∙ later (is_white b) (no_white b)

end_with : (test : ℕ → Bool) (text : List ℕ) (b : ℕ) (before : Bool) → fold (λ (_ : Bool) x. test x) before (text ++ b ∷ []) ≡ test b
end_with test [] b before = refl
end_with test (c ∷ text) b before = end_with test text b (test c)

end_fits : (bytes : List ℕ) → ends is_white (escaped bytes) ≡ false
end_fits bytes = go (needs_quotes bytes) refl
  where
    go : (t : Bool) → needs_quotes bytes ≡ t → ends is_white (escaped bytes) ≡ false
    go true e = rw e (end_with is_white (flat_map escaped_byte bytes) 34 (is_white 34))
    go false e =
        let dark : ends is_whitespace bytes ≡ false = (or_parts (begins is_whitespace bytes) (ends is_whitespace bytes) (or_parts (begins is_whitespace bytes || ends is_whitespace bytes) (list_any is_mark bytes) e).0).1 in
        rw e (end_of_written bytes false false (λ h. h) dark)

-- a line ending, or nothing, may follow a value
line_follows : (rest : List ℕ) → (rest ≡ []) ⊎ (begins_line_end rest ≡ true) → may_follow_value rest ≡ true
line_follows [] line = refl
line_follows (b ∷ rest) (inl none) = absurd (cc)
line_follows (b ∷ rest) (inr line) = elim (or_cases (b == 10) (b == 13 && begins (λ c. c == 10) rest) line) [
  | inl lf ↦ rw (eqb-true b 10 lf) refl
  | inr cr ↦ let parts = and_parts (b == 13) (begins (λ c. c == 10) rest) cr in rw (eqb-true b 13 parts.0) (line_feed rest parts.1)
]
  where
    line_feed : (more : List ℕ) → begins (λ c. c == 10) more ≡ true → may_follow_value more ≡ true
    line_feed [] lf = absurd (cc)
    line_feed (c ∷ more) lf = rw (eqb-true c 10 lf) refl

-- What was written is one value, before a line ending or nothing.
pub written_fits : (bytes rest : List ℕ) → (rest ≡ []) ⊎ (begins_line_end rest ≡ true) → FitsValue (record { pieces = []; last = escaped bytes }) rest
written_fits bytes rest line = record {
  front = front_fits bytes rest line;
  units = units_fit bytes;
  end = (end_fits bytes, line_follows rest line);
}

pub written_is_value : (bytes rest : List ℕ) → (rest ≡ []) ⊎ (begins_line_end rest ≡ true) → IsValue (escaped bytes) (escaped bytes) rest
written_is_value bytes rest line = (record { pieces = []; last = escaped bytes }, refl, refl, written_fits bytes rest line)

-- `is_mark`, by the bytes
pub mark_is : (b : ℕ) → is_mark b ≡ (b == 59 || b == 35)
mark_is b = go (b == 10) (b == 34) (b == 59 || b == 35) (b == 92) (is_whitespace b) refl refl refl refl refl
  where
    go : (l q m s w : Bool) → (b == 10) ≡ l → (b == 34) ≡ q → (b == 59 || b == 35) ≡ m → (b == 92) ≡ s → is_whitespace b ≡ w → is_mark b ≡ (b == 59 || b == 35)
    go true q m s w e f g h k = rw (eqb-true b 10 e) refl
    go false true m s w e f g h k = rw (eqb-true b 34 f) refl
    go false false true s w e f g h k = rw (e, f, g, is_mark) refl
    go false false false true w e f g h k = rw (e, f, g, h, is_mark) refl
    go false false false false true e f g h k = rw (e, f, g, h, k, is_mark) refl
    go false false false false false e f g h k = rw (e, f, g, h, k, is_mark) refl

-- quotes round the whole are two bytes more
pub length-escaped : (bytes : List ℕ) → length (escaped bytes) ≡ length (flat_map escaped_byte bytes) + cond (needs_quotes bytes) 2 0
length-escaped bytes = go (needs_quotes bytes) refl
  where
    go : (t : Bool) → needs_quotes bytes ≡ t → length (escaped bytes) ≡ length (flat_map escaped_byte bytes) + cond (needs_quotes bytes) 2 0
    go true e = rw (e, length-append) (omega arith)
    go false e = rw e (omega arith)

-- nothing is written as nothing
pub some_escaped : (bytes : List ℕ) → 0 < length (escaped bytes) → 0 < length bytes
some_escaped [] some = absurd (omega arith)
some_escaped (b ∷ bytes) some = omega arith

pub ruleset escaping = (length-escaped, some_escaped)
