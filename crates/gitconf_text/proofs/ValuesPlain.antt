-- The meaning of a raw text, byte by byte, and without its enclosing quotes.
use Rattle.std.proofs.Common.{◌≡◌, ℕ, zero, suc, ◌+◌, ◌-◌, ◌≤◌, Bool, true, false, not, List, [], ◌∷◌, ◌++◌, length, take, drop, refl, ap, sym, subst, ◌∙◌, arith, cond, length-append, append_assoc, get_or}
use Rattle.std.specs.Prelude.{◌&&◌, ◌||◌, ◌==◌, nat_le, flat_map}
use Rattle.std.specs.List.{fold, list_any}
use Rattle.std.proofs.lemmas.Bool.{eqb-true, and_parts, or_parts, not-true, cond-true, cond-false}
use Rattle.gitconf_text.specs.Bytes.{is_whitespace}
use Rattle.gitconf_text.specs.Text.{ends}
use Rattle.gitconf_text.specs.Unit.{Plain, units_behind}
use Rattle.gitconf_text.specs.Value.{escape_meaning, unit_meaning, plain}
use Rattle.gitconf_text.specs.Stripped.{inner, is_enclosed, stripped_times, stripped, is_coded}

-- the meaning of a text, after a backslash where `escaped` is true
abbrev pub meaning : (escaped : Bool) → List ℕ → List ℕ
meaning escaped text = flat_map unit_meaning (units_behind escaped text)

-- a byte that is neither a quote nor a backslash is a unit, and stands for itself
pub other_byte : (b : ℕ) (rest : List ℕ) → (b == 34) ≡ false → (b == 92) ≡ false
    → (units_behind false (b ∷ rest) ≡ Plain b ∷ units_behind false rest) × (unit_meaning (Plain b) ≡ b ∷ [])
other_byte b rest no_quote no_slash = go (b == 10) (b == 59 || b == 35) (is_whitespace b) refl refl refl
  where
    go : (l m w : Bool) → (b == 10) ≡ l → (b == 59 || b == 35) ≡ m → is_whitespace b ≡ w
        → (units_behind false (b ∷ rest) ≡ Plain b ∷ units_behind false rest) × (unit_meaning (Plain b) ≡ b ∷ [])
    go true m w e f g = (rw (e, units_behind) refl, rw (e, unit_meaning) refl)
    go false true w e f g = (rw (e, no_quote, f, units_behind) refl, rw (e, no_quote, f, unit_meaning) refl)
    go false false true e f g = (rw (e, no_quote, f, no_slash, g, units_behind) refl, rw (e, no_quote, f, no_slash, g, unit_meaning) refl)
    go false false false e f g = (rw (e, no_quote, f, no_slash, g, units_behind) refl, rw (e, no_quote, f, no_slash, g, unit_meaning) refl)

pub meaning_of_other : (b : ℕ) (rest : List ℕ) → (b == 34) ≡ false → (b == 92) ≡ false → meaning false (b ∷ rest) ≡ b ∷ meaning false rest
meaning_of_other b rest no_quote no_slash =
    let both = other_byte b rest no_quote no_slash in
    ap (flat_map unit_meaning) both.0 ∙ ap (λ t. t ++ meaning false rest) both.1

-- an unescaped quote stands for nothing
pub meaning_of_quote : (b : ℕ) (rest : List ℕ) → (b == 34) ≡ true → meaning false (b ∷ rest) ≡ meaning false rest
meaning_of_quote b rest quote = rw (eqb-true b 34 quote) refl

pub meaning_of_backslash : (b : ℕ) (rest : List ℕ) → (b == 92) ≡ true → meaning false (b ∷ rest) ≡ meaning true rest
meaning_of_backslash b rest slash = rw (eqb-true b 92 slash) refl

-- a backslash and the byte after it
pub meaning_of_escape : (b c : ℕ) (rest : List ℕ) → (b == 92) ≡ true → meaning false (b ∷ c ∷ rest) ≡ escape_meaning c ∷ meaning false rest
meaning_of_escape b c rest slash = meaning_of_backslash b (c ∷ rest) slash

-- a lone last backslash stands for nothing
pub meaning_of_last_backslash : (b : ℕ) → (b == 92) ≡ true → meaning false (b ∷ []) ≡ []
meaning_of_last_backslash b slash = meaning_of_backslash b [] slash

-- A last quote stands for nothing if no backslash comes before it.
-- `before` says of a backslash before the text, as `ends` counts it.
last_quote : (text : List ℕ) (escaped before : Bool) → (escaped ≡ true → before ≡ true) → fold (λ (_ : Bool) b. b == 92) before text ≡ false
    → meaning escaped (text ++ 34 ∷ []) ≡ meaning escaped text
last_quote [] false before so dark = refl
last_quote [] true before so dark = absurd (let h : before ≡ true = so refl in cc)
last_quote (b ∷ text) true before so dark = ap (λ t. escape_meaning b ∷ t) (last_quote text false (b == 92) (λ h. absurd (cc)) dark)
last_quote (b ∷ text) false before so dark = go (b == 34) (b == 92) refl refl (last_quote text true) (last_quote text false)
  where
    Later : Bool → Type 0
    Later escaped = (before : Bool) → (escaped ≡ true → before ≡ true) → fold (λ (_ : Bool) b. b == 92) before text ≡ false
        → meaning escaped (text ++ 34 ∷ []) ≡ meaning escaped text

    go : (q s : Bool) → (b == 34) ≡ q → (b == 92) ≡ s → Later true → Later false → meaning false (b ∷ text ++ 34 ∷ []) ≡ meaning false (b ∷ text)
    go q true e f escaped later =
        meaning_of_backslash b (text ++ 34 ∷ []) f ∙ escaped (b == 92) (λ _. f) dark ∙ sym (meaning_of_backslash b text f)
    go true false e f escaped later =
        meaning_of_quote b (text ++ 34 ∷ []) e ∙ later (b == 92) (λ h. absurd (cc)) dark ∙ sym (meaning_of_quote b text e)
    go false false e f escaped later =
        meaning_of_other b (text ++ 34 ∷ []) e f ∙ ap (λ t. b ∷ t) (later (b == 92) (λ h. absurd (cc)) dark) ∙ sym (meaning_of_other b text e f)

-- a text whose last byte is a quote, cut before it
cut_last : (b : ℕ) (text : List ℕ) (before : Bool) → fold (λ (_ : Bool) b. b == 34) before (b ∷ text) ≡ true → b ∷ text ≡ take (length text) (b ∷ text) ++ 34 ∷ []
cut_last b [] before quote = ap (λ x. x ∷ []) (eqb-true b 34 quote)
cut_last b (c ∷ text) before quote = ap (λ t. b ∷ t) (cut_last c text (b == 34) quote)

-- an enclosed text is a quote, what is inside, and a quote
enclosed_is : (text : List ℕ) → is_enclosed text ≡ true → text ≡ 34 ∷ (inner text ++ 34 ∷ [])
enclosed_is [] enclosed = absurd (let h = enclosed in cc)
enclosed_is (b ∷ []) enclosed = absurd (let h = enclosed in cc)
enclosed_is (b ∷ c ∷ text) enclosed =
    let size : length (b ∷ c ∷ text) - 1 - 1 ≡ length text = omega arith in
    let three = and_parts _ _ enclosed in
    let two = and_parts _ _ three.0 in
    let one = and_parts _ _ two.0 in
    let first : b ≡ 34 = eqb-true b 34 one.1 in
    let last : c ∷ text ≡ take (length text) (c ∷ text) ++ 34 ∷ [] = cut_last c text (b == 34) two.1 in
    rw (size, first) (ap (λ t. 34 ∷ t) last)

no_backslash_inside : (text : List ℕ) → is_enclosed text ≡ true → ends (λ b. b == 92) (inner text) ≡ false
no_backslash_inside text enclosed = not-true _ (and_parts _ _ enclosed).1

-- Enclosing quotes do not change the meaning.
pub plain-inner : (text : List ℕ) → is_enclosed text ≡ true → plain (inner text) ≡ plain text
plain-inner text enclosed =
    sym (ap plain (enclosed_is text enclosed) ∙ last_quote (inner text) false false (λ h. h) (no_backslash_inside text enclosed))

plain-stripped_times : (n : ℕ) (text : List ℕ) → plain (stripped_times n text) ≡ plain text
plain-stripped_times zero text = refl
plain-stripped_times (suc n) text = go (is_enclosed text) refl (plain-stripped_times n (inner text))
  where
    go : (t : Bool) → is_enclosed text ≡ t → plain (stripped_times n (inner text)) ≡ plain (inner text) → plain (cond (is_enclosed text) (stripped_times n (inner text)) text) ≡ plain text
    go true e later = rw e (later ∙ plain-inner text e)
    go false e later = rw e refl

pub plain-stripped : (text : List ℕ) → plain (stripped text) ≡ plain text
plain-stripped text = plain-stripped_times (length text) text

-- a text without a quote and a backslash is its own meaning
pub plain-uncoded : (text : List ℕ) → list_any is_coded text ≡ false → plain text ≡ text
plain-uncoded [] none = refl
plain-uncoded (b ∷ text) none =
    let here = or_parts (is_coded b) (list_any is_coded text) none in
    let tests = or_parts (b == 34) (b == 92) here.0 in
    meaning_of_other b text tests.0 tests.1 ∙ ap (λ t. b ∷ t) (plain-uncoded text here.1)

-- two bytes fewer
length_between : (xs ys : List ℕ) → ys ≡ 34 ∷ (xs ++ 34 ∷ []) → length xs + 2 ≡ length ys
length_between xs ys same = rw (same, length-append) (omega arith)

length-inner : (text : List ℕ) → is_enclosed text ≡ true → length (inner text) + 2 ≡ length text
length-inner text enclosed = length_between (inner text) text (enclosed_is text enclosed)

-- more rounds than bytes change nothing
more_rounds : (n m : ℕ) (text : List ℕ) → length text ≤ n → length text ≤ m → stripped_times n text ≡ stripped_times m text
more_rounds zero zero text few several = refl
more_rounds zero (suc m) [] few several = refl
more_rounds zero (suc m) (b ∷ text) few several = absurd (omega arith)
more_rounds (suc n) zero [] few several = refl
more_rounds (suc n) zero (b ∷ text) few several = absurd (omega arith)
more_rounds (suc n) (suc m) text few several = go (is_enclosed text) refl (more_rounds n m (inner text))
  where
    go : (t : Bool) → is_enclosed text ≡ t
        → (length (inner text) ≤ n → length (inner text) ≤ m → stripped_times n (inner text) ≡ stripped_times m (inner text))
        → cond (is_enclosed text) (stripped_times n (inner text)) text ≡ cond (is_enclosed text) (stripped_times m (inner text)) text
    go true e later = let size = length-inner text e in rw e (later (omega arith) (omega arith))
    go false e later = rw e refl

bare_times : (n : ℕ) (text : List ℕ) → length text ≤ n → is_enclosed (stripped_times n text) ≡ false
bare_times zero [] few = refl
bare_times zero (b ∷ text) few = absurd (omega arith)
bare_times (suc n) text few = go (is_enclosed text) refl (bare_times n (inner text))
  where
    go : (t : Bool) → is_enclosed text ≡ t → (length (inner text) ≤ n → is_enclosed (stripped_times n (inner text)) ≡ false)
        → is_enclosed (cond (is_enclosed text) (stripped_times n (inner text)) text) ≡ false
    go true e later = let size = length-inner text e in ap is_enclosed (cond-true (is_enclosed text) (stripped_times n (inner text)) text e) ∙ later (omega arith)
    go false e later = ap is_enclosed (cond-false (is_enclosed text) (stripped_times n (inner text)) text e) ∙ e

-- No enclosing quotes are left.
pub stripped_bare : (text : List ℕ) → is_enclosed (stripped text) ≡ false
stripped_bare text = bare_times (length text) text (omega arith)

stripped_once : (n : ℕ) (text : List ℕ) → length text ≤ n → is_enclosed text ≡ true → stripped_times n (inner text) ≡ stripped_times n text
stripped_once zero text within enclosed = let size = length-inner text enclosed in absurd (omega arith)
stripped_once (suc n) text within enclosed =
    let size = length-inner text enclosed in
    more_rounds (suc n) n (inner text) (omega arith) (omega arith) ∙ sym (cond-true (is_enclosed text) (stripped_times n (inner text)) text enclosed)

pub stripped-inner : (text : List ℕ) → is_enclosed text ≡ true → stripped (inner text) ≡ stripped text
stripped-inner text enclosed =
    let size = length-inner text enclosed in
    more_rounds (length (inner text)) (length text) (inner text) (omega arith) (omega arith) ∙ stripped_once (length text) text (omega arith) enclosed

stripped_never : (n : ℕ) (text : List ℕ) → is_enclosed text ≡ false → stripped_times n text ≡ text
stripped_never zero text bare = refl
stripped_never (suc n) text bare = cond-false (is_enclosed text) (stripped_times n (inner text)) text bare

pub stripped_already : (text : List ℕ) → is_enclosed text ≡ false → stripped text ≡ text
stripped_already text bare = stripped_never (length text) text bare

-- a text has a coded byte if it has a quote or a backslash
coded_either : (text : List ℕ) → (list_any (λ b. b == 34) text || list_any (λ b. b == 92) text) ≡ list_any is_coded text
coded_either [] = refl
coded_either (b ∷ text) =
    go (b == 34) (b == 92) (list_any (λ b. b == 34) text) (list_any (λ b. b == 92) text) (list_any is_coded text) (coded_either text)
  where
    go : (quote slash quotes slashes coded : Bool) → (quotes || slashes) ≡ coded
        → ((quote || quotes) || (slash || slashes)) ≡ ((quote || slash) || coded)
    go true slash quotes slashes coded e = refl
    go false true true slashes coded e = refl
    go false true false slashes coded e = refl
    go false false quotes slashes coded e = e

pub coded_by_quote : (text : List ℕ) → list_any (λ b. b == 34) text ≡ true → list_any is_coded text ≡ true
coded_by_quote text quote = sym (coded_either text) ∙ rw quote refl

pub coded_by_backslash : (text : List ℕ) → list_any (λ b. b == 34) text ≡ false → list_any (λ b. b == 92) text ≡ list_any is_coded text
coded_by_backslash text no_quote = rw (sym (coded_either text), no_quote) refl

-- what is left without quotes and backslashes is the meaning
pub plain-borrowed : (text : List ℕ) → list_any is_coded (stripped text) ≡ false → stripped text ≡ plain text
plain-borrowed text none = sym (plain-uncoded (stripped text) none) ∙ plain-stripped text

pub ruleset normalizing = (plain-stripped, plain-borrowed)

pub ruleset coding = (coded_by_quote, coded_by_backslash)

pub ruleset stripping = (stripped-inner, stripped_already)

pub ruleset decoding = (meaning_of_other, meaning_of_quote, meaning_of_escape, meaning_of_last_backslash, append_assoc)

pub ruleset passing_quotes = (meaning_of_quote)

-- the last byte passes the test
ends_at : (test : ℕ → Bool) (b : ℕ) (text : List ℕ) (before : Bool) → fold (λ (_ : Bool) x. test x) before (b ∷ text) ≡ test (get_or (b ∷ text) (length text) 0)
ends_at test b [] before = refl
ends_at test b (c ∷ text) before = ends_at test c text (test b)

-- the byte before the last passes the test
ends_before : (test : ℕ → Bool) (b c : ℕ) (text : List ℕ) (before : Bool)
    → fold (λ (_ : Bool) x. test x) before (take (suc (length text)) (b ∷ c ∷ text)) ≡ test (get_or (b ∷ c ∷ text) (length text) 0)
ends_before test b c [] before = refl
ends_before test b c (d ∷ text) before = ends_before test c d text (test b)

-- `is_enclosed`, by the bytes at its places
pub enclosed_at : (text : List ℕ)
    → is_enclosed text ≡ (nat_le 2 (length text) && get_or text 0 0 == 34 && get_or text (length text - 1) 0 == 34 && not (get_or text (length text - 2) 0 == 92))
enclosed_at [] = refl
enclosed_at (b ∷ []) = refl
enclosed_at (b ∷ c ∷ []) = go (b == 34) refl
  where
    go : (t : Bool) → (b == 34) ≡ t → (b == 34 && c == 34 && true) ≡ (b == 34 && c == 34 && not (b == 92))
    go true e = rw (eqb-true b 34 e) refl
    go false e = rw e refl
enclosed_at (b ∷ c ∷ d ∷ text) =
    let last : length (b ∷ c ∷ d ∷ text) - 1 ≡ suc (suc (length text)) = omega arith in
    let before : length (b ∷ c ∷ d ∷ text) - 2 ≡ suc (length text) = omega arith in
    let inside : length (b ∷ c ∷ d ∷ text) - 1 - 1 ≡ suc (length text) = omega arith in
    rw (inside, last, before, ends_at (λ x. x == 34) d text (c == 34), ends_before (λ x. x == 92) c d text false) refl
