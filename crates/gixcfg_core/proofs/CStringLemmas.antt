-- Texts that are cut at their first byte 0.
use Rattle.std.proofs.Common.{◌≡◌, ℕ, zero, suc, ◌+◌, Bool, true, false, List, [], ◌∷◌, ◌++◌, cond, refl, sym, ap, ◌∙◌, append_assoc, append-nil, arith, length, take}
use Rattle.std.proofs.lemmas.Bool.{le-ltb, lt-ltb, ltb-false, ltb-true}
use Rattle.std.specs.Char.{to_ascii_lowercase}
use Rattle.std.specs.Prelude.{if◌then◌else◌, not, nat_lt}
use Rattle.gitconf_text.specs.Bytes.{fold}
use Rattle.gixcfg_core.specs.CStrings.{c_string, has_null, is_null}

-- what stands behind a byte 0 counts for nothing
pub cut_before : (xs ys : List ℕ) → has_null xs ≡ true → c_string (xs ++ ys) ≡ c_string xs
cut_before [] ys has = absurd (cc)
cut_before (b ∷ xs) ys has = go (is_null b) refl (cut_before xs ys)
  where
    go : (is : Bool) → is_null b ≡ is → (has_null xs ≡ true → c_string (xs ++ ys) ≡ c_string xs) → c_string (b ∷ (xs ++ ys)) ≡ c_string (b ∷ xs)
    go true e later = rw e refl
    go false e later = rw e (ap (λ t. b ∷ t) (later (rw e at has)))

-- a text that has none is all there before another one
pub cut_behind : (xs ys : List ℕ) → has_null xs ≡ false → c_string (xs ++ ys) ≡ xs ++ c_string ys
cut_behind [] ys none = refl
cut_behind (b ∷ xs) ys none = go (is_null b) refl (cut_behind xs ys)
  where
    go : (is : Bool) → is_null b ≡ is → (has_null xs ≡ false → c_string (xs ++ ys) ≡ xs ++ c_string ys) → c_string (b ∷ (xs ++ ys)) ≡ b ∷ (xs ++ c_string ys)
    go true e later = absurd (let h = rw e at none in cc)
    go false e later = rw e (ap (λ t. b ∷ t) (later (rw e at none)))

-- so it is whole itself
pub uncut : (xs : List ℕ) → has_null xs ≡ false → c_string xs ≡ xs
uncut xs none = sym (ap c_string (append-nil xs)) ∙ cut_behind xs [] none ∙ append-nil xs

-- a text is cut where its own first bytes end, and is shorter then only if it has one
pub kept_is : (xs : List ℕ) → take (length (c_string xs)) xs ≡ c_string xs
kept_is [] = refl
kept_is (b ∷ xs) = go (is_null b) refl (kept_is xs)
  where
    go : (is : Bool) → is_null b ≡ is → take (length (c_string xs)) xs ≡ c_string xs → take (length (c_string (b ∷ xs))) (b ∷ xs) ≡ c_string (b ∷ xs)
    go true e later = rw e refl
    go false e later = rw e (ap (λ t. b ∷ t) later)

less_behind : (a b : ℕ) → nat_lt (suc a) (suc b) ≡ nat_lt a b
less_behind a b = go (nat_lt a b) refl
  where
    go : (is : Bool) → nat_lt a b ≡ is → nat_lt (suc a) (suc b) ≡ is
    go true e = let less = ltb-true a b e in lt-ltb (suc a) (suc b) (omega (arith, less))
    go false e = let more = ltb-false a b e in le-ltb (suc a) (suc b) (omega (arith, more))

pub shorter_is : (xs : List ℕ) → nat_lt (length (c_string xs)) (length xs) ≡ has_null xs
shorter_is [] = refl
shorter_is (b ∷ xs) = go (is_null b) refl (shorter_is xs)
  where
    go : (is : Bool) → is_null b ≡ is → nat_lt (length (c_string xs)) (length xs) ≡ has_null xs → nat_lt (length (c_string (b ∷ xs))) (length (b ∷ xs)) ≡ has_null (b ∷ xs)
    go true e later = rw e (lt-ltb 0 (length (b ∷ xs)) (omega arith))
    go false e later = rw e (less_behind (length (c_string xs)) (length xs) ∙ later)

-- names behind others, which come only where those are whole
pub names_behind : (before names name : List ℕ) (is : Bool) → is ≡ has_null names
    → (before ++ c_string names) ++ (if not is then c_string name else []) ≡ before ++ c_string (names ++ name)
names_behind before names name true has = append-nil (before ++ c_string names) ∙ ap (λ t. before ++ t) (sym (cut_before names name (sym has)))
names_behind before names name false none =
    append_assoc before (c_string names) (c_string name)
    ∙ ap (λ t. before ++ t) (ap (λ t. t ++ c_string name) (uncut names (sym none)) ∙ sym (cut_behind names name (sym none)))

null_in_lower_case : (is_low is_high : Bool) (n : ℕ) → is_null (cond is_low (suc n) (cond is_high (suc n + 32) (suc n))) ≡ is_null (suc n)
null_in_lower_case true is_high n = refl
null_in_lower_case false true n = grind arith
null_in_lower_case false false n = refl

same_null : (b : ℕ) → is_null (to_ascii_lowercase b) ≡ is_null b
same_null zero = refl
same_null (suc n) = null_in_lower_case (nat_lt (suc n) 65) (nat_lt (suc n) 91) n

-- a text is cut at the same place in lower case
pub cut_in_lower_case : (xs : List ℕ) → fold (c_string xs) ≡ c_string (fold xs)
cut_in_lower_case [] = refl
cut_in_lower_case (b ∷ xs) = go (is_null b) refl (cut_in_lower_case xs)
  where
    go : (is : Bool) → is_null b ≡ is → fold (c_string xs) ≡ c_string (fold xs) → fold (c_string (b ∷ xs)) ≡ c_string (to_ascii_lowercase b ∷ fold xs)
    go true e later = let low = same_null b ∙ e in rw (e, low) refl
    go false e later = let low = same_null b ∙ e in rw (e, low) (ap (λ t. to_ascii_lowercase b ∷ t) later)

-- a line that begins with a head, where that and what comes behind it are what was before and names
pub line_behind : (head own before names rest : List ℕ) → head ++ own ≡ before ++ names → head ++ (own ++ rest) ≡ before ++ (names ++ rest)
line_behind head own before names rest is = sym (append_assoc head own rest) ∙ ap (λ t. t ++ rest) is ∙ append_assoc before names rest
