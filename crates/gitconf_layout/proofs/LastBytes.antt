-- The end of a text, byte by byte from the end.
use Rattle.std.proofs.Common.{◌≡◌, ◌<◌, ◌≤◌, ℕ, ◌+◌, ◌-◌, true, false, List, [], ◌∷◌, ◌++◌, length, take, get_or, refl, ap, sym, ◌∙◌, arith}
use Rattle.std.proofs.lemmas.List.{take_more}
use Rattle.std.specs.Prelude.{◌==◌}
use Rattle.gitconf_layout.specs.Layout.{is_cr_or_lf, trimmed, without_cr}

-- a CR at the end goes
pub without_cr-push : (text : List ℕ) → without_cr (text ++ 13 ∷ []) ≡ text
without_cr-push [] = refl
without_cr-push (b ∷ []) = refl
without_cr-push (b ∷ c ∷ text) = ap (λ t. b ∷ t) (without_cr-push (c ∷ text))

-- any other byte stays
pub without_cr-other : (text : List ℕ) (b : ℕ) → (b == 13) ≡ false → without_cr (text ++ b ∷ []) ≡ text ++ b ∷ []
without_cr-other [] b e = rw e refl
without_cr-other (c ∷ []) b e = rw e refl
without_cr-other (c ∷ d ∷ text) b e = ap (λ t. c ∷ t) (without_cr-other (d ∷ text) b e)

-- a CR or LF at the end goes
pub trimmed-push : (text : List ℕ) (b : ℕ) → is_cr_or_lf b ≡ true → trimmed (text ++ b ∷ []) ≡ trimmed text
trimmed-push [] b e = rw e refl
trimmed-push (c ∷ text) b e = rw (trimmed, trimmed-push text b e) refl

-- any other byte stays, and what is before it
pub trimmed-other : (text : List ℕ) (b : ℕ) → is_cr_or_lf b ≡ false → trimmed (text ++ b ∷ []) ≡ text ++ b ∷ []
trimmed-other [] b e = rw e refl
trimmed-other (c ∷ []) b e = rw (trimmed, e) refl
trimmed-other (c ∷ d ∷ text) b e = rw (trimmed, trimmed-other (d ∷ text) b e) refl

-- one byte less, where it is a CR or LF
pub trimmed_less : (text : List ℕ) (k d : ℕ) → 0 < k → k ≤ length text → is_cr_or_lf (get_or text (k - 1) d) ≡ true → trimmed (take (k - 1) text) ≡ trimmed (take k text)
trimmed_less text k d some within e =
    let same : k - 1 + 1 ≡ k = omega arith in
    let h : take k text ≡ take (k - 1) text ++ get_or text (k - 1) d ∷ [] = ap (λ n. take n text) (sym same) ∙ take_more text (k - 1) d (omega arith) in
    sym (ap trimmed h ∙ trimmed-push (take (k - 1) text) (get_or text (k - 1) d) e)

-- nothing goes after another byte
pub trimmed_all : (text : List ℕ) (k d : ℕ) → 0 < k → k ≤ length text → is_cr_or_lf (get_or text (k - 1) d) ≡ false → trimmed (take k text) ≡ take k text
trimmed_all text k d some within e =
    let same : k - 1 + 1 ≡ k = omega arith in
    let h : take k text ≡ take (k - 1) text ++ get_or text (k - 1) d ∷ [] = ap (λ n. take n text) (sym same) ∙ take_more text (k - 1) d (omega arith) in
    ap trimmed h ∙ trimmed-other (take (k - 1) text) (get_or text (k - 1) d) e ∙ sym h

pub ruleset trimming = (without_cr-push, without_cr-other, trimmed_less, trimmed_all)
