-- Some of the tokens of a text: those that blanks, line endings and comments were dropped from.
use Rattle.std.proofs.Common.{◌≡◌, ℕ, Bool, true, false, List, [], ◌∷◌, ◌++◌, refl, ap, sym, ◌∙◌, inl, inr}
use Rattle.std.specs.Prelude.{◌&&◌, ◌⊎◌}
use Rattle.std.specs.List.{list_all}
use Rattle.std.proofs.lemmas.List.Folds.{list_all-append}
use Rattle.gitconf_text.specs.Part.{Part, FitsPart, spelled, AreFit}
use Rattle.gitconf_text.specs.Token.{Token, filled}
use Rattle.gitconf_items.specs.EventList.{may_miss, IsSelection}
use Rattle.gitconf_text.proofs.Tests.{both_true}

-- two tests that hold, in one
pub both_hold : (a b : Bool) → a ≡ true → b ≡ true → (a && b) ≡ true
both_hold true b p q = q
both_hold false b p q = absurd (cc)

-- what holds of a whole list holds of its front and of the rest
pub all_parts : {A : Type 0} (p : A → Bool) (xs ys : List A) → list_all p (xs ++ ys) ≡ true → (list_all p xs ≡ true) × (list_all p ys ≡ true)
all_parts p xs ys all = both_true (list_all p xs) (list_all p ys) (sym (list_all-append p xs ys) ∙ all)

-- a token that may not be missing comes first
pub comes_first : (t : Token) (all tokens : List Token) → may_miss true t ≡ false → IsSelection true (t ∷ all) tokens
    → (rest : List Token) × (tokens ≡ t ∷ rest) × IsSelection true all rest
comes_first t all tokens never s = elim s [ inl kept ↦ kept | inr missing ↦ absurd (let h = missing.0 in cc) ]

-- some of a list are some of its front, and then some of the rest
pub cut : (front others tokens : List Token) → IsSelection true (front ++ others) tokens
    → (some : List Token) × (more : List Token) × (tokens ≡ some ++ more) × IsSelection true front some × IsSelection true others more
cut [] others tokens s = ([], tokens, refl, refl, s)
cut (t ∷ front) others tokens s = elim s [
  | inl kept ↦ let r = cut front others kept.0 kept.2 in (t ∷ r.0, r.1, kept.1 ∙ ap (λ ts. t ∷ ts) r.2, inl (r.0, refl, r.3), r.4)
  | inr missing ↦ let r = cut front others tokens missing.1 in (r.0, r.1, r.2, inr (missing.0, r.3), r.4)
]

-- a token of a run, if there are bytes for it, is there or missing
pub run_left : (token : List ℕ → Token) (run : List ℕ) (tokens : List Token) → IsSelection true (filled token run) tokens
    → (left : List ℕ) × (tokens ≡ filled token left) × ((left ≡ run) ⊎ (left ≡ []))
run_left token [] tokens s = ([], s, inl refl)
run_left token (b ∷ run) tokens s = elim s [
  | inl kept ↦ (b ∷ run, kept.1 ∙ ap (λ ts. token (b ∷ run) ∷ ts) kept.2, inl refl)
  | inr missing ↦ ([], missing.1, inr refl)
]

-- Fitting parts pass a test that each part passes where it may be.
pub fit_parts_pass : (test : Part → Bool) → ((p : Part) (rest : List ℕ) → FitsPart p rest → test p ≡ true) → (parts : List Part) → AreFit parts [] → list_all test parts ≡ true
fit_parts_pass test each [] fits = refl
fit_parts_pass test each (p ∷ parts) fits = both_hold (test p) (list_all test parts) (each p (spelled parts ++ []) fits.0) (fit_parts_pass test each parts fits.1)
