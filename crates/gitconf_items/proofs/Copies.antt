-- Subsections that are what is spelled.
use Rattle.std.proofs.Common.{◌≡◌, ℕ, Bool, true, false, List, [], ◌∷◌, refl, ap, subst, arith}
use Rattle.std.specs.Prelude.{◌||◌, ◌==◌}
use Rattle.std.specs.List.{list_any}
use Rattle.std.specs.Char.{is_ascii_uppercase, to_ascii_lowercase}
use Rattle.std.proofs.lemmas.Bool.Decides.{nat_tests}
use Rattle.gitconf_text.specs.Bytes.{fold}
use Rattle.gitconf_text.specs.Unit.{Class, LineFeed, Quote, Mark, Backslash, White, Other, class_of, units_behind}
use Rattle.gitconf_text.specs.Header.{unquoted}
use Rattle.gitconf_text.proofs.ByteLaws.{backslash_is}

both_false : (a b : Bool) → (a || b) ≡ false → (a ≡ false) × (b ≡ false)
both_false true b h = absurd (cc)
both_false false b h = (refl, h)

lower_same : (b : ℕ) → is_ascii_uppercase b ≡ false → to_ascii_lowercase b ≡ b
lower_same b h = grind (arith, nat_tests)

-- without a letter in upper case, lower case changes nothing
pub fold_same : (bytes : List ℕ) → list_any is_ascii_uppercase bytes ≡ false → fold bytes ≡ bytes
fold_same [] h = refl
fold_same (b ∷ bytes) h =
    let p = both_false (is_ascii_uppercase b) (list_any is_ascii_uppercase bytes) h in
    let first = lower_same b p.0 in
    let rest = fold_same bytes p.1 in
    cc

-- without a backslash, a spelling stands for itself
pub unquoted_same : (spelled : List ℕ) → list_any (λ b. b == 92) spelled ≡ false → unquoted spelled ≡ spelled
unquoted_same [] h = refl
unquoted_same (b ∷ spelled) h = go (class_of b) refl (unquoted_same spelled p.1)
  where
    p : ((b == 92) ≡ false) × (list_any (λ b. b == 92) spelled ≡ false)
    p = both_false (b == 92) (list_any (λ b. b == 92) spelled) h

    go : (c : Class) → class_of b ≡ c → unquoted spelled ≡ spelled → unquoted (b ∷ spelled) ≡ b ∷ spelled
    go Backslash e later = absurd (let is : b ≡ 92 = backslash_is b e in let x : (92 == 92) ≡ false = subst (λ k. (k == 92) ≡ false) is p.0 in cc)
    go LineFeed e later = rw (e, units_behind) (ap (λ t. b ∷ t) later)
    go Quote e later = rw (e, units_behind) (ap (λ t. b ∷ t) later)
    go Mark e later = rw (e, units_behind) (ap (λ t. b ∷ t) later)
    go White e later = rw (e, units_behind) (ap (λ t. b ∷ t) later)
    go Other e later = rw (e, units_behind) (ap (λ t. b ∷ t) later)
