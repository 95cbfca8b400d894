-- A name without upper case is as names are compared.
use Rattle.std.proofs.Common.{◌≡◌, ℕ, Bool, true, false, List, [], ◌∷◌, refl, arith}
use Rattle.std.specs.List.{list_any}
use Rattle.std.specs.Char.{is_ascii_uppercase, to_ascii_lowercase}
use Rattle.gitconf_text.specs.Bytes.{fold}

pub as_it_is : (name : List ℕ) → list_any (λ b. is_ascii_uppercase b) name ≡ false → name ≡ fold name
as_it_is [] none = refl
as_it_is (b ∷ name) none = go (is_ascii_uppercase b) refl (as_it_is name)
  where
    go : (u : Bool) → is_ascii_uppercase b ≡ u → (list_any (λ b. is_ascii_uppercase b) name ≡ false → name ≡ fold name) → b ∷ name ≡ fold (b ∷ name)
    go true is more = absurd (let bad = rw is at none in cc)
    go false is more = λ i. same i ∷ more (rw is at none) i
      where
        same : b ≡ to_ascii_lowercase b
        same = grind arith
