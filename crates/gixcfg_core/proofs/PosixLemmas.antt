-- What the characters of a pattern come to, one after the other.
use Rattle.std.proofs.Common.{◌≡◌, ℕ, List, [], ◌∷◌, ◌++◌, append-nil, append_assoc, refl, sym, ap, ◌∙◌}
use Rattle.gixcfg_core.specs.Posix.{last_place, next, spelled, told}
use Rattle.gixcfg_core.specs.declared.posix.Place.{Place}

-- the place behind one more
pub last_behind : (place : Place) (cs : List ℕ) (c : ℕ) → last_place place (cs ++ c ∷ []) ≡ next (last_place place cs) c
last_behind place [] c = refl
last_behind place (d ∷ cs) c = last_behind (next place d) cs c

-- what one more comes to
pub spelled_behind : (place : Place) (cs : List ℕ) (c : ℕ) → spelled place (cs ++ c ∷ []) ≡ spelled place cs ++ told (last_place place cs) c
spelled_behind place [] c = append-nil (told place c)
spelled_behind place (d ∷ cs) c =
    ap (λ t. told place d ++ t) (spelled_behind (next place d) cs c)
    ∙ sym (append_assoc (told place d) (spelled (next place d) cs) (told (last_place (next place d) cs) c))
