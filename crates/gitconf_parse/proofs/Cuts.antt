-- Sections of a list that begins with a header.
use Rattle.std.proofs.Common.{◌≡◌, Bool, true, List, ◌∷◌, refl}
use Rattle.gitconf_items.specs.Sections.{front_of, sections_of, is_cut}

-- the first section, and the others
pub first_section : {A : Type 0} (is_header : A → Bool) (x : A) (xs : List A) → is_cut is_header (x ∷ xs) ≡ true → sections_of is_header (x ∷ xs) ≡ (x ∷ front_of is_header xs) ∷ sections_of is_header xs
first_section is_header x xs cut = rw (cut, sections_of) refl

pub ruleset cuts = (first_section)
