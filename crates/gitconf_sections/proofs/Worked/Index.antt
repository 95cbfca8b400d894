-- Worked rows: which numbers the plain list has under names, before and after a rename and a removal.
use Rattle.std.proofs.Common.{◌≡◌, ℕ, List, [], ◌∷◌, Option, Some, None, map, refl, codes}
use Rattle.gitconf_text.specs.Sections.{named, with_last, with_names, without, Sections}

-- the numbers of the sections of a name and subsection
abbrev numbers : List ℕ → Option (List ℕ) → Sections ℕ → List ℕ
numbers name subsection all = map (λ s. s.0) (named name subsection all)

-- `[core]`, `[core "a"]`, `[other]`, `[core]`, `[core "b"]`, `[core "a"]`, each holding its place
abbrev six : Sections ℕ
six =
    with_last (codes "core") (Some (codes "a")) 5
    (with_last (codes "core") (Some (codes "b")) 4
    (with_last (codes "core") None 3
    (with_last (codes "other") None 2 (with_last (codes "core") (Some (codes "a")) 1 (with_last (codes "core") None 0 (record { entries = []; next = 0 }))))))

plain : numbers (codes "core") None six ≡ 0 ∷ 3 ∷ []
plain = refl

in_any_case : numbers (codes "CORE") None six ≡ 0 ∷ 3 ∷ []
in_any_case = refl

under_a : numbers (codes "core") (Some (codes "a")) six ≡ 1 ∷ 5 ∷ []
under_a = refl

under_a_in_its_case : numbers (codes "core") (Some (codes "A")) six ≡ []
under_a_in_its_case = refl

under_b : numbers (codes "core") (Some (codes "b")) six ≡ 4 ∷ []
under_b = refl

-- the first one is renamed
abbrev renamed : Sections ℕ
renamed = with_names six 0 (codes "core") (Some (codes "a"))

renamed_plain : numbers (codes "core") None renamed ≡ 3 ∷ []
renamed_plain = refl

renamed_under_a : numbers (codes "core") (Some (codes "a")) renamed ≡ 0 ∷ 1 ∷ 5 ∷ []
renamed_under_a = refl

renamed_under_b : numbers (codes "core") (Some (codes "b")) renamed ≡ 4 ∷ []
renamed_under_b = refl

-- and then the one under b is removed
removed_under_b : numbers (codes "core") (Some (codes "b")) (without 4 renamed) ≡ []
removed_under_b = refl

removed_under_a : numbers (codes "core") (Some (codes "a")) (without 4 renamed) ≡ 0 ∷ 1 ∷ 5 ∷ []
removed_under_a = refl
