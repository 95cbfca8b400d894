-- Items at several places of one section.
use Rattle.std.specs.Prelude.{◌≡◌, ℕ, List, [], ◌∷◌}

-- All are in the section of a number.
abbrev pub AreIn : (id : ℕ) → List (ℕ × ℕ) → Type 0
AreIn id [] = Unit {0}
AreIn id (p ∷ places) = (p.0 ≡ id) × AreIn id places
