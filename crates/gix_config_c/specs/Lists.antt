-- What is in a list of texts.
use Rattle.std.specs.Prelude.{◌≡◌, ℕ, List, length, slice_get, Option, Some, None}
use Rattle.std.specs.declared.vec.Vec.{Vec}
use Rattle.gix_config_c.specs.Blocks.{LieAt}
use Rattle.gix_config_c.specs.declared.block.Span.{Span}
use Rattle.gix_config_c.specs.declared.object.Object.{Object}
use Rattle.gix_config_c.specs.declared.object.Object.TheVariants.{Differences, Entries, Sections, Texts}

-- the number of texts, entries, sections or differences in the handle: 0 if it has no list
abbrev pub IsLength : Option Object → (number : ℕ) → Type 0
IsLength (Some (Texts texts)) number = number ≡ length texts.items
IsLength (Some (Entries entries)) number = number ≡ length entries.items
IsLength (Some (Sections sections)) number = number ≡ length sections.items
IsLength (Some (Differences differences)) number = number ≡ length differences.items
IsLength _ number = number ≡ 0

-- number 0 if there is a text at the index, and it lies there; else 100
abbrev pub IsTextAt : {Z : Type 0} → List (Vec ℕ Z) → (index number : ℕ) → Span → Type 0
IsTextAt texts index number span = elim (slice_get texts index) [ None ↦ number ≡ 100 | Some text ↦ (number ≡ 0) × LieAt text span ]

-- the same for the list that is in the handle; 102 if there is none
abbrev pub IsAt : Option Object → (index number : ℕ) → Span → Type 0
IsAt (Some (Texts texts)) index number span = IsTextAt texts.items index number span
IsAt _ index number span = number ≡ 102
