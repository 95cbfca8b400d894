-- Several sections with other names.
use Rattle.std.specs.Prelude.{ℕ, zero, suc, List, [], ◌∷◌, Option}
use Rattle.gitconf_text.specs.Sections.{Sections, with_names}
use Rattle.gitconf_sections.specs.declared.letters.Names.{Names}
use Rattle.gitconf_sections.specs.declared.row.Row.{Row}

-- the sections with these names for those at these places
abbrev pub with_names_at : {T : Type 0} → Sections T → (places : List ℕ) → (name : List ℕ) → (subsection : Option (List ℕ)) → Sections T
with_names_at all [] name subsection = all
with_names_at all (at ∷ places) name subsection = with_names_at (with_names all at name subsection) places name subsection

-- the rows with other places of names for one row
abbrev pub named_at : Names → List Row → (at : ℕ) → List Row
named_at names [] at = []
named_at names (r ∷ rows) zero = record r { names = names } ∷ rows
named_at names (r ∷ rows) (suc at) = r ∷ named_at names rows at

-- the rows with these places of names for each of these rows
abbrev pub named_each : Names → List Row → (places : List ℕ) → List Row
named_each names rows [] = rows
named_each names rows (at ∷ places) = named_each names (named_at names rows at) places
