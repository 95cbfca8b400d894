-- A list of tokens cut at its headers.
use Rattle.std.specs.Prelude.{Bool, true, false, List, [], ◌∷◌}
use Rattle.gitconf_items.specs.declared.event.Event.{Event}
use Rattle.gitconf_items.specs.declared.event.Event.TheVariants as kinds
use Rattle.gitconf_items.specs.EventRef.{Shown, ShownHeader}

-- what is shown is a header
abbrev pub is_shown_header : Shown → Bool
is_shown_header (ShownHeader name separator subsection) = true
is_shown_header _ = false

-- the event is a header
abbrev pub is_header_event : Event → Bool
is_header_event (kinds.SectionHeader h) = true
is_header_event _ = false

-- what comes before the first header; the test says what is a header
abbrev pub front_of : {A : Type 0} → (A → Bool) → List A → List A
front_of is_header [] = []
front_of is_header (x ∷ xs) = elim (is_header x) [
  | true ↦ []
  | false ↦ x ∷ front_of is_header xs
]

-- the sections: each header with what follows it up to the next
abbrev pub sections_of : {A : Type 0} → (A → Bool) → List A → List (List A)
sections_of is_header [] = []
sections_of is_header (x ∷ xs) = elim (is_header x) [
  | true ↦ (x ∷ front_of is_header xs) ∷ sections_of is_header xs
  | false ↦ sections_of is_header xs
]

-- a list begins with a header, or is empty
abbrev pub is_cut : {A : Type 0} → (A → Bool) → List A → Bool
is_cut is_header [] = true
is_cut is_header (x ∷ xs) = is_header x
