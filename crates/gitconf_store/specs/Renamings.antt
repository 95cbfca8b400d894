-- What renaming sections changes.
use Rattle.std.specs.Prelude.{◌≡◌, ℕ, ◌+◌, Bool, not, true, false, List, [], ◌∷◌, Option, Result, if◌then◌else◌}
use Rattle.std.specs.List.{list_any}
use Rattle.gitconf_items.specs.declared.event.Header.{Header}
use Rattle.gitconf_text.specs.Sections.{Sections, edited_at}
use Rattle.gitconf_state.specs.Edit.{with_used}
use Rattle.gitconf_state.specs.Edits.{renamed, with_sections}
use Rattle.gitconf_state.specs.Lookup.{is_named, listed, listing, miss_of}
use Rattle.gitconf_state.specs.State.{State}
use Rattle.gitconf_body.specs.Done.{IsRefusedFor, Missing, first_cause, heading_causes}
use Rattle.gitconf_store.specs.declared.rename_section.Error.{Error}
use Rattle.gitconf_store.specs.RenameErrors.{rename_refusal}
use Rattle.gitconf_sections.specs.Section.{Section as Stored}

-- the list with a change of the marked elements
abbrev pub marked : {A : Type 0} → (marks : List Bool) → (A → A) → List A → List A
marked [] change xs = xs
marked (m ∷ marks) change [] = []
marked (m ∷ marks) change (x ∷ xs) = (if m then change x else x) ∷ marked marks change xs

-- the places of the marks, counted from `first`
abbrev pub marked_places : (first : ℕ) → (marks : List Bool) → List ℕ
marked_places first [] = []
marked_places first (m ∷ marks) = elim m [ true ↦ first ∷ marked_places (first + 1) marks | false ↦ marked_places (first + 1) marks ]

-- the marks are those of elements of the list, and only of elements that pass
abbrev pub AreMarks : {A : Type 0} → (test : A → Bool) → (marks : List Bool) → List A → Type 0
AreMarks test [] xs = Unit {0}
AreMarks test (m ∷ marks) [] = ⊥
AreMarks test (m ∷ marks) (x ∷ xs) = (m ≡ true → test x ≡ true) × AreMarks test marks xs

-- the table with this header for the sections at these places
abbrev pub with_headers : Header → (places : List ℕ) → Sections Stored → Sections Stored
with_headers header [] all = all
with_headers header (at ∷ places) all = with_headers header places (edited_at (λ s. record s { header = header }) at all)

-- the state with these names for the marked sections
abbrev pub with_renamed : (marks : List Bool) → (name : List ℕ) → (subsection : Option (List ℕ)) → State → State
with_renamed marks name subsection state = with_sections (marked marks (renamed name subsection) state.sections) state

-- For any filter: one or more of the sections of the names were renamed.
abbrev pub AreSomeRenamed : (name : List ℕ) → (subsection : Option (List ℕ)) → (new_name : List ℕ) → (new_subsection : Option (List ℕ)) → (old new : State) → Type 0
AreSomeRenamed name subsection new_name new_subsection old new =
    (marks : List Bool) × AreMarks (λ s. is_named name subsection (listing s)) marks old.sections × (list_any (λ m. m) marks ≡ true)
    × (new ≡ with_used new.used (with_renamed marks new_name new_subsection old))

-- For any filter: it is refused as if some of the sections of the names passed, or none. If none has the names, none passes.
abbrev pub IsToldOfSome : {T : Type 0} → (name : List ℕ) → (subsection : Option (List ℕ)) → (new_name : List ℕ) → (new_subsection : Option (List ℕ)) → Result T Error → State → Type 0
IsToldOfSome name subsection new_name new_subsection result old =
    (some : Bool) × (list_any (is_named name subsection) (listed old) ≡ false → some ≡ false)
    × IsRefusedFor rename_refusal (first_cause ((not some, Missing (miss_of name subsection (listed old))) ∷ heading_causes new_name new_subsection old.used)) result
