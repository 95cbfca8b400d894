-- When two files are equal.
-- Source: gix-config.
use Rattle.std.specs.Prelude.{◌≡◌, ℕ, List, map, Option}
use Rattle.gitconf_text.specs.Bytes.{fold}
use Rattle.gitconf_text.specs.Document.{DocumentEntry, DocumentSection}
use Rattle.gitconf_state.specs.State.{State, section_document}
use Rattle.gitconf_state.specs.Lookup.{meaning}

-- a section as equality sees it: its name in lower case, its subsection, and its keys in lower case with what their values mean
pub record Compared : Type 0 where
  pub name : List ℕ
  pub subsection : Option (List ℕ)
  pub entries : List (List ℕ × List ℕ)

-- a section's document, as equality sees it
abbrev pub compared : DocumentSection → Compared
compared s = record { name = fold s.name; subsection = s.subsection; entries = map (λ (e : DocumentEntry). (fold e.name, meaning e)) s.entries }

-- The sections are the same, in order. Fronts, and where sections come from, aren't compared.
abbrev pub AreEqual : (one other : State) → Type 0
AreEqual one other = map (λ s. compared (section_document s)) one.sections ≡ map (λ s. compared (section_document s)) other.sections
