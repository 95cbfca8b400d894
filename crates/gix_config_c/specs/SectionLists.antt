-- The sections of a file, as a list, and the entries of one of them.
use Rattle.std.specs.Prelude.{◌≡◌, ℕ, List, length, map, slice_get, Option, Some, None}
use Rattle.std.specs.Option.{option_map}
use Rattle.std.specs.declared.alloc.Global.{Global}
use Rattle.std.specs.declared.vec.Vec.{Vec}
use Rattle.gitconf_sources.specs.Metadata.{Meta}
use Rattle.gitconf_diff.specs.declared.setting.Side.TheVariants.{One}
use Rattle.gix_config_c.specs.SectionPlaces.{SectionLiesAt}
use Rattle.gix_config_c.specs.declared.entry.Entry.{Entry}
use Rattle.gix_config_c.specs.declared.object.Object.{Object}
use Rattle.gix_config_c.specs.declared.object.Object.TheVariants.{Entries, Sections}
use Rattle.gix_config_c.specs.declared.section.Section.{Section}
use Rattle.gix_config_c.specs.declared.section.SectionPlace.{SectionPlace}
use Rattle.gitconf_diff.specs.Settings.{section_settings}
use Rattle.gitconf_state.specs.State.{SectionState, State, entries_of}
use Rattle.gitconf_text.specs.Header.{name_of, subsection_of}
use Rattle.gix_config_c.specs.Listed.{listed_entry, listed_setting}

-- a section as a list tells it: its names, where it comes from, and how many entries it has
pub record ListedSection : Type 0 where
  pub name : List ℕ
  pub subsection : Option (List ℕ)
  pub meta : Meta
  pub entries : ℕ

-- the section of a file, as a list tells it
abbrev pub told_section : SectionState → ListedSection
told_section s = record { name = name_of s.header; subsection = subsection_of s.header; meta = s.meta; entries = length (entries_of s.items) }

-- the section of a list, as plain values
abbrev pub listed_section : Section → ListedSection
listed_section s = record {
  name = s.name.items;
  subsection = option_map (λ v. v.items) s.subsection;
  meta = record { path = option_map (λ v. v.items) s.path; source = s.source; level = s.level; trust = s.trust };
  entries = s.entries;
}

-- these are the sections of the file, in order
pub record AreSectionsOf (f : State) (sections : Vec Section Global) : Type 0 where
  pub same : map listed_section sections.items ≡ map told_section f.sections

-- number 0 where the list has the sections of the file, in order; else memory ran out
pub record AreSections (f : State) (number : ℕ) (list : Option Object) : Type 0 where
  pub done : number ≡ 0 → (sections : Vec Section Global) × (list ≡ Some (Sections sections)) × AreSectionsOf f sections
  pub short : (number ≡ 0 → ⊥) → number ≡ 27

-- number 0 if there is a section at the index, and its parts lie there; else 100
abbrev pub IsSectionAt : List Section → (index number : ℕ) → SectionPlace → Type 0
IsSectionAt sections index number place = elim (slice_get sections index) [ None ↦ number ≡ 100 | Some section ↦ (number ≡ 0) × SectionLiesAt section place ]

-- the same for the list that is in the handle; 102 if it has no sections
abbrev pub IsSectionIn : Option Object → (index number : ℕ) → SectionPlace → Type 0
IsSectionIn (Some (Sections sections)) index number place = IsSectionAt sections.items index number place
IsSectionIn _ index number place = number ≡ 102

-- these are the entries of the section, in order
pub record AreOfSection (s : SectionState) (entries : Vec Entry Global) : Type 0 where
  pub same : map listed_entry entries.items ≡ map listed_setting (section_settings One s)

-- number 0 where the list has the entries of the section, in order; else memory ran out
pub record AreEntriesOf (s : SectionState) (number : ℕ) (list : Option Object) : Type 0 where
  pub done : number ≡ 0 → (entries : Vec Entry Global) × (list ≡ Some (Entries entries)) × AreOfSection s entries
  pub short : (number ≡ 0 → ⊥) → number ≡ 27

-- the same if there is a section; 100 if there is none
pub record AreEntriesIf (section : Option SectionState) (number : ℕ) (list : Option Object) : Type 0 where
  pub none : section ≡ None → number ≡ 100
  pub some : (s : SectionState) → section ≡ Some s → AreEntriesOf s number list
