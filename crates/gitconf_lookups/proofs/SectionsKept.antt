-- The sections that the table finds are those of the state.
use Rattle.std.proofs.Common.{◌≡◌, ℕ, Bool, true, false, List, [], ◌∷◌, ◌++◌, map, Option, Some, None, refl, ap, sym, ◌∙◌}
use Rattle.std.specs.Prelude.{filter, ◌||◌}
use Rattle.std.specs.List.{AllByRecursion, last_or, list_any}
use Rattle.std.proofs.lemmas.Bool.{or_parts}
use Rattle.gitconf_text.specs.Header.{name_of}
use Rattle.gitconf_text.specs.Names.{is_same_name}
use Rattle.gitconf_sources.specs.Metadata.{Meta}
use Rattle.gitconf_items.specs.declared.items.Item.{Item}
use Rattle.gitconf_items.specs.Events.{header_of}
use Rattle.gitconf_text.specs.Sections.{SectionEntry}
use Rattle.gitconf_text.specs.Sections as table
use Rattle.gitconf_sections.proofs.SectionLemmas.{has_name-new}
use Rattle.gitconf_state.specs.Lookup as state
use Rattle.gitconf_state.specs.State.{SectionState, State}
use Rattle.gitconf_sections.specs.Section.{Section}
use Rattle.gitconf_lookups.specs.declared.existing.Error.TheVariants.{SectionMissing, SubSectionMissing}
use Rattle.gitconf_views.specs.Store.{section_under, section_state, state_of, SectionFits, AllSectionsFit}
use Rattle.gitconf_lookups.specs.Misses.{missing}
use Rattle.gitconf_lookups.specs.Walks.{passing}

-- a section of the table has a name where its header does
pub name_so : (buffer copies name : List ℕ) (e : SectionEntry Section) → SectionFits buffer copies e
    → table.has_name name e ≡ state.has_name name (state.listing (section_state buffer e))
name_so buffer copies name e fits = ap (is_same_name name) fits.name ∙ has_name-new name (name_of (header_of buffer e.section.header)) 0 None e.section

-- A test of the table's sections that is one of the state's.
module _ (buffer copies : List ℕ) (test : SectionEntry Section → Bool) (other : SectionState → Bool) (so : (e : SectionEntry Section) → SectionFits buffer copies e → test e ≡ other (section_state buffer e)) where
  -- those that pass
  kept_shown : (es : List (SectionEntry Section)) → AllByRecursion (SectionFits buffer copies) es
      → map (λ (p : ℕ × Section). section_under buffer p.0 p.1) (map (λ (e : SectionEntry Section). (e.number, e.section)) (filter test es))
      ≡ filter other (map (section_state buffer) es)
  kept_shown [] fits = refl
  kept_shown (e ∷ es) fits = go (test e) refl (sym (so e fits.0)) (kept_shown es fits.1)
    where
      go : (b : Bool) → test e ≡ b → other (section_state buffer e) ≡ test e
          → map (λ (p : ℕ × Section). section_under buffer p.0 p.1) (map (λ (e : SectionEntry Section). (e.number, e.section)) (filter test es)) ≡ filter other (map (section_state buffer) es)
          → map (λ (p : ℕ × Section). section_under buffer p.0 p.1) (map (λ (e : SectionEntry Section). (e.number, e.section)) (filter test (e ∷ es))) ≡ filter other (map (section_state buffer) (e ∷ es))
      go true is same others = rw (same, is) (ap (λ ss. section_state buffer e ∷ ss) others)
      go false is same others = rw (same, is) others

  -- whether one passes
  any_shown : (es : List (SectionEntry Section)) → AllByRecursion (SectionFits buffer copies) es → list_any test es ≡ list_any other (map (section_state buffer) es)
  any_shown [] fits = refl
  any_shown (e ∷ es) fits = let first = so e fits.0 in let others = any_shown es fits.1 in λ i. first i || others i

  -- those that pass, in a buffer that is lent
  pub found_kept : (front : List Item) (meta : Meta) (sections : table.Sections Section) (all : State) (lent : List ℕ) (left : List (ℕ × Section))
      → lent ≡ buffer → AllSectionsFit buffer copies sections → left ≡ map (λ (e : SectionEntry Section). (e.number, e.section)) (filter test sections.entries) → state_of buffer front meta sections ≡ all
      → map (λ (p : ℕ × Section). section_under lent p.0 p.1) left ≡ filter other all.sections
  found_kept front meta sections all lent left same fits is state =
      ap (λ b. map (λ (p : ℕ × Section). section_under b p.0 p.1) left) same
      ∙ ap (map (λ (p : ℕ × Section). section_under buffer p.0 p.1)) is
      ∙ kept_shown sections.entries fits
      ∙ ap (λ (s : State). filter other s.sections) state

  pub any_kept : (front : List Item) (meta : Meta) (sections : table.Sections Section) (all : State) → AllSectionsFit buffer copies sections → state_of buffer front meta sections ≡ all
      → list_any test sections.entries ≡ list_any other all.sections
  any_kept front meta sections all fits state = any_shown sections.entries fits ∙ ap (λ (s : State). list_any other s.sections) state

-- if none passes, none is left
pub none_kept : {A : Type 0} (test : A → Bool) (xs : List A) → list_any test xs ≡ false → filter test xs ≡ []
none_kept test [] none = refl
none_kept test (x ∷ xs) none = let parts = or_parts (test x) (list_any test xs) none in rw parts.0 (none_kept test xs parts.1)

pub some_kept : {A : Type 0} (test : A → Bool) (xs : List A) → list_any test xs ≡ true → filter test xs ≡ [] → ⊥
some_kept test [] any none = absurd (cc)
some_kept {A} test (x ∷ xs) any none = go (test x) refl (some_kept test xs)
  where
    go : (b : Bool) → test x ≡ b → (list_any test xs ≡ true → filter test xs ≡ [] → ⊥) → ⊥
    go true is later = let filled : x ∷ filter test xs ≡ [] = rw is at none in absurd (cc)
    go false is later = later (rw is at any) (rw is at none)

-- and the other way round
pub any_of_none : {A : Type 0} (test : A → Bool) (xs : List A) → filter test xs ≡ [] → list_any test xs ≡ false
any_of_none {A} test xs none = go (list_any test xs) refl
  where
    go : (b : Bool) → list_any test xs ≡ b → list_any test xs ≡ false
    go true any = absurd (some_kept test xs any none)
    go false any = any

pub any_of_some : {A : Type 0} (test : A → Bool) (xs ys : List A) (y : A) → filter test xs ≡ y ∷ ys → list_any test xs ≡ true
any_of_some {A} test xs ys y some = go (list_any test xs) refl
  where
    go : (b : Bool) → list_any test xs ≡ b → list_any test xs ≡ true
    go true any = any
    go false any = absurd (let none = none_kept test xs any in let apart : y ∷ ys ≡ [] = sym some ∙ none in cc)

-- of sections as lookups see them
pub any_listed : (test : state.Listed → Bool) (sections : List SectionState) → list_any test (map state.listing sections) ≡ list_any (λ s. test (state.listing s)) sections
any_listed test [] = refl
any_listed test (s ∷ sections) = let later = any_listed test sections in λ i. test (state.listing s) || later i

-- what is missing
pub subsection_missing : (name : List ℕ) (subsection : Option (List ℕ)) (sections : List state.Listed) → list_any (state.has_name name) sections ≡ true
    → list_any (state.is_named name subsection) sections ≡ false → SubSectionMissing ≡ missing (state.miss_of name subsection sections)
subsection_missing name subsection sections has none = rw (has, none) refl

pub section_missing : (name : List ℕ) (subsection : Option (List ℕ)) (sections : List state.Listed) → list_any (state.has_name name) sections ≡ false
    → SectionMissing ≡ missing (state.miss_of name subsection sections)
section_missing name subsection sections none = rw none refl

-- the last that passes, where the last of all does and where it doesn't
last_yes : {A : Type 0} (test : A → Bool) (o : Option A) (xs : List A) (x : A) → test x ≡ true → last_or o (filter test (xs ++ x ∷ [])) ≡ Some x
last_yes {A} test o [] x yes' = rw yes' refl
last_yes {A} test o (y ∷ xs) x yes' = go (test y) refl (λ p. last_yes test p xs x yes')
  where
    go : (b : Bool) → test y ≡ b → ((p : Option A) → last_or p (filter test (xs ++ x ∷ [])) ≡ Some x) → last_or o (filter test (y ∷ (xs ++ x ∷ []))) ≡ Some x
    go true is later = rw is (later (Some y))
    go false is later = rw is (later o)

last_no : {A : Type 0} (test : A → Bool) (o : Option A) (xs : List A) (x : A) → test x ≡ false → last_or o (filter test (xs ++ x ∷ [])) ≡ last_or o (filter test xs)
last_no {A} test o [] x no' = rw no' refl
last_no {A} test o (y ∷ xs) x no' = go (test y) refl (λ p. last_no test p xs x no')
  where
    go : (b : Bool) → test y ≡ b → ((p : Option A) → last_or p (filter test (xs ++ x ∷ [])) ≡ last_or p (filter test xs))
        → last_or o (filter test (y ∷ (xs ++ x ∷ []))) ≡ last_or o (filter test (y ∷ xs))
    go true is later = rw is (later (Some y))
    go false is later = rw is (later o)

-- the last section passes
pub last_kept : (keeps : Meta → Bool) (all before : List SectionState) (s : SectionState) → all ≡ before ++ s ∷ [] → keeps s.meta ≡ true → last_or None (passing keeps all) ≡ Some s
last_kept keeps all before s is kept = ap (λ ss. last_or None (passing keeps ss)) is ∙ last_yes (λ (s : SectionState). keeps s.meta) None before s kept

-- it doesn't
pub last_skipped : (keeps : Meta → Bool) (all before : List SectionState) (s : SectionState) → all ≡ before ++ s ∷ [] → keeps s.meta ≡ false
    → last_or None (passing keeps all) ≡ last_or None (passing keeps before)
last_skipped keeps all before s is skipped = ap (λ ss. last_or None (passing keeps ss)) is ∙ last_no (λ (s : SectionState). keeps s.meta) None before s skipped
