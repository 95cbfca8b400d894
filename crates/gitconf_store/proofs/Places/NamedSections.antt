-- The sections that the table finds by name, as sections of the state.
use Rattle.std.proofs.Common.{◌≡◌, ℕ, Bool, true, false, List, [], ◌∷◌, map, Option, Some, None, refl, ap, sym, ◌∙◌}
use Rattle.std.specs.Prelude.{filter, is_some, ◌||◌}
use Rattle.std.specs.List.{AllByRecursion, list_any}
use Rattle.std.specs.Iterator.{YieldsFirstBy}
use Rattle.gitconf_text.specs.Sections.{SectionEntry}
use Rattle.gitconf_text.specs.Sections as table
use Rattle.gitconf_sources.specs.Metadata.{Meta}
use Rattle.gitconf_items.specs.declared.items.Item.{Item}
use Rattle.gitconf_state.specs.State.{State}
use Rattle.gitconf_state.specs.Lookup as state
use Rattle.gitconf_sections.specs.Section.{Section}
use Rattle.gitconf_views.specs.Store.{section_state, state_of, SectionFits, AllSectionsFit}
use Rattle.gitconf_lookups.proofs.SectionsKept.{name_so}
use Rattle.gitconf_store.proofs.Places.Named.{named_so}

-- none of the sections passes
any_none : {A B : Type 0} (p : A → Bool) (f : A → B) (xs : List A) → map f (filter p xs) ≡ [] → list_any p xs ≡ false
any_none p f [] e = refl
any_none p f (x ∷ xs) e = go (p x) refl e (any_none p f xs)
  where
    go : (b : Bool) → p x ≡ b → map f (filter p (x ∷ xs)) ≡ [] → (map f (filter p xs) ≡ [] → list_any p xs ≡ false) → list_any p (x ∷ xs) ≡ false
    go true is e later = absurd (let h = rw is at e in cc)
    go false is e later = rw is (later (rw is at e))

-- one does
any_some : {A B : Type 0} (p : A → Bool) (f : A → B) (xs : List A) (y : B) (ys : List B) → map f (filter p xs) ≡ y ∷ ys → list_any p xs ≡ true
any_some p f [] y ys e = absurd (cc)
any_some p f (x ∷ xs) y ys e = go (p x) refl e (any_some p f xs y ys)
  where
    go : (b : Bool) → p x ≡ b → map f (filter p (x ∷ xs)) ≡ y ∷ ys → (map f (filter p xs) ≡ y ∷ ys → list_any p xs ≡ true) → list_any p (x ∷ xs) ≡ true
    go true is e later = rw is refl
    go false is e later = rw is (later (rw is at e))

-- whether an iterator over those that pass has a first one
first_is : {S R A B : Type 0} (view : R → B) (rest : S → List B) (p : A → Bool) (f : A → B) (s t : S) (r : Option R) (xs : List A)
    → YieldsFirstBy view rest s r t → rest s ≡ map f (filter p xs) → is_some r ≡ list_any p xs
first_is view rest p f s t None xs yields told = sym (any_none p f xs (sym told ∙ yields.0))
first_is view rest p f s t (Some x) xs yields told = sym (any_some p f xs (view x) (rest t) (sym told ∙ yields))

-- the table's sections pass where those of the state do
any_shown : (buffer copies : List ℕ) (p : SectionEntry Section → Bool) (q : state.Listed → Bool)
    → ((e : SectionEntry Section) → SectionFits buffer copies e → p e ≡ q (state.listing (section_state buffer e))) → (es : List (SectionEntry Section)) → AllByRecursion (SectionFits buffer copies) es
    → list_any p es ≡ list_any q (map state.listing (map (section_state buffer) es))
any_shown buffer copies p q same [] fits = refl
any_shown buffer copies p q same (e ∷ es) fits = λ i. same e fits.0 i || any_shown buffer copies p q same es fits.1 i

-- whether there is a section of a name
pub any_with_name : {S R : Type 0} (buffer copies : List ℕ) (front : List Item) (meta : Meta) (sections : table.Sections Section) (all : State) (name : List ℕ)
    (view : R → ℕ × Section) (rest : S → List (ℕ × Section)) (s t : S) (r : Option R) (b : Bool)
    → AllSectionsFit buffer copies sections → state_of buffer front meta sections ≡ all → YieldsFirstBy view rest s r t → rest s ≡ table.all_named name sections → b ≡ is_some r
    → b ≡ list_any (state.has_name name) (state.listed all)
any_with_name buffer copies front meta sections all name view rest s t r b fits is yields left told =
    told ∙ first_is view rest (table.has_name name) (λ e. (e.number, e.section)) s t r sections.entries yields left
    ∙ any_shown buffer copies (table.has_name name) (state.has_name name) (name_so buffer copies name) sections.entries fits
    ∙ ap (λ (s : State). list_any (state.has_name name) (state.listed s)) is

-- and of a subsection
pub any_named : {S R : Type 0} (buffer copies : List ℕ) (front : List Item) (meta : Meta) (sections : table.Sections Section) (all : State) (name : List ℕ) (subsection : Option (List ℕ))
    (view : R → ℕ × Section) (rest : S → List (ℕ × Section)) (s t : S) (r : Option R) (b : Bool)
    → AllSectionsFit buffer copies sections → state_of buffer front meta sections ≡ all → YieldsFirstBy view rest s r t → rest s ≡ table.named name subsection sections → b ≡ is_some r
    → b ≡ list_any (state.is_named name subsection) (state.listed all)
any_named buffer copies front meta sections all name subsection view rest s t r b fits is yields left told =
    told ∙ first_is view rest (table.is_named name subsection) (λ e. (e.number, e.section)) s t r sections.entries yields left
    ∙ any_shown buffer copies (table.is_named name subsection) (state.is_named name subsection) (λ e one. named_so buffer copies name subsection e one) sections.entries fits
    ∙ ap (λ (s : State). list_any (state.is_named name subsection) (state.listed s)) is
