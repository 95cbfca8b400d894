-- What setting a value leaves: the values of other keys, and the sections of other names.
use Rattle.std.proofs.Common.{◌≡◌, ◌⊎◌, ℕ, Bool, true, false, List, [], ◌∷◌, ◌++◌, Option, Some, None, refl, ap, sym, subst, ◌∙◌, inl, inr}
use Rattle.std.specs.Prelude.{filter, map, flat_map, if◌then◌else◌}
use Rattle.std.specs.Option.{option_eq}
use Rattle.std.specs.List.{list_any}
use Rattle.std.specs.Str.{bytes_eq}
use Rattle.std.specs.Cmp.Lexicographic.{bytes_decides}
use Rattle.gitconf_text.specs.Bytes.{fold}
use Rattle.gitconf_text.specs.Header.{name_of, subsection_of}
use Rattle.gitconf_text.specs.Names.{is_same_name}
use Rattle.gitconf_text.specs.Part.{Item}
use Rattle.gitconf_sources.specs.Metadata.{Meta}
use Rattle.gitconf_state.specs.State.{SectionState, State}
use Rattle.gitconf_state.specs.LineEnds.{file_line_end}
use Rattle.gitconf_state.specs.Lookup.{is_named, listing, listed, Said, said_of, said}
use Rattle.gitconf_state.specs.Edit.{is_entry_of, spacing_of, new_entry, set_value, new_section, is_target, section_with, set_raw_value}
use Rattle.gitconf_state.specs.Editors.{value_set}
use Rattle.gitconf_state.specs.Edits.{finds_or_makes}
use Rattle.gitconf_text.proofs.Tests.{both_true, refuted}
use Rattle.gitconf_state.proofs.Edits.Items.{may_be_made}
use Rattle.gitconf_state.proofs.Edits.Lists.{last_at}
use Rattle.gitconf_state.proofs.Edits.Places.{set_raw_value_at, set_raw_value_new}
use Rattle.gitconf_state.proofs.Edits.Values.{of_key, same_name, new_section_named}
use Rattle.gitconf_state.proofs.Edits.KeyEntries.{added, updated}
use Rattle.gitconf_state.proofs.Listings.{says, said_is}

-- names that are the same as one are the same
pub names_meet : (a b c : List ℕ) → is_same_name a c ≡ true → is_same_name b c ≡ true → is_same_name a b ≡ true
names_meet a b c first second = (bytes_decides (fold a) (fold b)).1 ((bytes_decides (fold a) (fold c)).0 first ∙ sym ((bytes_decides (fold b) (fold c)).0 second))

-- so no entry of a key is one of another
pub other_key : (key other name : List ℕ) → is_same_name key other ≡ false → is_same_name key name ≡ true → is_same_name other name ≡ false
other_key key other name differ same = refuted (is_same_name other name) (λ meets. let h = names_meet key other name same meets in cc)

-- A body with the value has the same entries of another key.
set_value_others : (line_end key value other : List ℕ) (items : List Item) → is_same_name key other ≡ false → of_key other (set_value line_end key value items) ≡ of_key other items
set_value_others line_end key value other items differ = go (list_any (is_entry_of key) items) refl
  where
    new : (o : Option (List ℕ)) → (spacing_of items).leading ≡ o → of_key other (new_entry (spacing_of items) line_end key value) ≡ []
    new None at = rw at (rw (other_key key other key differ (same_name key)) refl)
    new (Some run) at = rw at (rw (other_key key other key differ (same_name key)) refl)

    go : (t : Bool) → list_any (is_entry_of key) items ≡ t → of_key other (set_value line_end key value items) ≡ of_key other items
    go true some = rw (some, value_set) (updated key other (spacing_of items) value (λ name same. other_key key other name differ same) items)
    go false none = rw (none, value_set) (added other items (new_entry (spacing_of items) line_end key value) (new (spacing_of items).leading refl))

-- one that gives the same, put in its place
pub same_given : {A B : Type 0} (give : A → List B) (before : List A) (x y : A) (behind : List A) → give x ≡ give y
    → flat_map give (before ++ x ∷ behind) ≡ flat_map give (before ++ y ∷ behind)
same_given give [] x y behind same = ap (λ bs. bs ++ flat_map give behind) same
same_given give (z ∷ before) x y behind same = ap (λ bs. give z ++ bs) (same_given give before x y behind same)

-- one after all others that gives nothing
pub nothing_given : {A B : Type 0} (give : A → List B) (xs : List A) (x : A) → give x ≡ [] → flat_map give (xs ++ x ∷ []) ≡ flat_map give xs
nothing_given give [] x none = ap (λ bs. bs ++ []) none
nothing_given give (z ∷ xs) x none = ap (λ bs. give z ++ bs) (nothing_given give xs x none)

-- a section says the same of a key with other items that have the same entries of it
pub same_said : (name : List ℕ) (subsection : Option (List ℕ)) (key : List ℕ) (s : SectionState) (items : List Item) → of_key key items ≡ of_key key s.items
    → says name subsection key (record { number = s.number; header = s.header; meta = s.meta; items = items; held = s.held }) ≡ says name subsection key s
same_said name subsection key s items same = ap (λ es. if is_named name subsection (listing s) then said_of s.number s.meta es else []) same

-- it says nothing without entries of the key
pub nothing_said : (name : List ℕ) (subsection : Option (List ℕ)) (key : List ℕ) (s : SectionState) → of_key key s.items ≡ [] → says name subsection key s ≡ []
nothing_said name subsection key s none = ap (λ es. if is_named name subsection (listing s) then said_of s.number s.meta es else []) none ∙ go (is_named name subsection (listing s))
  where
    go : (t : Bool) → (if t then said_of s.number s.meta [] else []) ≡ []
    go true = refl
    go false = refl

-- nor without the name and subsection
pub unnamed_said : (name : List ℕ) (subsection : Option (List ℕ)) (key : List ℕ) (s : SectionState) → is_named name subsection (listing s) ≡ false → says name subsection key s ≡ []
unnamed_said name subsection key s none = rw none refl

-- What the sections say of another key stays, whatever the section and the filter.
pub set_value_leaves_keys : (name : List ℕ) (subsection : Option (List ℕ)) (key : List ℕ) (keeps : Meta → Bool) (value : List ℕ) (state : State)
    → (other_name : List ℕ) (other_subsection : Option (List ℕ)) (other : List ℕ) → is_same_name key other ≡ false
    → said other_name other_subsection other (listed (set_raw_value name subsection key keeps value state)) ≡ said other_name other_subsection other (listed state)
set_value_leaves_keys name subsection key keeps value state other_name other_subsection other differ = go (list_any (is_target name subsection keeps) state.sections) refl
  where
    say : SectionState → List Said
    say = says other_name other_subsection other

    Same : List SectionState → Type 0
    Same sections = said other_name other_subsection other (map listing sections) ≡ said other_name other_subsection other (map listing state.sections)

    from_said : (sections : List SectionState) → flat_map say sections ≡ flat_map say state.sections → Same sections
    from_said sections same = said_is other_name other_subsection other sections ∙ same ∙ sym (said_is other_name other_subsection other state.sections)

    with : SectionState → SectionState
    with = section_with (file_line_end state) key value

    one : (s : SectionState) → say (with s) ≡ say s
    one s = same_said other_name other_subsection other s (set_value (file_line_end state) key value s.items) (set_value_others (file_line_end state) key value other s.items differ)

    found : (before : List SectionState) (s : SectionState) (behind : List SectionState) → state.sections ≡ before ++ s ∷ behind → Same (before ++ with s ∷ behind)
    found before s behind is = from_said (before ++ with s ∷ behind) (same_given say before (with s) s behind (one s) ∙ ap (flat_map say) (sym is))

    made : Same (state.sections ++ with (new_section name subsection state) ∷ [])
    made = from_said (state.sections ++ with (new_section name subsection state) ∷ [])
        (nothing_given say state.sections (with (new_section name subsection state))
        (one (new_section name subsection state) ∙ nothing_said other_name other_subsection other (new_section name subsection state) refl))

    go : (t : Bool) → list_any (is_target name subsection keeps) state.sections ≡ t → Same (set_raw_value name subsection key keeps value state).sections
    go true some =
        let l = last_at (is_target name subsection keeps) state.sections some in
        subst Same (ap (λ state. state.sections) (sym (set_raw_value_at name subsection key keeps value state l.before l.found l.behind l.is l.passes l.none))) (found l.before l.found l.behind l.is)
    go false none = subst Same (ap (λ state. state.sections) (sym (set_raw_value_new name subsection key keeps value state none))) made

-- one that doesn't pass, put in place of one that doesn't
pub filter_same : {A : Type 0} (test : A → Bool) (before : List A) (x y : A) (behind : List A) → test x ≡ false → test y ≡ false
    → filter test (before ++ x ∷ behind) ≡ filter test (before ++ y ∷ behind)
filter_same {A} test [] x y behind first second = rw (first, second) refl
filter_same {A} test (z ∷ before) x y behind first second = go (test z) refl (filter_same test before x y behind first second)
  where
    go : (t : Bool) → test z ≡ t → filter test (before ++ x ∷ behind) ≡ filter test (before ++ y ∷ behind) → filter test (z ∷ (before ++ x ∷ behind)) ≡ filter test (z ∷ (before ++ y ∷ behind))
    go true e later = rw e (ap (λ xs. z ∷ xs) later)
    go false e later = rw e later

pub filter_behind : {A : Type 0} (test : A → Bool) (xs : List A) (x : A) → test x ≡ false → filter test (xs ++ x ∷ []) ≡ filter test xs
filter_behind {A} test [] x none = rw none refl
filter_behind {A} test (z ∷ xs) x none = go (test z) refl (filter_behind test xs x none)
  where
    go : (t : Bool) → test z ≡ t → filter test (xs ++ x ∷ []) ≡ filter test xs → filter test (z ∷ (xs ++ x ∷ [])) ≡ filter test (z ∷ xs)
    go true e later = rw e (ap (λ xs. z ∷ xs) later)
    go false e later = rw e later

-- subsections that are the same as one are the same
pub subsections_meet : (p q : Option (List ℕ)) → option_eq bytes_eq p q ≡ true → p ≡ q
subsections_meet None None same = refl
subsections_meet None (Some y) same = absurd (cc)
subsections_meet (Some x) None same = absurd (cc)
subsections_meet (Some x) (Some y) same = ap (λ t. Some t) ((bytes_decides x y).0 same)

-- a section of a name and subsection is of no other
pub named_once : (name other_name : List ℕ) (subsection other_subsection : Option (List ℕ)) (s : SectionState)
    → (is_same_name name other_name ≡ false) ⊎ (subsection ≡ other_subsection → ⊥) → is_named name subsection (listing s) ≡ true → is_named other_name other_subsection (listing s) ≡ false
named_once name other_name subsection other_subsection s differ is = refuted (is_named other_name other_subsection (listing s)) (λ other.
    let a = both_true (is_same_name name (name_of s.header)) (option_eq bytes_eq (subsection_of s.header) subsection) is in
    let b = both_true (is_same_name other_name (name_of s.header)) (option_eq bytes_eq (subsection_of s.header) other_subsection) other in
    elim differ [
      | inl names ↦ absurd (let h = names_meet name other_name (name_of s.header) a.0 b.0 in cc)
      | inr subsections ↦ subsections (sym (subsections_meet (subsection_of s.header) subsection a.1) ∙ subsections_meet (subsection_of s.header) other_subsection b.1)
    ])

-- The sections of another name or subsection stay.
pub set_value_leaves_sections : (name : List ℕ) (subsection : Option (List ℕ)) (key : List ℕ) (keeps : Meta → Bool) (value : List ℕ) (state : State)
    → (other_name : List ℕ) (other_subsection : Option (List ℕ)) → finds_or_makes name subsection keeps state ≡ true
    → (is_same_name name other_name ≡ false) ⊎ (subsection ≡ other_subsection → ⊥)
    → filter (λ s. is_named other_name other_subsection (listing s)) (set_raw_value name subsection key keeps value state).sections
    ≡ filter (λ s. is_named other_name other_subsection (listing s)) state.sections
set_value_leaves_sections name subsection key keeps value state other_name other_subsection may differ = go (list_any (is_target name subsection keeps) state.sections) refl
  where
    test : SectionState → Bool
    test s = is_named other_name other_subsection (listing s)

    go : (t : Bool) → list_any (is_target name subsection keeps) state.sections ≡ t
        → filter test (set_raw_value name subsection key keeps value state).sections ≡ filter test state.sections
    go true some =
        let l = last_at (is_target name subsection keeps) state.sections some in
        let named = named_once name other_name subsection other_subsection l.found differ (both_true (is_named name subsection (listing l.found)) (keeps l.found.meta) l.passes).0 in
        ap (λ (state : State). filter test state.sections) (set_raw_value_at name subsection key keeps value state l.before l.found l.behind l.is l.passes l.none)
        ∙ filter_same test l.before (section_with (file_line_end state) key value l.found) l.found l.behind named named
        ∙ ap (filter test) (sym l.is)
    go false none =
        let named = named_once name other_name subsection other_subsection (new_section name subsection state) differ (new_section_named name subsection state (may_be_made name subsection keeps state may none).1) in
        ap (λ (state : State). filter test state.sections) (set_raw_value_new name subsection key keeps value state none)
        ∙ filter_behind test state.sections (section_with (file_line_end state) key value (new_section name subsection state)) named
