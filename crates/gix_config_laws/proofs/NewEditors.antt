-- New editors of the sections of a state are editors; where the state is clean, they write spaces and tabs before names.
use Rattle.std.proofs.Common.{◌≡◌, ◌==◌, ◌&&◌, ℕ, Bool, true, false, List, [], ◌∷◌, filter, Option, Some, None, inl, inr, refl, ap, sym, subst, ◌∙◌}
use Rattle.std.specs.List.{last_or, list_all, AllByRecursion}
use Rattle.gitconf_text.specs.Bytes.{is_blank}
use Rattle.gitconf_text.specs.Part.{Item}
use Rattle.gitconf_sources.specs.Metadata.{Meta}
use Rattle.gitconf_state.specs.Clean.{IsClean, IsCleanSection}
use Rattle.gitconf_state.specs.Edit.{new_section, spacing_of}
use Rattle.gitconf_state.specs.Edits.{has_blank_leading, items_of_numbered, numbered, IsEditor}
use Rattle.gitconf_state.specs.Editors.{Editor, editor_of}
use Rattle.gitconf_state.specs.LineEnds.{file_line_end}
use Rattle.gitconf_state.specs.Lookup.{is_named, listing}
use Rattle.gitconf_state.specs.State.{HasItems, HasSectionItems, SectionState, State, is_item, with_sections}
use Rattle.gitconf_state.proofs.Edits.Items.{are_blanks, file_line_end_is, one_line_end, spacing_blank, spacing_fits}
use Rattle.gitconf_state.proofs.Edits.Lists.{filter_both}
use Rattle.gitconf_lookups.specs.Picks.{picked}
use Rattle.gitconf_lookups.specs.SomeSections.{AreSome}
use Rattle.gitconf_lookups.specs.ValuePlaces.{editor_of_numbered}
use Rattle.gix_config.specs.SectionEditors.{with_leading}

-- what holds of all holds of the last one that passes
last_holds : {A : Type 0} (P : A → Type 0) (test : A → Bool) (o : Option A) (xs : List A) (x : A) → ((y : A) → o ≡ Some y → P y) → AllByRecursion P xs
    → last_or o (filter test xs) ≡ Some x → P x
last_holds P test o [] x first all is = first x is
last_holds {A} P test o (y ∷ ys) x first all is = go (test y) refl (λ p f. last_holds P test p ys x f all.1)
  where
    go : (b : Bool) → test y ≡ b → ((p : Option A) → ((z : A) → p ≡ Some z → P z) → last_or p (filter test ys) ≡ Some x → P x) → P x
    go true e later = later (Some y) (λ z same. let it : y ≡ z = cc in subst P it all.0) (rw e at is)
    go false e later = later o first (rw e at is)

none_holds : {A : Type 0} (P : A → Type 0) (y : A) → None ≡ Some y → P y
none_holds P y is = absurd (cc)

picked_holds : (P : SectionState → Type 0) (name : List ℕ) (subsection : Option (List ℕ)) (keeps : Meta → Bool) (state : State) (s : SectionState)
    → AllByRecursion P state.sections → picked name subsection keeps state ≡ Some s → P s
picked_holds P name subsection keeps state s all is =
    last_holds P (λ (t : SectionState). is_named name subsection (listing t) && keeps t.meta) None state.sections s (none_holds P) all
    (ap (last_or None) (sym (filter_both (λ (t : SectionState). is_named name subsection (listing t)) (λ (t : SectionState). keeps t.meta) state.sections)) ∙ is)

numbered_holds : (P : SectionState → Type 0) (number : ℕ) (state : State) (s : SectionState) → AllByRecursion P state.sections → numbered number state ≡ Some s → P s
numbered_holds P number state s all is = last_holds P (λ (t : SectionState). t.number == number) None state.sections s (none_holds P) all is

-- what holds of all holds of some
some_hold : {A : Type 0} (P : A → Type 0) (xs some : List A) → AreSome xs some → AllByRecursion P xs → AllByRecursion P some
some_hold P [] some are all = subst (AllByRecursion P) (sym are) all
some_hold P (x ∷ xs) some (inl first) all = subst (AllByRecursion P) (sym first.1) (all.0, some_hold P xs first.0 first.2 all.1)
some_hold P (x ∷ xs) some (inr others) all = some_hold P xs some others all.1

picked_some_holds : (P : SectionState → Type 0) (name : List ℕ) (subsection : Option (List ℕ)) (keeps : Meta → Bool) (state : State) (some : List SectionState) (s : SectionState)
    → AllByRecursion P state.sections → AreSome state.sections some → picked name subsection keeps (with_sections some state) ≡ Some s → P s
picked_some_holds P name subsection keeps state some s all are is = picked_holds P name subsection keeps (with_sections some state) s (some_hold P state.sections some are all) is

-- an editor with the blanks of items
of_items : (items : List Item) (state : State) → list_all is_item items ≡ true
    → IsEditor (record { spacing = spacing_of items; line_end = file_line_end state; ends = true })
of_items items state all =
    let fits = spacing_fits items all in
    record { before = fits.before; behind = fits.behind; line_end = one_line_end (file_line_end state) (file_line_end_is state) }

pub editor_picked : (name : List ℕ) (subsection : Option (List ℕ)) (keeps : Meta → Bool) (state : State) (s : SectionState) → HasItems state
    → picked name subsection keeps state ≡ Some s → IsEditor (editor_of state s)
editor_picked name subsection keeps state s has is = of_items s.items state (picked_holds HasSectionItems name subsection keeps state s has.sections is).items

pub editor_picked_of_some : (name : List ℕ) (subsection : Option (List ℕ)) (keeps : Meta → Bool) (state : State) (some : List SectionState) (s : SectionState) → HasItems state
    → AreSome state.sections some → picked name subsection keeps (with_sections some state) ≡ Some s → IsEditor (editor_of state s)
editor_picked_of_some name subsection keeps state some s has are is = of_items s.items state (picked_some_holds HasSectionItems name subsection keeps state some s has.sections are is).items

pub editor_numbered : (number : ℕ) (state : State) (s : SectionState) → HasItems state → numbered number state ≡ Some s → IsEditor (editor_of state s)
editor_numbered number state s has is = of_items s.items state (numbered_holds HasSectionItems number state s has.sections is).items

pub editor_made : (name : List ℕ) (subsection : Option (List ℕ)) (state : State) → IsEditor (editor_of state (new_section name subsection state))
editor_made name subsection state = record { before = refl; behind = refl; line_end = one_line_end (file_line_end state) (file_line_end_is state) }

pub editor_of_value : (number : ℕ) (state : State) → HasItems state → IsEditor (editor_of_numbered number state)
editor_of_value number state has = of_items (items_of_numbered number state) state (go (numbered number state) refl)
  where
    go : (o : Option SectionState) → numbered number state ≡ o → list_all is_item (items_of_numbered number state) ≡ true
    go None at = rw (at, items_of_numbered) refl
    go (Some s) at = rw (at, items_of_numbered) (numbered_holds HasSectionItems number state s has.sections at).items

-- other blanks before names, and line endings that are switched off, leave it one
pub led_by : (leading : Option (List ℕ)) (editor : Editor) → IsEditor editor → IsEditor (with_leading leading editor)
led_by leading editor is = record { before = is.before; behind = is.behind; line_end = is.line_end }

pub ended_by : (on : Bool) (editor : Editor) → IsEditor editor → IsEditor (record editor { ends = on })
ended_by on editor is = record { before = is.before; behind = is.behind; line_end = is.line_end }

-- In a clean state the blanks before names are spaces and tabs.
leading_told : (o : Option (List ℕ)) → are_blanks o ≡ true → elim o as (λ _. Bool) [ None ↦ true | Some run ↦ list_all is_blank run ] ≡ true
leading_told None is = refl
leading_told (Some run) is = is

pub clean_picked : (name : List ℕ) (subsection : Option (List ℕ)) (keeps : Meta → Bool) (state : State) (s : SectionState) → IsClean state
    → picked name subsection keeps state ≡ Some s → has_blank_leading (editor_of state s) ≡ true
clean_picked name subsection keeps state s clean is =
    leading_told (spacing_of s.items).leading (spacing_blank s.items (picked_holds IsCleanSection name subsection keeps state s clean.sections is).blanks)

pub clean_picked_of_some : (name : List ℕ) (subsection : Option (List ℕ)) (keeps : Meta → Bool) (state : State) (some : List SectionState) (s : SectionState) → IsClean state
    → AreSome state.sections some → picked name subsection keeps (with_sections some state) ≡ Some s → has_blank_leading (editor_of state s) ≡ true
clean_picked_of_some name subsection keeps state some s clean are is =
    leading_told (spacing_of s.items).leading (spacing_blank s.items (picked_some_holds IsCleanSection name subsection keeps state some s clean.sections are is).blanks)

pub clean_numbered : (number : ℕ) (state : State) (s : SectionState) → IsClean state → numbered number state ≡ Some s → has_blank_leading (editor_of state s) ≡ true
clean_numbered number state s clean is =
    leading_told (spacing_of s.items).leading (spacing_blank s.items (numbered_holds IsCleanSection number state s clean.sections is).blanks)
