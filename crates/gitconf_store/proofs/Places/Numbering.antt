-- Sections found by their numbers, and taken out.
use Rattle.std.proofs.Common.{◌≡◌, ◌==◌, ℕ, zero, suc, Bool, true, false, List, [], ◌∷◌, map, Option, Some, None, Result, Ok, Err, refl, ap, sym, subst, ◌∙◌, inl, inr}
use Rattle.std.specs.Prelude.{not, ◌&&◌, ◌⊎◌, filter, find, slice_get, IsErr}
use Rattle.std.specs.List.{AllByRecursion, last_or}
use Rattle.std.specs.Option.{option_map}
use Rattle.std.proofs.lemmas.Bool.{eqb-true}
use Rattle.gitconf_sources.specs.Metadata.{Meta}
use Rattle.gitconf_items.specs.declared.items.Item.{Item}
use Rattle.gitconf_text.specs.Sections.{SectionEntry, Sections, AreNumbered, has_number, section_of, without}
use Rattle.gitconf_state.specs.Edits.{Detached, RemoveSection, apply, numbered, with_sections, without_numbered}
use Rattle.gitconf_state.specs.Edits as state
use Rattle.gitconf_state.specs.Lookup.{is_named, listing}
use Rattle.gitconf_state.specs.State.{HasSectionItems, SectionState, State}
use Rattle.gitconf_sections.specs.Section.{Section}
use Rattle.gitconf_views.specs.Alone.{copied_alone}
use Rattle.gitconf_lookups.specs.Picks.{picked}
use Rattle.gitconf_store.specs.Removals.{IsTakenOut, without_section}
use Rattle.gitconf_views.specs.Store.{section_under, section_state, state_of, StoreFits, SectionFits}
use Rattle.gitconf_views.specs.Viewed.{IsViewed}
use Rattle.gitconf_views.proofs.Viewing.{viewed}

-- the section of a number, in the table and in the state
none_more : (id : ℕ) (buffer : List ℕ) (o : Option SectionState) (es : List (SectionEntry Section)) → AllByRecursion (λ (f : SectionEntry Section). (f.number == id) ≡ false) es
    → last_or o (filter (λ s. s.number == id) (map (section_state buffer) es)) ≡ o
none_more id buffer o [] others = refl
none_more id buffer o (e ∷ es) others = let other = others.0 in rw other (none_more id buffer o es others.1)

found_in : (id next : ℕ) (buffer : List ℕ) (es : List (SectionEntry Section)) → AreNumbered next es
    → option_map (section_state buffer) (find (has_number id) es) ≡ last_or None (filter (λ s. s.number == id) (map (section_state buffer) es))
found_in id next buffer [] once = refl
found_in id next buffer (e ∷ es) once = go (e.number == id) refl (found_in id next buffer es once.2)
  where
    go : (b : Bool) → (e.number == id) ≡ b → option_map (section_state buffer) (find (has_number id) es) ≡ last_or None (filter (λ s. s.number == id) (map (section_state buffer) es))
        → option_map (section_state buffer) (find (has_number id) (e ∷ es)) ≡ last_or None (filter (λ s. s.number == id) (map (section_state buffer) (e ∷ es)))
    go false is later = rw is later
    go true is later =
        let same : e.number ≡ id = eqb-true e.number id is in
        let others : AllByRecursion (λ (f : SectionEntry Section). (f.number == id) ≡ false) es = subst (λ n. AllByRecursion (λ (f : SectionEntry Section). (f.number == n) ≡ false) es) same once.1 in
        rw is (sym (none_more id buffer (Some (section_state buffer e)) es others))

-- the same, of what the section of a number holds
under : (id : ℕ) (buffer : List ℕ) (es : List (SectionEntry Section))
    → option_map (section_under buffer id) (option_map (λ e. e.section) (find (has_number id) es)) ≡ option_map (section_state buffer) (find (has_number id) es)
under id buffer [] = refl
under id buffer (e ∷ es) = go (e.number == id) refl (under id buffer es)
  where
    go : (b : Bool) → (e.number == id) ≡ b → option_map (section_under buffer id) (option_map (λ e. e.section) (find (has_number id) es)) ≡ option_map (section_state buffer) (find (has_number id) es)
        → option_map (section_under buffer id) (option_map (λ e. e.section) (find (has_number id) (e ∷ es))) ≡ option_map (section_state buffer) (find (has_number id) (e ∷ es))
    go false is later = rw is later
    go true is later = let same : id ≡ e.number = sym (eqb-true e.number id is) in rw is (λ i. Some (section_under buffer (same i) e.section))

pub numbered_shown : (id : ℕ) (buffer : List ℕ) (front : List Item) (meta : Meta) (sections : Sections Section) (all : State) → AreNumbered sections.next sections.entries
    → state_of buffer front meta sections ≡ all → option_map (section_under buffer id) (section_of id sections) ≡ numbered id all
numbered_shown id buffer front meta sections all once is =
    under id buffer sections.entries ∙ found_in id sections.next buffer sections.entries once ∙ ap (numbered id) is

-- what is found can be viewed
found_viewed : (id : ℕ) (buffer copies : List ℕ) (es : List (SectionEntry Section)) (s : Section) → AllByRecursion (SectionFits buffer copies) es
    → AllByRecursion HasSectionItems (map (section_state buffer) es) → option_map (λ e. e.section) (find (has_number id) es) ≡ Some s → IsViewed buffer copies s
found_viewed id buffer copies [] s fits has found = absurd (cc)
found_viewed id buffer copies (e ∷ es) s fits has found = go (e.number == id) refl found (found_viewed id buffer copies es s fits.1 has.1)
  where
    go : (b : Bool) → (e.number == id) ≡ b → option_map (λ e. e.section) (find (has_number id) (e ∷ es)) ≡ Some s
        → (option_map (λ e. e.section) (find (has_number id) es) ≡ Some s → IsViewed buffer copies s) → IsViewed buffer copies s
    go false is found later = later (rw is at found)
    go true is found later =
        let taken : Some e.section ≡ Some s = rw is at found in
        let same : e.section ≡ s = cc in
        subst (IsViewed buffer copies) same (viewed buffer copies e fits.0 has.0)

pub numbered_viewed : (id : ℕ) (buffer copies lent others : List ℕ) (front : List Item) (meta : Meta) (sections : Sections Section) (s : Section) → lent ≡ buffer → others ≡ copies
    → StoreFits buffer copies front meta sections → section_of id sections ≡ Some s → IsViewed lent others s
numbered_viewed id buffer copies lent others front meta sections s same alike fits found =
    rw (same, alike) (found_viewed id buffer copies sections.entries s fits.sections_within fits.items.sections found)

-- the section at a place, in the table and in the state
pub place_shown : (buffer : List ℕ) (es : List (SectionEntry Section)) (at id : ℕ) (s : Section) → option_map (λ e. e.section) (slice_get es at) ≡ Some s → option_map (λ e. e.number) (slice_get es at) ≡ Some id
    → slice_get (map (section_state buffer) es) at ≡ Some (section_under buffer id s)
place_shown buffer [] at id s here number = absurd (cc)
place_shown buffer (e ∷ es) zero id s here number =
    let same : e.section ≡ s = cc in
    let under : e.number ≡ id = cc in
    λ i. Some (section_under buffer (under i) (same i))
place_shown buffer (e ∷ es) (suc at) id s here number = place_shown buffer es at id s here number

pub place_viewed : (buffer copies lent others : List ℕ) (es : List (SectionEntry Section)) (at : ℕ) (s : Section) → lent ≡ buffer → others ≡ copies → AllByRecursion (SectionFits buffer copies) es
    → AllByRecursion HasSectionItems (map (section_state buffer) es) → option_map (λ e. e.section) (slice_get es at) ≡ Some s → IsViewed lent others s
place_viewed buffer copies lent others [] at s same alike fits has here = absurd (cc)
place_viewed buffer copies lent others (e ∷ es) zero s same alike fits has here =
    let is : e.section ≡ s = cc in
    rw (same, alike) (subst (IsViewed buffer copies) is (viewed buffer copies e fits.0 has.0))
place_viewed buffer copies lent others (e ∷ es) (suc at) s same alike fits has here = place_viewed buffer copies lent others es at s same alike fits.1 has.1 here

-- without it
pub without_shown : (id : ℕ) (buffer : List ℕ) (es : List (SectionEntry Section))
    → map (section_state buffer) (filter (λ e. not (has_number id e)) es) ≡ filter (λ s. not (s.number == id)) (map (section_state buffer) es)
without_shown id buffer [] = refl
without_shown id buffer (e ∷ es) = go (e.number == id) refl (without_shown id buffer es)
  where
    go : (b : Bool) → (e.number == id) ≡ b → map (section_state buffer) (filter (λ e. not (has_number id e)) es) ≡ filter (λ s. not (s.number == id)) (map (section_state buffer) es)
        → map (section_state buffer) (filter (λ e. not (has_number id e)) (e ∷ es)) ≡ filter (λ s. not (s.number == id)) (map (section_state buffer) (e ∷ es))
    go false is later = rw is (ap (λ ss. section_state buffer e ∷ ss) later)
    go true is later = rw is later

-- what holds of all holds of those that pass
all_of_kept : {A : Type 0} (P : A → Type 0) (test : A → Bool) (xs : List A) → AllByRecursion P xs → AllByRecursion P (filter test xs)
all_of_kept P test [] all = tt
all_of_kept {A} P test (x ∷ xs) all = go (test x) refl (all_of_kept P test xs all.1)
  where
    go : (b : Bool) → test x ≡ b → AllByRecursion P (filter test xs) → AllByRecursion P (filter test (x ∷ xs))
    go true is later = rw is (all.0, later)
    go false is later = rw is later

pub without_state : (id : ℕ) (buffer : List ℕ) (front : List Item) (meta : Meta) (sections after : Sections Section) (all : State)
    → after ≡ without id sections → state_of buffer front meta sections ≡ all → state_of buffer front meta after ≡ without_numbered id all
without_state id buffer front meta sections after all rest is =
    ap (state_of buffer front meta) rest
    ∙ (λ i. with_sections (without_shown id buffer sections.entries i) (state_of buffer front meta sections))
    ∙ ap (without_numbered id) is

pub without_fits : (id : ℕ) (buffer copies : List ℕ) (front : List Item) (meta : Meta) (sections after : Sections Section)
    → after ≡ without id sections → StoreFits buffer copies front meta sections → StoreFits buffer copies front meta after
without_fits id buffer copies front meta sections after rest fits = subst (StoreFits buffer copies front meta) (sym rest) (record {
  room = fits.room;
  front_within = fits.front_within;
  sections_within = all_of_kept (SectionFits buffer copies) (λ e. not (has_number id e)) sections.entries fits.sections_within;
  items = record {
    front = fits.items.front;
    sections = subst (AllByRecursion HasSectionItems) (sym (without_shown id buffer sections.entries))
        (all_of_kept HasSectionItems (λ s. not (s.number == id)) (map (section_state buffer) sections.entries) fits.items.sections);
  };
})

-- where there is none, all are left
pub last_of_some : {A : Type 0} (x : A) (xs : List A) → last_or (Some x) xs ≡ None → ⊥
last_of_some x [] e = absurd (cc)
last_of_some x (y ∷ xs) e = last_of_some y xs e

all_left : (id : ℕ) (ss : List SectionState) → last_or None (filter (λ s. s.number == id) ss) ≡ None → filter (λ s. not (s.number == id)) ss ≡ ss
all_left id [] none = refl
all_left id (s ∷ ss) none = go (s.number == id) refl none (all_left id ss)
  where
    go : (b : Bool) → (s.number == id) ≡ b → last_or None (filter (λ s. s.number == id) (s ∷ ss)) ≡ None
        → (last_or None (filter (λ s. s.number == id) ss) ≡ None → filter (λ s. not (s.number == id)) ss ≡ ss) → filter (λ s. not (s.number == id)) (s ∷ ss) ≡ s ∷ ss
    go false is none later = let others : last_or None (filter (λ s. s.number == id) ss) ≡ None = rw is at none in rw is (ap (λ xs. s ∷ xs) (later others))
    go true is none later = absurd (let some : last_or (Some s) (filter (λ s. s.number == id) ss) ≡ None = rw is at none in last_of_some s (filter (λ s. s.number == id) ss) some)

pub without_none : (id : ℕ) (state : State) → None ≡ numbered id state → state ≡ without_numbered id state
without_none id state none = ap (λ sections. with_sections sections state) (sym (all_left id state.sections (sym none)))

-- both tests, one behind the other
pub filter_both : {A : Type 0} (p q : A → Bool) (xs : List A) → filter q (filter p xs) ≡ filter (λ x. p x && q x) xs
filter_both p q [] = refl
filter_both {A} p q (x ∷ xs) = go (p x) refl (filter_both p q xs)
  where
    go : (b : Bool) → p x ≡ b → filter q (filter p xs) ≡ filter (λ x. p x && q x) xs → filter q (filter p (x ∷ xs)) ≡ filter (λ x. p x && q x) (x ∷ xs)
    go false is later = rw is later
    go true is later = kept (q x) refl is later
      where
        kept : (b : Bool) → q x ≡ b → p x ≡ true → filter q (filter p xs) ≡ filter (λ x. p x && q x) xs → filter q (filter p (x ∷ xs)) ≡ filter (λ x. p x && q x) (x ∷ xs)
        kept true passes named later = rw (named, passes) (ap (λ ys. x ∷ ys) later)
        kept false passes named later = rw (named, passes) later

-- a section taken out by its names
numbered_out : (old : State) (section : Option SectionState) (number : Option ℕ) → number ≡ elim section [ None ↦ None | Some s ↦ Some s.number ]
    → without_section section old ≡ elim number [ None ↦ old | Some n ↦ without_numbered n old ]
numbered_out old None number is = rw is refl
numbered_out old (Some s) number is = rw is refl

pub named_out : (name : List ℕ) (subsection : Option (List ℕ)) (keeps : Meta → Bool) (old : State)
    → without_section (picked name subsection keeps old) old ≡ apply (RemoveSection name subsection keeps) old
named_out name subsection keeps old =
    numbered_out old (picked name subsection keeps old) (state.picked name subsection keeps old)
    (let both = filter_both (λ (s : SectionState). is_named name subsection (listing s)) (λ (s : SectionState). keeps s.meta) old.sections in rw both refl)

-- the section of a number has it
last_has : (id : ℕ) (o : Option SectionState) (ss : List SectionState) (s : SectionState) → last_or o (filter (λ s. s.number == id) ss) ≡ Some s → (s.number ≡ id) ⊎ (o ≡ Some s)
last_has id o [] s is = inr is
last_has id o (t ∷ ss) s is = go (t.number == id) refl is (λ p. last_has id p ss s)
  where
    go : (b : Bool) → (t.number == id) ≡ b → last_or o (filter (λ s. s.number == id) (t ∷ ss)) ≡ Some s
        → ((p : Option SectionState) → last_or p (filter (λ s. s.number == id) ss) ≡ Some s → (s.number ≡ id) ⊎ (p ≡ Some s)) → (s.number ≡ id) ⊎ (o ≡ Some s)
    go false other is later = later o (rw other at is)
    go true same is later = let last : last_or (Some t) (filter (λ s. s.number == id) ss) ≡ Some s = rw same at is in here (eqb-true t.number id same) (later (Some t) last)
      where
        here : t.number ≡ id → (s.number ≡ id) ⊎ (Some t ≡ Some s) → (s.number ≡ id) ⊎ (o ≡ Some s)
        here number (inl had) = inl had
        here number (inr last) = let it : t ≡ s = cc in inl (ap (λ u. u.number) (sym it) ∙ number)

pub numbered_has : (id : ℕ) (state : State) (s : SectionState) → Some s ≡ numbered id state → s.number ≡ id
numbered_has id state s is = go (last_has id None state.sections s (sym is))
  where
    go : (s.number ≡ id) ⊎ (None ≡ Some s) → s.number ≡ id
    go (inl has) = has
    go (inr none) = absurd (cc)

-- what was handed out
pub taken_some : {E : Type 0} (section : Option SectionState) (s : SectionState) (d : Detached) (old new : State)
    → Some s ≡ section → d ≡ copied_alone s → new ≡ without_numbered s.number old → IsTakenOut {E = E} section (Ok (Some d)) old new
taken_some {E} section s d old new is same left = subst (λ o. IsTakenOut {E = E} o (Ok (Some d)) old new) is (record { ok = left; gone = ap Some same; refused = tt })

pub taken_none : {E : Type 0} (section : Option SectionState) (old : State) → None ≡ section → IsTakenOut {E = E} section (Ok None) old old
taken_none {E} section old is = subst (λ o. IsTakenOut {E = E} o (Ok None) old old) is (record { ok = refl; gone = refl; refused = tt })

pub taken_refused : {E : Type 0} (section : Option SectionState) (s : SectionState) (result : Result (Option Detached) E) (old : State) → Some s ≡ section → IsErr result → IsTakenOut section result old old
taken_refused section s (Ok handed) old is fault = absurd (cc)
taken_refused section s (Err e) old is fault = record { ok = tt; gone = tt; refused = λ none. absurd (let apart = is ∙ none in cc) }
