-- Sections under other names: in the table, in the buffer, and in the state.
use Rattle.std.proofs.Common.{◌≡◌, ◌==◌, ◌&&◌, ℕ, zero, suc, ◌+◌, ◌<◌, ◌≤◌, ◌^◌, Bool, true, false, List, [], ◌∷◌, ◌++◌, length, map, Option, Some, None, refl, ap, sym, subst, ◌∙◌, arith}
use Rattle.std.specs.Prelude.{filter, if◌then◌else◌}
use Rattle.std.specs.List.{AllByRecursion, last_or, list_any, slice_get}
use Rattle.std.specs.Option.{option_map}
use Rattle.std.proofs.lemmas.Bool.{eq-eqb}
use Rattle.gitconf_text.specs.Bytes.{fold}
use Rattle.gitconf_text.specs.Header.{name_of, subsection_of}
use Rattle.gitconf_text.specs.Names.{is_made_name, is_valid_or_none}
use Rattle.gitconf_sources.specs.Metadata.{Meta}
use Rattle.gitconf_items.specs.declared.event.Header.{Header}
use Rattle.gitconf_items.specs.declared.event.Event.TheVariants as kinds
use Rattle.gitconf_items.specs.declared.items.Item.{Item}
use Rattle.gitconf_items.specs.Events.{header_of}
use Rattle.gitconf_items.specs.ShownEvents.{IsExtended, IsShown}
use Rattle.gitconf_sections.specs.Renames.{with_names_at}
use Rattle.gitconf_text.specs.Sections.{AreNumbered, SectionEntry, Sections, changed_at, with_names}
use Rattle.gitconf_text.specs.Sections as table
use Rattle.gitconf_state.specs.Edit.{is_target, made_header, with_used}
use Rattle.gitconf_state.specs.Edits.{change_numbered, numbered, renamed}
use Rattle.gitconf_state.specs.State.{HasItems, HasSectionItems, SectionState, State}
use Rattle.gitconf_state.proofs.Edits.Items.{new_section_is}
use Rattle.gitconf_state.proofs.Edits.Values.{made_name, made_subsection}
use Rattle.gitconf_items.specs.Items.{items_of}
use Rattle.gitconf_body.proofs.Buffers.{extended_fit, extended_items}
use Rattle.gitconf_sections.specs.Section.{Section}
use Rattle.gitconf_store.specs.Renamings.{marked, marked_places, with_headers, with_renamed, AreMarks}
use Rattle.gitconf_views.specs.Store.{section_state, state_of, SectionFits, StoreFits}
use Rattle.gitconf_store.proofs.Edits.Editing.{missing, number_apart, others_untold}
use Rattle.gitconf_views.proofs.Loading.{sections_fit_more}
use Rattle.gitconf_store.proofs.Places.Named.{named_so}
use Rattle.gitconf_store.proofs.Edits.Setting.{section_in, sections_fit_in, sections_in}

-- Marks: a change at their places is a change of what is marked.
module _ {T : Type 0} (change : SectionEntry T → SectionEntry T) where
  abbrev at_places : (places : List ℕ) → List (SectionEntry T) → List (SectionEntry T)
  at_places [] es = es
  at_places (at ∷ places) es = at_places places (changed_at change es at)

  past_end : (before : List (SectionEntry T)) → changed_at change (before ++ []) (length before) ≡ before ++ []
  past_end [] = refl
  past_end (e ∷ before) = ap (λ es. e ∷ es) (past_end before)

  changed_behind : (before : List (SectionEntry T)) (e : SectionEntry T) (es : List (SectionEntry T)) → changed_at change (before ++ e ∷ es) (length before) ≡ before ++ change e ∷ es
  changed_behind [] e es = refl
  changed_behind (x ∷ before) e es = ap (λ ys. x ∷ ys) (changed_behind before e es)

  one_more : (before : List (SectionEntry T)) (e : SectionEntry T) (es : List (SectionEntry T)) → before ++ e ∷ es ≡ (before ++ e ∷ []) ++ es
  one_more [] e es = refl
  one_more (x ∷ before) e es = ap (λ ys. x ∷ ys) (one_more before e es)

  one_longer : (before : List (SectionEntry T)) (e : SectionEntry T) → length before + 1 ≡ length (before ++ e ∷ [])
  one_longer [] e = refl
  one_longer (x ∷ before) e = let l = one_longer before e in omega (arith, l)

  none_marked : (before : List (SectionEntry T)) (first : ℕ) (marks : List Bool) → length before ≤ first → at_places (marked_places first marks) before ≡ before
  none_marked before first [] past = refl
  none_marked before first (false ∷ marks) past = none_marked before (first + 1) marks (omega (arith, past))
  none_marked before first (true ∷ marks) past = ap (at_places (marked_places (first + 1) marks)) (stays before first past) ∙ none_marked before (first + 1) marks (omega (arith, past))
    where
      stays : (es : List (SectionEntry T)) (at : ℕ) → length es ≤ at → changed_at change es at ≡ es
      stays [] at past = refl
      stays (e ∷ es) zero past = absurd (omega (arith, past))
      stays (e ∷ es) (suc at) past = ap (λ ys. e ∷ ys) (stays es at (omega (arith, past)))

  marked_behind : (before : List (SectionEntry T)) (marks : List Bool) (es : List (SectionEntry T)) → at_places (marked_places (length before) marks) (before ++ es) ≡ before ++ marked marks change es
  marked_behind before [] es = refl
  marked_behind before (m ∷ marks) [] =
      let nil : before ++ [] ≡ before = Rattle.std.proofs.Common.append-nil before in
      rw nil (none_marked before (length before) (m ∷ marks) (omega arith))
  marked_behind before (true ∷ marks) (e ∷ es) =
      ap (at_places (marked_places (length before + 1) marks)) (changed_behind before e es ∙ one_more before (change e) es)
      ∙ ap (λ n. at_places (marked_places n marks) ((before ++ change e ∷ []) ++ es)) (one_longer before (change e))
      ∙ marked_behind (before ++ change e ∷ []) marks es
      ∙ sym (one_more before (change e) (marked marks change es))
  marked_behind before (false ∷ marks) (e ∷ es) =
      ap (at_places (marked_places (length before + 1) marks)) (one_more before e es)
      ∙ ap (λ n. at_places (marked_places n marks) ((before ++ e ∷ []) ++ es)) (one_longer before e)
      ∙ marked_behind (before ++ e ∷ []) marks es
      ∙ sym (one_more before e (marked marks change es))

  all_marked : (marks : List Bool) (es : List (SectionEntry T)) → at_places (marked_places 0 marks) es ≡ marked marks change es
  all_marked marks es = marked_behind [] marks es

marked_twice : {A : Type 0} (f g : A → A) (marks : List Bool) (xs : List A) → marked marks g (marked marks f xs) ≡ marked marks (λ x. g (f x)) xs
marked_twice f g [] xs = refl
marked_twice f g (m ∷ marks) [] = refl
marked_twice f g (true ∷ marks) (x ∷ xs) = ap (λ ys. g (f x) ∷ ys) (marked_twice f g marks xs)
marked_twice f g (false ∷ marks) (x ∷ xs) = ap (λ ys. x ∷ ys) (marked_twice f g marks xs)

-- the places of marks stand in the list
pub places_in : {A : Type 0} (test : A → Bool) (first : ℕ) (marks : List Bool) (xs : List A) → AreMarks test marks xs → AllByRecursion (λ at. at < first + length xs) (marked_places first marks)
places_in test first [] xs are = tt
places_in test first (m ∷ marks) [] are = elim are [ ]
places_in {A} test first (m ∷ marks) (x ∷ xs) are = go m (subst (λ n. AllByRecursion (λ at. at < n) (marked_places (first + 1) marks)) (omega arith) (places_in test (first + 1) marks xs are.1))
  where
    go : (m : Bool) → AllByRecursion (λ at. at < first + length (x ∷ xs)) (marked_places (first + 1) marks) → AllByRecursion (λ at. at < first + length (x ∷ xs)) (marked_places first (m ∷ marks))
    go true others = (omega arith, others)
    go false others = others

-- The table with other names and headers of what is marked.
abbrev with_both : Header → (name : List ℕ) → (subsection : Option (List ℕ)) → SectionEntry Section → SectionEntry Section
with_both header name subsection e = record { number = e.number; name = fold name; subsection = subsection; section = record e.section { header = header } }

names_at : (places name : List ℕ) (s : Option (List ℕ)) (all : Sections Section)
    → with_names_at all places name s ≡ record { entries = at_places (λ e. record e { name = fold name; subsection = s }) places all.entries; next = all.next }
names_at [] name s all = refl
names_at (at ∷ places) name s all = names_at places name s (with_names all at name s)

headers_at : (places : List ℕ) (h : Header) (all : Sections Section)
    → with_headers h places all ≡ record { entries = at_places (λ e. record e { section = record e.section { header = h } }) places all.entries; next = all.next }
headers_at [] h all = refl
headers_at (at ∷ places) h all = headers_at places h (table.edited_at (λ s. record s { header = h }) at all)

pub both_at : (places : List ℕ) (marks : List Bool) (h : Header) (name : List ℕ) (s : Option (List ℕ)) (all after last : Sections Section) → places ≡ marked_places 0 marks
    → after ≡ with_names_at all places name s → last ≡ with_headers h places after → last ≡ record { entries = marked marks (with_both h name s) all.entries; next = all.next }
both_at places marks h name s all after last is named headed =
    let f : SectionEntry Section → SectionEntry Section = λ e. record e { name = fold name; subsection = s } in
    let g : SectionEntry Section → SectionEntry Section = λ e. record e { section = record e.section { header = h } } in
    headed
    ∙ ap (with_headers h places) (named ∙ names_at places name s all)
    ∙ headers_at places h (record { entries = at_places f places all.entries; next = all.next })
    ∙ ap (λ ps. record { entries = at_places g ps (at_places f ps all.entries); next = all.next }) is
    ∙ (λ i. record { entries = all_marked g marks (all_marked f marks all.entries i) i; next = all.next })
    ∙ ap (λ es. record { entries = es; next = all.next }) (marked_twice f g marks all.entries)

-- A header that was made stands in the longer buffer.
pub record IsHeaded (b copies : List ℕ) (h : Header) (name : List ℕ) (subsection : Option (List ℕ)) : Type 0 where
  pub header : header_of b h ≡ made_header name subsection
  pub shown : IsShown b copies (kinds.SectionHeader h)
  pub named : is_made_name name ≡ true
  pub valid : is_valid_or_none subsection ≡ true

module _ (b new copies more : List ℕ) (h : Header) (name : List ℕ) (s : Option (List ℕ)) (x : IsExtended b new) (y : IsExtended copies more) (made : IsHeaded new more h name s) where
  shown_renamed : (marks : List Bool) (es : List (SectionEntry Section)) → AllByRecursion (SectionFits b copies) es
      → map (section_state new) (marked marks (with_both h name s) es) ≡ marked marks (renamed name s) (map (section_state b) es)
  shown_renamed [] es fits = sections_in b new copies es x fits
  shown_renamed (m ∷ marks) [] fits = refl
  shown_renamed (true ∷ marks) (e ∷ es) fits = λ i. record {
    number = e.number;
    header = made.header i;
    meta = e.section.meta.value;
    items = (section_in b new copies e x fits.0 i).items;
    held = (section_in b new copies e x fits.0 i).held;
  } ∷ shown_renamed marks es fits.1 i
  shown_renamed (false ∷ marks) (e ∷ es) fits = λ i. section_in b new copies e x fits.0 i ∷ shown_renamed marks es fits.1 i

  fit_renamed : (marks : List Bool) (es : List (SectionEntry Section)) → AllByRecursion (SectionFits new more) es → AllByRecursion (SectionFits new more) (marked marks (with_both h name s) es)
  fit_renamed [] es fits = fits
  fit_renamed (m ∷ marks) [] fits = tt
  fit_renamed (true ∷ marks) (e ∷ es) fits = (
    record {
      header = made.shown;
      items = fits.0.items;
      held = fits.0.held;
      name = ap fold (sym (made_name name s) ∙ ap name_of (sym made.header));
      subsection = sym (made_subsection name s made.valid) ∙ ap subsection_of (sym made.header);
    },
    fit_renamed marks es fits.1,
  )
  fit_renamed (false ∷ marks) (e ∷ es) fits = (fits.0, fit_renamed marks es fits.1)

  items_renamed : (state : State) (marks : List Bool) (ss : List SectionState) → AllByRecursion HasSectionItems ss → AllByRecursion HasSectionItems (marked marks (renamed name s) ss)
  items_renamed state [] ss all = all
  items_renamed state (m ∷ marks) [] all = tt
  items_renamed state (true ∷ marks) (t ∷ ss) all =
      (record { header = (new_section_is name s state made.named made.valid).header; items = all.0.items; held = all.0.held }, items_renamed state marks ss all.1)
  items_renamed state (false ∷ marks) (t ∷ ss) all = (all.0, items_renamed state marks ss all.1)

  -- the state with what is marked renamed
  pub renamed_state : (marks : List Bool) (front : List Item) (meta : Meta) (old last : Sections Section) → StoreFits b copies front meta old
      → last ≡ record { entries = marked marks (with_both h name s) old.entries; next = old.next }
      → state_of new front meta last ≡ with_used (length new) (with_renamed marks name s (state_of b front meta old))
  renamed_state marks front meta old last fits is =
      ap (state_of new front meta) is ∙ (λ i. record {
        front = extended_items b new front x fits.front_within i;
        meta = meta;
        next = old.next;
        used = length new;
        sections = shown_renamed marks old.entries fits.sections_within i;
      })

  pub renamed_fits : (marks : List Bool) (front : List Item) (meta : Meta) (old last : Sections Section) → StoreFits b copies front meta old → length new < 2 ^ 32
      → last ≡ record { entries = marked marks (with_both h name s) old.entries; next = old.next } → StoreFits new more front meta last
  renamed_fits marks front meta old last fits room is = record {
    room = room;
    front_within = extended_fit b new front x fits.front_within;
    sections_within = subst (λ (t : Sections Section). AllByRecursion (SectionFits new more) t.entries) (sym is)
        (fit_renamed marks old.entries (sections_fit_more new copies more old.entries y (sections_fit_in b new copies old.entries x fits.sections_within)));
    items = subst HasItems (sym (renamed_state marks front meta old last fits is)) (record {
      front = fits.items.front;
      sections = items_renamed (state_of b front meta old) marks (map (section_state b) old.entries) fits.items.sections;
    });
  }

-- One section alone is marked.
abbrev pub marks_of : (at : ℕ) → List Bool
marks_of zero = true ∷ []
marks_of (suc at) = false ∷ marks_of at

pub one_place : (first at : ℕ) → (first + at) ∷ [] ≡ marked_places first (marks_of at)
one_place first zero = λ i. (let same : first + 0 ≡ first = omega arith in same) i ∷ []
one_place first (suc at) = (λ i. (let same : first + suc at ≡ first + 1 + at = omega arith in same) i ∷ []) ∙ one_place (first + 1) at

pub one_is : {A : Type 0} (at : ℕ) (xs : List A) → at < length xs → AreMarks (λ _. true) (marks_of at) xs
one_is at [] within = absurd (omega (arith, within))
one_is zero (x ∷ xs) within = (λ m. refl, tt)
one_is (suc at) (x ∷ xs) within = (λ m. refl, one_is at xs (omega (arith, within)))

-- the section of a number is changed, wherever it stands
abbrev chosen : (id : ℕ) → (SectionState → SectionState) → SectionState → SectionState
chosen id change s = if s.number == id then change s else s

pub others_same : (b : List ℕ) (id : ℕ) (change : SectionState → SectionState) (es : List (SectionEntry Section)) → AllByRecursion (λ (e : SectionEntry Section). (e.number == id) ≡ false) es
    → map (chosen id change) (map (section_state b) es) ≡ map (section_state b) es
others_same b id change [] apart = refl
others_same b id change (e ∷ es) apart = rw apart.0 (ap (λ t. section_state b e ∷ t) (others_same b id change es apart.1))

pub one_changed : (b : List ℕ) (id next : ℕ) (change : SectionState → SectionState) (at : ℕ) (es : List (SectionEntry Section)) → AreNumbered next es
    → option_map (λ (e : SectionEntry Section). e.number) (slice_get es at) ≡ Some id
    → marked (marks_of at) change (map (section_state b) es) ≡ map (chosen id change) (map (section_state b) es)
one_changed b id next change at [] once here = absurd (cc)
one_changed b id next change zero (e ∷ es) once here =
    let is : e.number ≡ id = cc in
    let own : (e.number == id) ≡ true = eq-eqb e.number id is in
    let rest : AllByRecursion (λ (f : SectionEntry Section). (f.number == id) ≡ false) es = subst (λ n. AllByRecursion (λ (f : SectionEntry Section). (f.number == n) ≡ false) es) is once.1 in
    rw own (ap (λ t. change (section_state b e) ∷ t) (sym (others_same b id change es rest)))
one_changed b id next change (suc at) (e ∷ es) once here =
    rw (number_apart e.number id at es once.1 here) (ap (λ t. section_state b e ∷ t) (one_changed b id next change at es once.2 here))

-- marks of all that pass
pub all_changed : {A : Type 0} (test : A → Bool) (change : A → A) (xs : List A) → marked (map test xs) change xs ≡ map (λ x. if test x then change x else x) xs
all_changed test change [] = refl
all_changed test change (x ∷ xs) = ap (λ ys. (if test x then change x else x) ∷ ys) (all_changed test change xs)

pub all_are : {A : Type 0} (test : A → Bool) (xs : List A) → AreMarks test (map test xs) xs
all_are test [] = tt
all_are test (x ∷ xs) = (λ m. m, all_are test xs)

pub any_of_all : {A : Type 0} (test : A → Bool) (xs : List A) → list_any (λ m. m) (map test xs) ≡ list_any test xs
any_of_all test [] = refl
any_of_all test (x ∷ xs) = ap (λ t. Rattle.std.specs.Prelude.◌||◌ (test x) t) (any_of_all test xs)

-- marks of sections of the table are marks of those of the state
pub marks_shown : (b copies : List ℕ) (test : SectionEntry Section → Bool) (other : SectionState → Bool) → ((e : SectionEntry Section) → SectionFits b copies e → test e ≡ other (section_state b e))
    → (marks : List Bool) (es : List (SectionEntry Section)) → AllByRecursion (SectionFits b copies) es → AreMarks test marks es → AreMarks other marks (map (section_state b) es)
marks_shown b copies test other so [] es fits are = tt
marks_shown b copies test other so (m ∷ marks) [] fits are = elim are [ ]
marks_shown b copies test other so (m ∷ marks) (e ∷ es) fits are = (λ is. sym (so e fits.0) ∙ are.0 is, marks_shown b copies test other so marks es fits.1 are.1)

pub tests_shown : (b copies : List ℕ) (test : SectionEntry Section → Bool) (other : SectionState → Bool) → ((e : SectionEntry Section) → SectionFits b copies e → test e ≡ other (section_state b e))
    → (es : List (SectionEntry Section)) → AllByRecursion (SectionFits b copies) es → map test es ≡ map other (map (section_state b) es)
tests_shown b copies test other so [] fits = refl
tests_shown b copies test other so (e ∷ es) fits = λ i. so e fits.0 i ∷ tests_shown b copies test other so es fits.1 i

pub target_so : (b copies name : List ℕ) (s : Option (List ℕ)) (keeps : Meta → Bool) (e : SectionEntry Section) → SectionFits b copies e
    → table.is_named name s e && keeps e.section.meta.value ≡ is_target name s keeps (section_state b e)
target_so b copies name s keeps e fits = ap (λ t. t && keeps e.section.meta.value) (named_so b copies name s e fits)

-- a step of the loop that puts the header
pub header_step : (h : Header) (places rest : List ℕ) (at : ℕ) (all after : Sections Section) → places ≡ at ∷ rest → after ≡ table.edited_at (λ s. record s { header = h }) at all
    → with_headers h rest after ≡ with_headers h places all
header_step h places rest at all after first is = ap (with_headers h rest) is ∙ sym (ap (λ ps. with_headers h ps all) first)

pub edited_length : (f : Section → Section) (at : ℕ) (es : List (SectionEntry Section)) → length (changed_at (λ e. record e { section = f e.section }) es at) ≡ length es
edited_length f at [] = refl
edited_length f zero (e ∷ es) = refl
edited_length f (suc at) (e ∷ es) = ap suc (edited_length f at es)

-- the places of marks stand in the table, also while it is renamed
pub places_there : (b : List ℕ) (front : List Item) (meta : Meta) (sections : Sections Section) (state : State) (marks : List Bool) (places : List ℕ) → state_of b front meta sections ≡ state → places ≡ marked_places 0 marks
    → AreMarks (λ _. true) marks state.sections → AllByRecursion (λ at. at < length sections.entries) places
places_there b front meta sections state marks places view is are =
    let count : length state.sections ≡ length sections.entries = ap (λ (s : State). length s.sections) (sym view) ∙ Rattle.std.proofs.lemmas.List.length-map sections.entries (section_state b) in
    let inside = places_in (λ _. true) 0 marks state.sections are in
    subst (λ n. AllByRecursion (λ at. at < n) places) (let same : 0 + length state.sections ≡ length sections.entries = omega (arith, count) in same)
    (subst (λ ps. AllByRecursion (λ at. at < 0 + length state.sections) ps) (sym is) inside)

pub named_length : (places name : List ℕ) (s : Option (List ℕ)) (all : Sections Section) → length (with_names_at all places name s).entries ≡ length all.entries
named_length [] name s all = refl
named_length (at ∷ places) name s all = named_length places name s (with_names all at name s) ∙ go all.entries at
  where
    go : (es : List (SectionEntry Section)) (at : ℕ) → length (changed_at (λ e. record e { name = fold name; subsection = s }) es at) ≡ length es
    go [] at = refl
    go (e ∷ es) zero = refl
    go (e ∷ es) (suc at) = ap suc (go es at)

-- the section of a number, renamed where it stands
pub numbered_renamed : (b : List ℕ) (front : List Item) (meta : Meta) (sections : Sections Section) (state : State) (id at : ℕ) (name : List ℕ) (s : Option (List ℕ)) → AreNumbered sections.next sections.entries
    → table.number_at at sections ≡ Some id → state_of b front meta sections ≡ state → with_renamed (marks_of at) name s state ≡ change_numbered id (renamed name s) state
numbered_renamed b front meta sections state id at name s once here view =
    subst (λ t. with_renamed (marks_of at) name s t ≡ change_numbered id (renamed name s) t) view
    (λ i. record { front = items_of b front; meta = meta; next = sections.next; used = length b; sections = one_changed b id sections.next (renamed name s) at sections.entries once here i })

-- where no section has the number
pub unnumbered_stays : (b : List ℕ) (front : List Item) (meta : Meta) (sections : Sections Section) (state : State) (id : ℕ) (change : SectionState → SectionState) → table.place_of id sections ≡ None
    → state_of b front meta sections ≡ state → state ≡ with_used state.used (change_numbered id change state)
unnumbered_stays b front meta sections state id change none view =
    subst (λ t. t ≡ with_used t.used (change_numbered id change t)) view
    (λ i. record { front = items_of b front; meta = meta; next = sections.next; used = length b; sections = sym (others_same b id change sections.entries (missing id sections.entries none)) i })

pub unnumbered : (b : List ℕ) (front : List Item) (meta : Meta) (sections : Sections Section) (state : State) (id : ℕ) → table.place_of id sections ≡ None → state_of b front meta sections ≡ state → numbered id state ≡ None
unnumbered b front meta sections state id none view = subst (λ t. numbered id t ≡ None) view (others_untold b id None sections.entries (missing id sections.entries none))

-- where one has it
some_last : (x : SectionState) (xs : List SectionState) → last_or (Some x) xs ≡ None → ⊥
some_last x [] e = absurd (cc)
some_last x (y ∷ xs) e = some_last y xs e

numbered_there : (b : List ℕ) (id at : ℕ) (o : Option SectionState) (es : List (SectionEntry Section)) → option_map (λ (e : SectionEntry Section). e.number) (slice_get es at) ≡ Some id
    → last_or o (filter (λ (s : SectionState). s.number == id) (map (section_state b) es)) ≡ None → ⊥
numbered_there b id at o [] here none = absurd (cc)
numbered_there b id zero o (e ∷ es) here none =
    let is : e.number ≡ id = cc in
    let own : (e.number == id) ≡ true = eq-eqb e.number id is in
    some_last (section_state b e) (filter (λ (s : SectionState). s.number == id) (map (section_state b) es)) (rw own at none)
numbered_there b id (suc at) o (e ∷ es) here none = go (e.number == id) refl (λ p. numbered_there b id at p es here)
  where
    go : (t : Bool) → (e.number == id) ≡ t → ((p : Option SectionState) → last_or p (filter (λ (s : SectionState). s.number == id) (map (section_state b) es)) ≡ None → ⊥) → ⊥
    go true is later = later (Some (section_state b e)) (rw is at none)
    go false is later = later o (rw is at none)

pub is_numbered : (b : List ℕ) (front : List Item) (meta : Meta) (sections : Sections Section) (state : State) (id at : ℕ) → table.number_at at sections ≡ Some id → state_of b front meta sections ≡ state
    → numbered id state ≡ None → ⊥
is_numbered b front meta sections state id at here view none = numbered_there b id at None sections.entries here (subst (λ t. numbered id t ≡ None) (sym view) none)
