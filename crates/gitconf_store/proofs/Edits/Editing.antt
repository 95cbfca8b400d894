-- The section of a number with other items, in a longer buffer.
use Rattle.std.proofs.Common.{◌≡◌, ℕ, zero, suc, ◌+◌, ◌<◌, ◌≤◌, ◌^◌, ◌==◌, Bool, true, false, nat_lt, List, [], ◌∷◌, length, map, filter, position, Option, Some, None, Result, Ok, Err, refl, ap, sym, subst, ◌∙◌, arith, inl, inr}
use Rattle.std.specs.Prelude.{if◌then◌else◌, ◌⊎◌, IfSome, OnErr}
use Rattle.std.specs.List.{AllByRecursion, last_or, position_or_len, slice_get}
use Rattle.std.specs.Option.{option_map}
use Rattle.std.proofs.lemmas.Bool.{eq-eqb, eqb-false, ne_eqb, ltb-false}
use Rattle.gitconf_text.specs.Part as parts
use Rattle.gitconf_sources.specs.Metadata.{Meta}
use Rattle.gitconf_text.specs.Sections.{AreNumbered, SectionEntry, Sections, changed_at, has_number, with_section, section_at, place_of, number_at}
use Rattle.gitconf_items.specs.declared.items.Item.{Item}
use Rattle.gitconf_items.specs.Events.{header_of}
use Rattle.gitconf_items.specs.ItemsFit.{AreItemsWithin}
use Rattle.gitconf_items.specs.ShownEvents.{IsExtended}
use Rattle.gitconf_state.specs.Edit.{with_used}
use Rattle.gitconf_state.specs.Edits.{change_items, items_of_numbered, numbered, said_in_section, Entry}
use Rattle.gitconf_state.specs.State.{SectionState, State, HasItems}
use Rattle.gitconf_items.specs.Items.{items_of}
use Rattle.gitconf_body.proofs.Buffers.{extended_fit, extended_items, same_extended}
use Rattle.gitconf_sections.specs.Section.{Section}
use Rattle.gitconf_sections.proofs.Edits.{put_again}
use Rattle.gitconf_state.specs.State.{with_items}
use Rattle.gitconf_store.specs.Edits.{update_at}
use Rattle.gitconf_views.specs.Store.{section_state, state_of, SectionFits, AllSectionsFit, StoreFits}
use Rattle.gitconf_store.specs.ItemsEdits.{changed_at_place}
use Rattle.gitconf_store.proofs.Edits.Setting.{HasOthers, changed_fits, changed_view, kept_view, section_in, sections_in}

abbrev chosen : (id : ℕ) → (List parts.Item → List parts.Item) → SectionState → SectionState
chosen id change s = if s.number == id then with_items change s else s

others_stay : (b : List ℕ) (id : ℕ) (change : List parts.Item → List parts.Item) (es : List (SectionEntry Section))
    → AllByRecursion (λ (e : SectionEntry Section). (e.number == id) ≡ false) es → map (chosen id change) (map (section_state b) es) ≡ map (section_state b) es
others_stay b id change [] apart = refl
others_stay b id change (e ∷ es) apart = rw apart.0 (ap (λ t. section_state b e ∷ t) (others_stay b id change es apart.1))

pub others_untold : (b : List ℕ) (id : ℕ) (o : Option SectionState) (es : List (SectionEntry Section))
    → AllByRecursion (λ (e : SectionEntry Section). (e.number == id) ≡ false) es → last_or o (filter (λ (s : SectionState). s.number == id) (map (section_state b) es)) ≡ o
others_untold b id o [] apart = refl
others_untold b id o (e ∷ es) apart = rw apart.0 (others_untold b id o es apart.1)

-- one of these numbers is none of the others
pub number_apart : (n id at : ℕ) (es : List (SectionEntry Section)) → AllByRecursion (λ (f : SectionEntry Section). (f.number == n) ≡ false) es
    → option_map (λ (e : SectionEntry Section). e.number) (slice_get es at) ≡ Some id → (n == id) ≡ false
number_apart n id at [] apart here = absurd (cc)
number_apart n id zero (e ∷ es) apart here =
    let is : e.number ≡ id = cc in
    let other : (id == n) ≡ false = subst (λ m. (m == n) ≡ false) is apart.0 in
    ne_eqb n id (λ same. eqb-false id n other (sym same))
number_apart n id (suc at) (e ∷ es) apart here = number_apart n id at es apart.1 here

-- The section at the place of its number is the one that is changed.
pub changed_numbered : (b new copies : List ℕ) (s t : Section) (es : List (SectionEntry Section)) (next id at : ℕ) (change : List parts.Item → List parts.Item) → IsExtended b new
    → HasOthers (length new) s t → AllByRecursion (SectionFits b copies) es → AreNumbered next es → option_map (λ (e : SectionEntry Section). e.section) (slice_get es at) ≡ Some s
    → option_map (λ (e : SectionEntry Section). e.number) (slice_get es at) ≡ Some id → items_of new t.items.items ≡ change (items_of b s.items.items)
    → map (section_state new) (changed_at (λ e. record e { section = t }) es at) ≡ map (chosen id change) (map (section_state b) es)
changed_numbered b new copies s t [] next id at change x others fits once here number set = absurd (cc)
changed_numbered b new copies s t (e ∷ es) next id (suc at) change x others fits once here number set =
    let other : (e.number == id) ≡ false = number_apart e.number id at es once.1 number in
    rw other (λ i. section_in b new copies e x fits.0 i ∷ changed_numbered b new copies s t es next id at change x others fits.1 once.2 here number set i)
changed_numbered b new copies s t (e ∷ es) next id zero change x others fits once here number set =
    let is : e.section ≡ s = cc in
    let named : e.number ≡ id = cc in
    let own : (e.number == id) ≡ true = eq-eqb e.number id named in
    let rest : AllByRecursion (λ (f : SectionEntry Section). (f.number == id) ≡ false) es = subst (λ n. AllByRecursion (λ (f : SectionEntry Section). (f.number == n) ≡ false) es) named once.1 in
    let same : t.header ≡ e.section.header = others.header ∙ ap (λ s. s.header) (sym is) in
    rw own ((λ i. record {
      number = e.number;
      header = (ap (header_of new) same ∙ ap (λ s. s.header) (section_in b new copies e x fits.0)) i;
      meta = (ap (λ m. m.value) others.meta ∙ ap (λ s. s.meta.value) (sym is)) i;
      items = (set ∙ ap (λ s. change (items_of b s.items.items)) (sym is)) i;
      held = (ap (λ h. items_of new h.items) (others.held ∙ ap (λ s. s.held) (sym is)) ∙ ap (λ s. s.held) (section_in b new copies e x fits.0)) i;
    } ∷ sections_in b new copies es x fits.1 i) ∙ ap (λ r. with_items change (section_state b e) ∷ r) (sym (others_stay b id change es rest)))

-- what is told of it
told_at : (b : List ℕ) (s : Section) (es : List (SectionEntry Section)) (next id at : ℕ) (o : Option SectionState) → AreNumbered next es
    → option_map (λ (e : SectionEntry Section). e.section) (slice_get es at) ≡ Some s → option_map (λ (e : SectionEntry Section). e.number) (slice_get es at) ≡ Some id
    → option_map (λ (s : SectionState). s.items) (last_or o (filter (λ (s : SectionState). s.number == id) (map (section_state b) es))) ≡ Some (items_of b s.items.items)
told_at b s [] next id at o once here number = absurd (cc)
told_at b s (e ∷ es) next id (suc at) o once here number = rw (number_apart e.number id at es once.1 number) (told_at b s es next id at o once.2 here number)
told_at b s (e ∷ es) next id zero o once here number =
    let is : e.section ≡ s = cc in
    let named : e.number ≡ id = cc in
    let own : (e.number == id) ≡ true = eq-eqb e.number id named in
    let rest : AllByRecursion (λ (f : SectionEntry Section). (f.number == id) ≡ false) es = subst (λ n. AllByRecursion (λ (f : SectionEntry Section). (f.number == n) ≡ false) es) named once.1 in
    rw own (ap (option_map (λ (s : SectionState). s.items)) (others_untold b id (Some (section_state b e)) es rest) ∙ ap (λ s. Some (items_of b s.items.items)) is)

-- The state with the change.
pub numbered_view : (b new copies : List ℕ) (front : List Item) (meta : Meta) (table : Sections Section) (id at : ℕ) (s t : Section) (change : List parts.Item → List parts.Item)
    → IsExtended b new → HasOthers (length new) s t → AreItemsWithin (length b) front → AllSectionsFit b copies table → AreNumbered table.next table.entries
    → section_at at table ≡ Some s → number_at at table ≡ Some id → items_of new t.items.items ≡ change (items_of b s.items.items)
    → state_of new front meta (with_section table at t) ≡ with_used (length new) (change_items id change (state_of b front meta table))
numbered_view b new copies front meta table id at s t change x others within fits once here number set = λ i. record {
  front = extended_items b new front x within i;
  meta = meta;
  next = table.next;
  used = length new;
  sections = changed_numbered b new copies s t table.entries table.next id at change x others fits once here number set i;
}

pub numbered_told : {A : Type 0} (b : List ℕ) (front : List Item) (meta : Meta) (table : Sections Section) (id at : ℕ) (s : Section) (told : List parts.Item → Option A)
    → AreNumbered table.next table.entries → section_at at table ≡ Some s → number_at at table ≡ Some id
    → said_in_section id told (state_of b front meta table) ≡ told (items_of b s.items.items)
numbered_told {A} b front meta table id at s told once here number = go (numbered id (state_of b front meta table)) (told_at b s table.entries table.next id at None once here number)
  where
    go : (o : Option SectionState) → option_map (λ (s : SectionState). s.items) o ≡ Some (items_of b s.items.items)
        → elim o as (λ _. Option A) [ None ↦ None | Some s ↦ told s.items ] ≡ told (items_of b s.items.items)
    go None is = absurd (cc)
    go (Some u) is = ap told (let h : u.items ≡ items_of b s.items.items = cc in h)

-- the items of the section there stand within the buffer
pub items_within_at : (b copies : List ℕ) (s : Section) (es : List (SectionEntry Section)) (at : ℕ) → AllByRecursion (SectionFits b copies) es
    → option_map (λ (e : SectionEntry Section). e.section) (slice_get es at) ≡ Some s → AreItemsWithin (length b) s.items.items
items_within_at b copies s [] at fits here = absurd (cc)
items_within_at b copies s (e ∷ es) (suc at) fits here = items_within_at b copies s es at fits.1 here
items_within_at b copies s (e ∷ es) zero fits here = let is : e.section ≡ s = cc in subst (λ s. AreItemsWithin (length b) s.items.items) is fits.0.items

-- The same, by the section's place.
pub unchanged_there : (b copies : List ℕ) (front : List Item) (meta : Meta) (table : Sections Section) (at : ℕ) (s : Section) (change : List parts.Item → List parts.Item)
    → StoreFits b copies front meta table → section_at at table ≡ Some s → change (items_of b s.items.items) ≡ items_of b s.items.items
    → state_of b front meta table ≡ with_used (length b) (changed_at_place at change (state_of b front meta table))
unchanged_there b copies front meta table at s change fits here stays =
    let others : HasOthers (length b) s s = record { header = refl; meta = refl; held = refl; within = items_within_at b copies s table.entries at fits.sections_within here } in
    ap (state_of b front meta) (sym (put_again table at s here))
    ∙ changed_view b b copies front meta table at s s change (same_extended b b refl) others fits.front_within fits.sections_within here (sym stays)

-- It keeps what a store keeps.
pub numbered_keeps : (b new copies : List ℕ) (front : List Item) (meta : Meta) (table : Sections Section) (at : ℕ) (s t : Section)
    → IsExtended b new → length new < 2 ^ 32 → HasOthers (length new) s t → StoreFits b copies front meta table → section_at at table ≡ Some s
    → HasItems (state_of new front meta (with_section table at t)) → StoreFits new copies front meta (with_section table at t)
numbered_keeps b new copies front meta table at s t x room others old here items = record {
  room = room;
  front_within = extended_fit b new front x old.front_within;
  sections_within = changed_fits b new copies s t table.entries at x others old.sections_within here;
  items = items;
}

-- Where no section has the number, nothing is changed, and nothing is told.
no_number_there : (id : ℕ) (es : List (SectionEntry Section)) → length es ≤ position_or_len (has_number id) es → AllByRecursion (λ (e : SectionEntry Section). (e.number == id) ≡ false) es
no_number_there id [] past = tt
no_number_there id (e ∷ es) past = go (e.number == id) refl (no_number_there id es)
  where
    go : (t : Bool) → (e.number == id) ≡ t
        → (length es ≤ position_or_len (has_number id) es → AllByRecursion (λ (e : SectionEntry Section). (e.number == id) ≡ false) es)
        → AllByRecursion (λ (e : SectionEntry Section). (e.number == id) ≡ false) (e ∷ es)
    go true h later = absurd (let p : suc (length es) ≤ 0 = rw h at past in omega (arith, p))
    go false h later = (h, later (let p : suc (length es) ≤ 1 + position_or_len (has_number id) es = rw h at past in omega (arith, p)))

pub missing : (id : ℕ) (es : List (SectionEntry Section)) → position (has_number id) es ≡ None → AllByRecursion (λ (e : SectionEntry Section). (e.number == id) ≡ false) es
missing id es none = go (nat_lt (position_or_len (has_number id) es) (length es)) refl
  where
    go : (t : Bool) → nat_lt (position_or_len (has_number id) es) (length es) ≡ t → AllByRecursion (λ (e : SectionEntry Section). (e.number == id) ≡ false) es
    go true h = absurd (let p = rw h at none in cc)
    go false h = no_number_there id es (let p = ltb-false _ _ h in omega (arith, p))

pub missing_stays : (b : List ℕ) (front : List Item) (meta : Meta) (table : Sections Section) (id : ℕ) (change : List parts.Item → List parts.Item) → place_of id table ≡ None
    → change_items id change (state_of b front meta table) ≡ state_of b front meta table
missing_stays b front meta table id change none =
    λ i. record { front = items_of b front; meta = meta; next = table.next; used = length b; sections = others_stay b id change table.entries (missing id table.entries none) i }

pub missing_told : {A : Type 0} (b : List ℕ) (front : List Item) (meta : Meta) (table : Sections Section) (id : ℕ) (told : List parts.Item → Option A) → place_of id table ≡ None
    → said_in_section id told (state_of b front meta table) ≡ None
missing_told {A} b front meta table id told none = go (numbered id (state_of b front meta table)) (others_untold b id None table.entries (missing id table.entries none))
  where
    go : (o : Option SectionState) → o ≡ None → elim o as (λ _. Option A) [ None ↦ None | Some s ↦ told s.items ] ≡ None
    go o e = rw e refl

pub missing_items : (b : List ℕ) (front : List Item) (meta : Meta) (table : Sections Section) (id : ℕ) → place_of id table ≡ None → items_of_numbered id (state_of b front meta table) ≡ []
missing_items b front meta table id none = go (numbered id (state_of b front meta table)) (others_untold b id None table.entries (missing id table.entries none))
  where
    go : (o : Option SectionState) → o ≡ None → elim o as (λ _. List parts.Item) [ None ↦ [] | Some s ↦ s.items ] ≡ []
    go o e = rw e refl

-- The section of a number is the one at its place, and a change of the one is a change of the other.
pub numbered_there : (b : List ℕ) (front : List Item) (meta : Meta) (table : Sections Section) (id at : ℕ) → AreNumbered table.next table.entries → number_at at table ≡ Some id
    → numbered id (state_of b front meta table) ≡ slice_get (state_of b front meta table).sections at
numbered_there b front meta table id at once number = go table.entries table.next at None once number
  where
    go : (es : List (SectionEntry Section)) (next at : ℕ) (o : Option SectionState) → AreNumbered next es → option_map (λ (e : SectionEntry Section). e.number) (slice_get es at) ≡ Some id
        → last_or o (filter (λ (s : SectionState). s.number == id) (map (section_state b) es)) ≡ slice_get (map (section_state b) es) at
    go [] next at o once number = absurd (cc)
    go (e ∷ es) next (suc at) o once number = rw (number_apart e.number id at es once.1 number) (go es next at o once.2 number)
    go (e ∷ es) next zero o once number =
        let named : e.number ≡ id = cc in
        let own : (e.number == id) ≡ true = eq-eqb e.number id named in
        let rest : AllByRecursion (λ (f : SectionEntry Section). (f.number == id) ≡ false) es = subst (λ n. AllByRecursion (λ (f : SectionEntry Section). (f.number == n) ≡ false) es) named once.1 in
        rw own (others_untold b id (Some (section_state b e)) es rest)

pub changed_there : (b : List ℕ) (front : List Item) (meta : Meta) (table : Sections Section) (id at : ℕ) (change : List parts.Item → List parts.Item) → AreNumbered table.next table.entries
    → number_at at table ≡ Some id → changed_at_place at change (state_of b front meta table) ≡ change_items id change (state_of b front meta table)
changed_there b front meta table id at change once number = λ i. record {
  front = items_of b front;
  meta = meta;
  next = table.next;
  used = length b;
  sections = go table.entries table.next at once number i;
}
  where
    go : (es : List (SectionEntry Section)) (next at : ℕ) → AreNumbered next es → option_map (λ (e : SectionEntry Section). e.number) (slice_get es at) ≡ Some id
        → update_at at (with_items change) (map (section_state b) es) ≡ map (chosen id change) (map (section_state b) es)
    go [] next at once number = absurd (cc)
    go (e ∷ es) next (suc at) once number = rw (number_apart e.number id at es once.1 number) (ap (λ r. section_state b e ∷ r) (go es next at once.2 number))
    go (e ∷ es) next zero once number =
        let named : e.number ≡ id = cc in
        let own : (e.number == id) ≡ true = eq-eqb e.number id named in
        let rest : AllByRecursion (λ (f : SectionEntry Section). (f.number == id) ≡ false) es = subst (λ n. AllByRecursion (λ (f : SectionEntry Section). (f.number == n) ≡ false) es) named once.1 in
        rw own (ap (λ r. with_items change (section_state b e) ∷ r) (sym (others_stay b id change es rest)))

-- what is said of the section there is said of the section of its number, which is not missing
pub said_there : (P : List parts.Item → Type 0) (id at : ℕ) (state : State) → numbered id state ≡ slice_get state.sections at → IfSome (slice_get state.sections at) (λ s. P s.items)
    → IfSome (numbered id state) (λ s. P s.items)
said_there P id at state same said = subst (λ (o : Option SectionState). IfSome o (λ s. P s.items)) (sym same) said

-- what is said of the items of the section of a number is said of those of the section there
pub same_there : (P : List parts.Item → Type 0) (id at : ℕ) (state : State) → numbered id state ≡ slice_get state.sections at → P (items_of_numbered id state)
    → IfSome (slice_get state.sections at) (λ s. P s.items)
same_there P id at state same said = subst (λ (o : Option SectionState). IfSome o (λ s. P s.items)) same (go (numbered id state) said)
  where
    go : (o : Option SectionState) → P (elim o as (λ _. List parts.Item) [ None ↦ [] | Some s ↦ s.items ]) → IfSome o (λ s. P s.items)
    go None said = tt
    go (Some s) said = said

pub none_said : {A : Type 0} (o : Option A) (P : A → Type 0) → o ≡ None → IfSome o P
none_said None P none = tt
none_said (Some a) P none = absurd (let no : Some a ≡ None = none in cc)

pub said_of_items : (P : List parts.Item → Type 0) (id : ℕ) (state : State) → (numbered id state ≡ None → ⊥) → IfSome (numbered id state) (λ s. P s.items) → P (items_of_numbered id state)
said_of_items P id state some said = go (numbered id state) some said
  where
    go : (o : Option SectionState) → (o ≡ None → ⊥) → IfSome o (λ s. P s.items) → P (elim o as (λ _. List parts.Item) [ None ↦ [] | Some s ↦ s.items ])
    go None some said = absurd (some refl)
    go (Some s) some said = said

-- So it does where its items are those of an edit, and where they are as they were.
pub numbered_kept : (b new copies : List ℕ) (front : List Item) (meta : Meta) (table : Sections Section) (id at : ℕ) (s t : Section) (change : List parts.Item → List parts.Item)
    → IsExtended b new → length new < 2 ^ 32 → HasOthers (length new) s t → StoreFits b copies front meta table → AreNumbered table.next table.entries
    → section_at at table ≡ Some s → number_at at table ≡ Some id → HasItems (change_items id change (state_of b front meta table))
    → (items_of new t.items.items ≡ change (items_of b s.items.items)) ⊎ (t.items.items ≡ s.items.items) → StoreFits new copies front meta (with_section table at t)
numbered_kept b new copies front meta table id at s t change x room others old once here number has either =
    numbered_keeps b new copies front meta table at s t x room others old here (elim either [
      | inl set ↦ used (length new) (change_items id change (state_of b front meta table))
          (numbered_view b new copies front meta table id at s t change x others old.front_within old.sections_within once here number set) has
      | inr kept ↦ used (length new) (state_of b front meta table) (kept_view b new copies front meta table at s t x others old.front_within old.sections_within here kept) old.items
    ])
  where
    used : (n : ℕ) (state : State) → state_of new front meta (with_section table at t) ≡ with_used n state → HasItems state → HasItems (state_of new front meta (with_section table at t))
    used n state is has = subst HasItems (sym is) (record { front = has.front; sections = has.sections })

pub entry_inside : {o p : Option (List ℕ × List ℕ)} → Entry o ≡ Entry p → o ≡ p
entry_inside is = cc

-- the section there is not missing
pub never_missing : (b : List ℕ) (front : List Item) (meta : Meta) (table : Sections Section) (id at : ℕ) (s : Section)
    → AreNumbered table.next table.entries → section_at at table ≡ Some s → number_at at table ≡ Some id → numbered id (state_of b front meta table) ≡ None → ⊥
never_missing b front meta table id at s once here number =
    go (numbered id (state_of b front meta table)) (told_at b s table.entries table.next id at None once here number)
  where
    go : (o : Option SectionState) → option_map (λ (s : SectionState). s.items) o ≡ Some (items_of b s.items.items) → o ≡ None → ⊥
    go None is none = absurd (cc)
    go (Some u) is none = absurd (cc)

-- the items of the section there
pub numbered_items_at : (b : List ℕ) (front : List Item) (meta : Meta) (table : Sections Section) (id at : ℕ) (s : Section)
    → AreNumbered table.next table.entries → section_at at table ≡ Some s → number_at at table ≡ Some id → items_of_numbered id (state_of b front meta table) ≡ items_of b s.items.items
numbered_items_at b front meta table id at s once here number = go (numbered id (state_of b front meta table)) (told_at b s table.entries table.next id at None once here number)
  where
    go : (o : Option SectionState) → option_map (λ (s : SectionState). s.items) o ≡ Some (items_of b s.items.items)
        → elim o as (λ _. List parts.Item) [ None ↦ [] | Some s ↦ s.items ] ≡ items_of b s.items.items
    go None is = absurd (cc)
    go (Some u) is = cc

-- the section that is read at a place has the items of the one that is taken from there
pub same_items : (table : Sections Section) (at : ℕ) (s t : Section) → section_at at table ≡ Some s → section_at at table ≡ Some t → s.items.items ≡ t.items.items
same_items table at s t read taken =
    let both : Some s ≡ Some t = sym read ∙ taken in
    let is : s ≡ t = cc in
    ap (λ (s : Section). s.items.items) is

-- what holds of a refusal, twice
pub on_both : {T E : Type 0} (P Q : Type 0) (r : Result T E) → OnErr r P → OnErr r Q → OnErr r (P × Q)
on_both P Q (Ok t) p q = tt
on_both P Q (Err e) p q = (p, q)

-- what holds anyway holds after an error
pub as_err : {T E P : Type 0} (r : Result T E) → P → OnErr r P
as_err (Ok t) p = tt
as_err (Err e) p = p
