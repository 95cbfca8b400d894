-- The sections and items of another store, behind those of a store.
use Rattle.std.proofs.Common.{◌≡◌, ℕ, zero, suc, ◌+◌, ◌-◌, ◌<◌, ◌≤◌, ◌^◌, Bool, true, false, List, [], ◌∷◌, ◌++◌, length, map, Option, Some, None, Result, Ok, Err, inl, inr, IsErrOf, refl, ap, sym, subst, ◌∙◌, arith, append_assoc, length-append}
use Rattle.std.proofs.lemmas.List.{length-map}
use Rattle.std.specs.Prelude.{if◌then◌else◌, ◌||◌, ◌⊎◌, IfErr, OnErr, OnOk}
use Rattle.std.specs.List.{last_or, list_all, slice_get, AllByRecursion, AllZip}
use Rattle.gitconf_text.specs.Bytes.{fold}
use Rattle.gitconf_text.specs.Header.{name_of, subsection_of, PlainHeader}
use Rattle.gitconf_text.specs.LineEnds.{bytes_of_line_end}
use Rattle.gitconf_text.specs.declared.line_end.LineEnd.{LineEnd}
use Rattle.gitconf_text.specs.declared.line_end.LineEnd.TheVariants as kinds
use Rattle.gitconf_text.specs.Part as parts
use Rattle.gitconf_text.specs.Text.{is_line_end}
use Rattle.gitconf_sources.specs.Metadata.{Meta}
use Rattle.gitconf_items.specs.declared.event.Span.{Span}
use Rattle.gitconf_items.specs.declared.items.Item.{Item}
use Rattle.gitconf_items.specs.ItemsFit.{AreItemsWithin}
use Rattle.gitconf_items.specs.ShownEvents.{IsExtended}
use Rattle.gitconf_text.specs.Sections.{SectionEntry, Sections}
use Rattle.gitconf_state.specs.Edit.{with_used}
use Rattle.gitconf_state.specs.Edits.{between, begins_with, held_behind_last, joined, numbered_from, appended, Append}
use Rattle.gitconf_state.specs.LineEnds.{ends_line, file_line_end}
use Rattle.gitconf_state.specs.State.{HasItems, HasSectionItems, SectionState, State, is_item}
use Rattle.gitconf_state.proofs.Edits.Keep.{apply_items}
use Rattle.gitconf_items.specs.Items.{items_of}
use Rattle.gitconf_items.specs.Moves.{AreItemsMoved}
use Rattle.gitconf_body.proofs.Append.{items_fit_more, items_more}
use Rattle.gitconf_body.proofs.Buffers.{extended_fit, extended_items}
use Rattle.gitconf_sections.specs.Section.{Section}
use Rattle.gitconf_store.specs.Edits.{update_at}
use Rattle.gitconf_store.specs.Appends.{appended_bytes, bytes_at, held_or, holding, included, items_at, kept_at, line_at, line_bytes, line_items, put_at, IsLineAt}
use Rattle.gitconf_sections.specs.Held.{line_end_item}
use Rattle.gitconf_views.specs.Joining.{front_then, held_at, AreBehind, AreSame}
use Rattle.gitconf_sections.specs.Moves.{IsMovable}
use Rattle.gitconf_views.specs.Moves.{AreSectionsMoved, IsEntryMoved}
use Rattle.gitconf_views.specs.Store.{section_state, state_of, AllSectionsFit, SectionFits, StoreFits}
use Rattle.gitconf_store.proofs.Files.Appending.{copy_up, header_same, header_shown, header_up, items_there, items_up}
use Rattle.gitconf_views.proofs.Joined.{is_at, items_both, within_both}
use Rattle.gitconf_views.proofs.Loading.{sections_fit_more}
use Rattle.gitconf_store.proofs.Edits.Setting.{sections_fit_in, sections_in}

-- The items at a place of a store.
pub kept_there : (front : List Item) (es : List (SectionEntry Section)) (at : ℕ) (s : Section) → is_at es at s → s.held.items ≡ kept_at at front es
kept_there front [] at s here = absurd (cc)
kept_there front (e ∷ es) zero s here = let is : s ≡ e.section = cc in ap (λ (w : Section). w.held.items) is
kept_there front (e ∷ es) (suc at) s here = kept_there front es at s here

kept_shown : (b : List ℕ) (front : List Item) (es : List (SectionEntry Section)) (at : ℕ)
    → items_of b (kept_at at front es) ≡ held_or (items_of b front) (slice_get (map (section_state b) es) at)
kept_shown b front [] at = refl
kept_shown b front (e ∷ es) zero = refl
kept_shown b front (e ∷ es) (suc at) = kept_shown b front es at

-- The bytes of the line end that goes between.
pub line_told : (at : ℕ) (b theirs : List ℕ) (front their_front items : List Item) (meta their_meta : Meta) (old others : Sections Section) (line_end : List ℕ) (parted : Bool)
    → items ≡ kept_at at front old.entries
    → between line_end (items_of b items) (items_of theirs their_front) ≡ (if parted then parts.LineEndsItem line_end ∷ [] else [])
    → (if parted then line_end else []) ≡ line_at at line_end (state_of theirs their_front their_meta others) (state_of b front meta old)
line_told at b theirs front their_front items meta their_meta old others line_end parted are told =
    choice parted
    ∙ ap (line_bytes line_end) (sym told)
    ∙ ap (λ is. line_bytes line_end (between line_end is (items_of theirs their_front))) (ap (items_of b) are ∙ kept_shown b front old.entries at)
  where
    choice : (r : Bool) → (if r then line_end else []) ≡ line_bytes line_end (if r then parts.LineEndsItem line_end ∷ [] else [])
    choice true = refl
    choice false = refl

-- No more bytes than a line end has.
pub line_bounded : (line_end : List ℕ) (items : List parts.Item) → length (line_bytes line_end items) ≤ length line_end
line_bounded line_end [] = omega arith
line_bounded line_end (i ∷ items) = omega arith

lines_are : (line_end : List ℕ) (items others : List parts.Item) → is_line_end line_end ≡ true → line_items (line_bytes line_end (between line_end items others)) ≡ between line_end items others
lines_are [] items others closes = absurd (cc)
lines_are (b ∷ line_end) [] others closes = refl
lines_are (b ∷ line_end) (i ∷ items) others closes = go (ends_line (b ∷ line_end) (i ∷ items) || begins_with (b ∷ line_end) others)
  where
    go : (t : Bool) → line_items (line_bytes (b ∷ line_end) (if t then [] else parts.LineEndsItem (b ∷ line_end) ∷ [])) ≡ (if t then [] else parts.LineEndsItem (b ∷ line_end) ∷ [])
    go true = refl
    go false = refl

-- Held behind the section at the place.
held_is : (line_end : List ℕ) (front others : List parts.Item) (at : ℕ) (sections : List SectionState)
    → held_at (between line_end (held_or front (slice_get sections at)) others ++ others) at sections ≡ update_at at (holding line_end others) sections
held_is line_end front others at [] = refl
held_is line_end front others zero (s ∷ sections) = refl
held_is line_end front others (suc at) (s ∷ sections) = ap (λ ss. s ∷ ss) (held_is line_end front others at sections)

-- The front.
front_joined : (at : ℕ) (b new line_end : List ℕ) (front behind : List Item) (es : List (SectionEntry Section)) (others : List parts.Item) → items_of new front ≡ items_of b front
    → items_of new behind ≡ between line_end (held_or (items_of b front) (slice_get (map (section_state b) es) at)) others ++ others
    → items_of new (front_then es front behind) ≡ elim (map (section_state b) es) as (λ _. List parts.Item) [ [] ↦ joined line_end (items_of b front) others | s ∷ ss ↦ items_of b front ]
front_joined at b new line_end front behind [] others same says = items_both new front behind ∙ (λ i. same i ++ says i)
front_joined at b new line_end front behind (e ∷ es) others same says = same

front_within : (n : ℕ) (front behind : List Item) (es : List (SectionEntry Section)) → AreItemsWithin n front → AreItemsWithin n behind → AreItemsWithin n (front_then es front behind)
front_within n front behind [] first second = within_both n front behind first second
front_within n front behind (e ∷ es) first second = first

-- All sections of a buffer may be moved, where there is room for the buffer and its copies.
pub movable : (theirs copies : List ℕ) (by copies_by : ℕ) → length theirs ≤ 2 ^ 32 - 1 - by → length copies ≤ 2 ^ 32 - 1 - copies_by → (es : List (SectionEntry Section))
    → AllByRecursion (SectionFits theirs copies) es → AllByRecursion (λ (e : SectionEntry Section). IsMovable by copies_by e.section) es
movable theirs copies by copies_by room copies_room [] fits = tt
movable theirs copies by copies_by room copies_room (e ∷ es) fits = (
  record {
    header = header_up (length theirs) (2 ^ 32 - 1 - by) room e.section.header fits.0.header.fits;
    copy = copy_up (length copies) (2 ^ 32 - 1 - copies_by) copies_room e.section.header.decoded fits.0.header.copy_fits;
    items = items_up (length theirs) (2 ^ 32 - 1 - by) room e.section.items.items fits.0.items;
    held = items_up (length theirs) (2 ^ 32 - 1 - by) room e.section.held.items fits.0.held;
  },
  movable theirs copies by copies_by room copies_room es fits.1,
)

-- Moved, they say what they said.
module _ (before theirs copies their_copies : List ℕ) (by copies_by : ℕ) (is : length before ≡ by) (has : length copies ≡ copies_by) where
  moved_state : (e f : SectionEntry Section) → IsEntryMoved by copies_by e f → section_state (before ++ theirs) f ≡ section_state theirs e
  moved_state e f moved = λ i. record {
    number = moved.number i;
    header = header_same before theirs by copies_by e.section.header f.section.header is moved.section.header i;
    meta = (moved.section.meta i).value;
    items = moved.section.items.same before theirs is i;
    held = moved.section.held.same before theirs is i;
  }

  moved_fits : (e f : SectionEntry Section) → IsEntryMoved by copies_by e f → SectionFits theirs their_copies e → SectionFits (before ++ theirs) (copies ++ their_copies) f
  moved_fits e f moved fits =
      let same = sym (header_same before theirs by copies_by e.section.header f.section.header is moved.section.header) in
      record {
        header = header_shown before theirs copies their_copies by copies_by e.section.header f.section.header is has moved.section.header fits.header;
        items = items_there before theirs by e.section.items.items f.section.items.items is moved.section.items fits.items;
        held = items_there before theirs by e.section.held.items f.section.held.items is moved.section.held fits.held;
        name = moved.name ∙ fits.name ∙ ap (λ h. fold (name_of h)) same;
        subsection = moved.subsection ∙ fits.subsection ∙ ap (λ h. subsection_of h) same;
      }

  pub moved_states : (es fs : List (SectionEntry Section)) → AllZip (IsEntryMoved by copies_by) es fs → map (section_state (before ++ theirs)) fs ≡ map (section_state theirs) es
  moved_states [] [] are = refl
  moved_states [] (f ∷ fs) are = elim are [ ]
  moved_states (e ∷ es) [] are = elim are [ ]
  moved_states (e ∷ es) (f ∷ fs) are = λ i. moved_state e f are.0 i ∷ moved_states es fs are.1 i

  pub all_moved_fit : (es fs : List (SectionEntry Section)) → AllZip (IsEntryMoved by copies_by) es fs → AllByRecursion (SectionFits theirs their_copies) es
      → AllByRecursion (SectionFits (before ++ theirs) (copies ++ their_copies)) fs
  all_moved_fit [] [] are fits = tt
  all_moved_fit [] (f ∷ fs) are fits = elim are [ ]
  all_moved_fit (e ∷ es) [] are fits = elim are [ ]
  all_moved_fit (e ∷ es) (f ∷ fs) are fits = (moved_fits e f are.0 fits.0, all_moved_fit es fs are.1 fits.1)

pub moved_count : (by copies_by : ℕ) (es fs : List (SectionEntry Section)) → AllZip (IsEntryMoved by copies_by) es fs → length fs ≡ length es
moved_count by copies_by [] [] are = refl
moved_count by copies_by [] (f ∷ fs) are = elim are [ ]
moved_count by copies_by (e ∷ es) [] are = elim are [ ]
moved_count by copies_by (e ∷ es) (f ∷ fs) are = ap suc (moved_count by copies_by es fs are.1)

-- What others are put behind keeps items such as a text may have.
one_joined : (line_end : LineEnd) (other : State) (s : SectionState) → HasItems other → HasSectionItems s → HasSectionItems (holding (bytes_of_line_end line_end) other.front s)
one_joined kinds.Lf other s more one =
    (apply_items (Append other) (record { front = parts.LineEndsItem (10 ∷ []) ∷ []; meta = s.meta; next = 0; used = 0; sections = s ∷ [] }) more (record { front = refl; sections = (one, tt) })).sections.0
one_joined kinds.CrLf other s more one =
    (apply_items (Append other) (record { front = parts.LineEndsItem (13 ∷ 10 ∷ []) ∷ []; meta = s.meta; next = 0; used = 0; sections = s ∷ [] }) more (record { front = refl; sections = (one, tt) })).sections.0

all_joined : (line_end : LineEnd) (other : State) (at : ℕ) (sections ns : List SectionState) → HasItems other → AllByRecursion HasSectionItems sections → AllByRecursion HasSectionItems ns
    → AllByRecursion HasSectionItems (update_at at (holding (bytes_of_line_end line_end) other.front) sections ++ ns)
all_joined line_end other at [] ns more all theirs = theirs
all_joined line_end other zero (s ∷ sections) ns more all theirs = (one_joined line_end other s more all.0, both sections all.1)
  where
    both : (ss : List SectionState) → AllByRecursion HasSectionItems ss → AllByRecursion HasSectionItems (ss ++ ns)
    both [] first = theirs
    both (t ∷ ss) first = (first.0, both ss first.1)
all_joined line_end other (suc at) (s ∷ sections) ns more all theirs = (all.0, all_joined line_end other at sections ns more all.1 theirs)

put_items : (at : ℕ) (line_end : LineEnd) (other state : State) → HasItems other → HasItems state → HasItems (put_at at (bytes_of_line_end line_end) other state)
put_items at line_end other state more has = record {
  front = front state.sections;
  sections = all_joined line_end other at state.sections (numbered_from state.next other.sections) more has.sections
      (apply_items (Append other) (record { front = []; meta = state.meta; next = state.next; used = 0; sections = [] }) more (record { front = refl; sections = tt })).sections;
}
  where
    alone : SectionState
    alone = record { number = 0; header = PlainHeader []; meta = state.meta; items = []; held = state.front }

    front : (sections : List SectionState) → list_all is_item (elim sections as (λ _. List parts.Item) [ [] ↦ joined (bytes_of_line_end line_end) state.front other.front | s ∷ ss ↦ state.front ]) ≡ true
    front [] = (one_joined line_end other alone more (record { header = refl; items = refl; held = has.front })).held
    front (s ∷ ss) = has.front

-- The store, the other one, and what was made of both.
module _ (at : ℕ) (line_end : LineEnd) (b bytes theirs copies their_copies new more : List ℕ) (front their_front moved_front : List Item) (meta their_meta : Meta) (old others moved after : Sections Section) (line : Option Span)
    (is : new ≡ (b ++ bytes) ++ theirs) (are : more ≡ copies ++ their_copies) (fits : StoreFits b copies front meta old) (their_fits : StoreFits theirs their_copies their_front their_meta others)
    (told : bytes ≡ line_at at (bytes_of_line_end line_end) (state_of theirs their_front their_meta others) (state_of b front meta old)) (stands : IsLineAt (b ++ bytes) bytes line)
    (front_moved : AreItemsMoved (length (b ++ bytes)) their_front moved_front) (sections_moved : AreSectionsMoved (length (b ++ bytes)) (length copies) others moved) where
  abbrev here : State
  here = state_of b front meta old

  abbrev other : State
  other = state_of theirs their_front their_meta others

  abbrev behind : List Item
  behind = line_end_item line ++ moved_front

  abbrev ends : List ℕ
  ends = bytes_of_line_end line_end

  longer : IsExtended b new
  longer = (bytes ++ theirs, is ∙ append_assoc b bytes theirs)

  closes : (l : LineEnd) → is_line_end (bytes_of_line_end l) ≡ true
  closes kinds.Lf = refl
  closes kinds.CrLf = refl

  line_says : items_of ((b ++ bytes) ++ theirs) (line_end_item line) ≡ between ends (items_at at here) other.front
  line_says = items_more (b ++ bytes) theirs (line_end_item line) stands.within
      ∙ stands.says ∙ ap line_items told
      ∙ lines_are ends (items_at at here) other.front (closes line_end)

  behind_says : items_of new behind ≡ between ends (items_at at here) other.front ++ other.front
  behind_says = ap (λ n. items_of n behind) is
      ∙ items_both ((b ++ bytes) ++ theirs) (line_end_item line) moved_front
      ∙ (λ i. line_says i ++ front_moved.same (b ++ bytes) theirs refl i)

  behind_within : AreItemsWithin (length new) behind
  behind_within = rw is (within_both (length ((b ++ bytes) ++ theirs)) (line_end_item line) moved_front (items_fit_more (b ++ bytes) theirs (line_end_item line) stands.within)
      (items_there (b ++ bytes) theirs (length (b ++ bytes)) their_front moved_front refl front_moved their_fits.front_within))

  others_states : map (section_state new) moved.entries ≡ other.sections
  others_states = ap (λ n. map (section_state n) moved.entries) is
      ∙ moved_states (b ++ bytes) theirs copies their_copies (length (b ++ bytes)) (length copies) refl refl others.entries moved.entries sections_moved.entries

  others_fit : AllSectionsFit new more moved
  others_fit = rw (is, are)
      (all_moved_fit (b ++ bytes) theirs copies their_copies (length (b ++ bytes)) (length copies) refl refl others.entries moved.entries sections_moved.entries their_fits.sections_within)

  counted : length moved.entries ≡ length other.sections
  counted = moved_count (length (b ++ bytes)) (length copies) others.entries moved.entries sections_moved.entries ∙ sym (length-map others.entries (section_state theirs))

  long : length new ≡ length b + bytes_at at ends other here
  long =
      let all = ap length is in
      let first = length-append (b ++ bytes) theirs in
      let second = length-append b bytes in
      let line = ap length told in
      omega (arith, all, first, second, line)

  module _ (new_front : List Item) (front_is : new_front ≡ front_then old.entries front behind) (put : AreBehind at behind moved old after) where
    pub put_state : state_of new new_front meta after ≡ put_at at ends other here
    put_state = λ i. record {
      front = (ap (items_of new) front_is
          ∙ front_joined at b new ends front behind old.entries other.front (extended_items b new front longer fits.front_within) behind_says) i;
      meta = meta;
      next = (put.next ∙ ap (λ n. old.next + n) counted) i;
      used = long i;
      sections = (put.states new
          ∙ (λ j. held_at (behind_says j) at (sections_in b new copies old.entries longer fits.sections_within j) ++ numbered_from old.next (others_states j))
          ∙ ap (λ ss. ss ++ numbered_from old.next other.sections) (held_is ends here.front other.front at here.sections)) i;
    }

    pub put_fits : length new < 2 ^ 32 → StoreFits new more new_front meta after
    put_fits room = record {
      room = room;
      front_within = rw front_is (front_within (length new) front behind old.entries (extended_fit b new front longer fits.front_within) behind_within);
      sections_within = put.fit new more (sections_fit_more new copies more old.entries (their_copies, are) (sections_fit_in b new copies old.entries longer fits.sections_within)) others_fit behind_within;
      items = subst HasItems (sym put_state) (put_items at line_end other here their_fits.items fits.items);
    }

-- The store as it was, in longer buffers and with other room in its lists.
module _ (b copies new more : List ℕ) (front new_front : List Item) (meta : Meta) (old after : Sections Section) (longer : IsExtended b new) (fits : StoreFits b copies front meta old)
    (front_is : new_front ≡ front) (same : AreSame old after) where
  pub same_state : state_of new new_front meta after ≡ with_used (length new) (state_of b front meta old)
  same_state = λ i. record {
    front = (ap (items_of new) front_is ∙ extended_items b new front longer fits.front_within) i;
    meta = meta;
    next = same.next i;
    used = length new;
    sections = (same.states new ∙ sections_in b new copies old.entries longer fits.sections_within) i;
  }

  pub same_fits : IsExtended copies more → length new < 2 ^ 32 → StoreFits new more new_front meta after
  same_fits longer_copies room = record {
    room = room;
    front_within = rw front_is (extended_fit b new front longer fits.front_within);
    sections_within = same.fit new more (sections_fit_more new copies more old.entries longer_copies (sections_fit_in b new copies old.entries longer fits.sections_within));
    items = subst HasItems (sym same_state) (record { front = fits.items.front; sections = fits.items.sections });
  }

-- A file is appended at the last place.
last_at : {A : Type 0} (x : A) (xs : List A) → slice_get (x ∷ xs) (length xs) ≡ last_or (Some x) xs
last_at x [] = refl
last_at x (y ∷ xs) = last_at y xs

last_place : {A : Type 0} (xs : List A) → slice_get xs (length xs - 1) ≡ last_or None xs
last_place [] = refl
last_place (x ∷ xs) = let n : suc (length xs) - 1 ≡ length xs = omega arith in ap (slice_get (x ∷ xs)) n ∙ last_at x xs

pub appended_bytes_at : (other state : State) → bytes_at (length state.sections - 1) (file_line_end state) other state ≡ appended_bytes other state
appended_bytes_at other state =
    ap (λ o. length (line_bytes (file_line_end state) (between (file_line_end state) (held_or state.front o) other.front)) + other.used) (last_place state.sections)

held_last : (line_end : List ℕ) (others : List parts.Item) (at : ℕ) (sections : List SectionState) → suc at ≡ length sections → update_at at (holding line_end others) sections ≡ held_behind_last line_end others sections
held_last line_end others at [] last = refl
held_last line_end others zero (s ∷ []) last = refl
held_last line_end others zero (s ∷ t ∷ sections) last = absurd (omega (arith, last))
held_last line_end others (suc at) (s ∷ []) last = absurd (omega (arith, last))
held_last line_end others (suc at) (s ∷ t ∷ sections) last = ap (λ ss. s ∷ ss) (held_last line_end others at (t ∷ sections) (omega (arith, last)))

held_end : (line_end : List ℕ) (others : List parts.Item) (sections : List SectionState) → update_at (length sections - 1) (holding line_end others) sections ≡ held_behind_last line_end others sections
held_end line_end others [] = refl
held_end line_end others (s ∷ sections) = held_last line_end others (length (s ∷ sections) - 1) (s ∷ sections) (omega arith)

pub appended_at : (other state : State) → put_at (length state.sections - 1) (file_line_end state) other state ≡ with_used (state.used + appended_bytes other state) (appended other state)
appended_at other state = λ i. record {
  front = elim state.sections as (λ _. List parts.Item) [ [] ↦ joined (file_line_end state) state.front other.front | s ∷ sections ↦ state.front ];
  meta = state.meta;
  next = state.next + length other.sections;
  used = state.used + appended_bytes_at other state i;
  sections = held_end (file_line_end state) other.front state.sections i ++ numbered_from state.next other.sections;
}

-- Where there is a section, the front stays.
pub included_at : (at : ℕ) (line_end : List ℕ) (other state : State) → at < length state.sections → put_at at line_end other state ≡ included at line_end other state
included_at at line_end other state within = λ i. record (included at line_end other state) { front = stays state.sections within i }
  where
    stays : (sections : List SectionState) → at < length sections
        → (elim sections as (λ _. List parts.Item) [ [] ↦ joined line_end state.front other.front | s ∷ ss ↦ state.front ]) ≡ state.front
    stays [] within = absurd (omega (arith, within))
    stays (s ∷ ss) within = refl

-- what a result says, either way
pub by_result : {T E : Type 0} {P Q R S U : Type 0} (r : Result T E) → (P → Q → U) → (R → S → U) → OnOk r P → OnOk r Q → OnErr r R → OnErr r S → U
by_result (Ok t) f g p q e h = f p q
by_result (Err e) f g p q k h = g k h

pub two_err : {T E : Type 0} {P Q R : Type 0} (r : Result T E) → (P → Q → R) → OnErr r P → OnErr r Q → OnErr r R
two_err (Ok t) f p q = tt
two_err (Err e) f p q = f p q

-- where neither cause is there, the refusal isn't that one
pub neither : {T : Type 0} {P Q : Type 0} (r : Result T ℕ) → (IsErrOf r 3 → ⊥) → (P → ⊥) → (Q → ⊥) → (IsErrOf r 3 → P ⊎ Q) × (P ⊎ Q → IsErrOf r 3)
neither r other first second = (λ is. absurd (other is), λ either. absurd (elim either [ inl p ↦ first p | inr q ↦ second q ]))

-- what went well was not refused
pub not_refused : {T : Type 0} (r : Result T ℕ) (t : T) → r ≡ Ok t → IsErrOf r 3 → ⊥
not_refused r t ok err = absurd (cc)

-- want of memory is another refusal
pub not_memory : {T : Type 0} (r : Result T ℕ) → IfErr r (λ e. e ≡ 27) → IsErrOf r 3 → ⊥
not_memory (Ok t) memory err = absurd (cc)
not_memory (Err e) memory err = let is : e ≡ 3 = cc in omega (arith, memory, is)
