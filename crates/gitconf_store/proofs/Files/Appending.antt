-- A section that was detached stands behind those of a store.
use Rattle.std.proofs.Common.{◌≡◌, ℕ, ◌+◌, ◌<◌, ◌≤◌, ◌^◌, List, [], ◌∷◌, ◌++◌, length, map, Option, Some, None, refl, ap, sym, subst, ◌∙◌, arith, length-append, Result, Ok, Err}
use Rattle.std.specs.Prelude.{if◌then◌else◌, is_some, OnErr, OnOk}
use Rattle.std.specs.List.{AllByRecursion}
use Rattle.std.specs.Option.{option_map}
use Rattle.std.specs.Str.{bytes_eq}
use Rattle.gitconf_text.specs.Header as grammar
use Rattle.gitconf_text.specs.Token.{HeaderToken}
use Rattle.gitconf_sources.specs.Metadata.{Meta}
use Rattle.gitconf_items.specs.declared.event.Copied.{Copied}
use Rattle.gitconf_items.specs.declared.event.Header.{Header}
use Rattle.gitconf_items.specs.declared.event.Span.{Span}
use Rattle.gitconf_items.specs.declared.event.Event.TheVariants as kinds
use Rattle.gitconf_items.specs.declared.entry.Assigned.{Assigned}
use Rattle.gitconf_items.specs.declared.entry.Assigned.TheVariants as forms
use Rattle.gitconf_items.specs.declared.items.Item.{Item}
use Rattle.gitconf_items.specs.declared.items.Item.TheVariants as items
use Rattle.gitconf_items.specs.declared.entry.Piece.{Piece}
use Rattle.gitconf_items.specs.Events.{bytes_of, header_form, header_of, HeaderFits, OptionFits, SpanFits}
use Rattle.gitconf_items.specs.EventRef.{ShownHeader}
use Rattle.gitconf_items.specs.ItemsFit.{AreItemsWithin, AssignedFits, ItemFits, PieceFits}
use Rattle.gitconf_items.specs.ShownEvents.{decoded_or, shown_token, CopyFits, IsExtended, IsShown}
use Rattle.gitconf_text.proofs.Lists.{all_push}
use Rattle.gitconf_text.specs.Sections.{Sections}
use Rattle.gitconf_state.specs.Edit.{with_used}
use Rattle.gitconf_state.specs.Edits.{with_last}
use Rattle.gitconf_state.specs.State.{HasItems, HasSectionItems}
use Rattle.gitconf_items.specs.Items.{items_of}
use Rattle.gitconf_items.specs.Moves.{copy_of, AreItemsMoved, IsHeaderMoved}
use Rattle.gitconf_body.proofs.Buffers.{extended_fit, extended_items}
use Rattle.gitconf_sections.specs.Section.{Section}
use Rattle.gitconf_views.specs.declared.section.Section.{Section as Own}
use Rattle.gitconf_views.specs.Alone.{StandsAlone, detached_of, whole}
use Rattle.gitconf_sections.specs.Moves.{IsSectionMoved}
use Rattle.gitconf_views.specs.Store.{section_state, section_under, state_of, AllSectionsFit, StoreFits}
use Rattle.gitconf_store.proofs.Edits.Setting.{sections_in}

-- What stands within fewer bytes stands within more.
pieces_up : (m n : ℕ) → m ≤ n → (ps : List Piece) → AllByRecursion (PieceFits m) ps → AllByRecursion (PieceFits n) ps
pieces_up m n le [] fits = tt
pieces_up m n le (p ∷ ps) fits = ((omega (arith, le, fits.0.0), omega (arith, le, fits.0.1)), pieces_up m n le ps fits.1)

assigned_up : (m n : ℕ) → m ≤ n → (a : Assigned) → AssignedFits m a → AssignedFits n a
assigned_up m n le forms.Nothing fits = tt
assigned_up m n le (forms.Plain blanks value) fits = (omega (arith, le, fits.0), omega (arith, le, fits.1))
assigned_up m n le (forms.Continued c) fits = (omega (arith, le, fits.0), (pieces_up m n le c.value.pieces.items fits.1.0, omega (arith, le, fits.1.1)))

item_up : (m n : ℕ) → m ≤ n → (i : Item) → ItemFits m i → ItemFits n i
item_up m n le (items.Blanks run) fits = omega (arith, le, fits)
item_up m n le (items.LineEnds run) fits = omega (arith, le, fits)
item_up m n le (items.Comment tag text) fits = omega (arith, le, fits)
item_up m n le (items.Entry e) fits = (omega (arith, le, fits.0), omega (arith, le, fits.1), assigned_up m n le e.assigned fits.2)

pub items_up : (m n : ℕ) → m ≤ n → (is : List Item) → AreItemsWithin m is → AreItemsWithin n is
items_up m n le [] fits = tt
items_up m n le (i ∷ is) fits = (item_up m n le i fits.0, items_up m n le is fits.1)

option_up : (m n : ℕ) → m ≤ n → (o : Option Span) → OptionFits m o → OptionFits n o
option_up m n le None fits = tt
option_up m n le (Some s) fits = omega (arith, le, fits)

pub header_up : (m n : ℕ) → m ≤ n → (h : Header) → HeaderFits m h → HeaderFits n h
header_up m n le h fits = record {
  name = let f = fits.name in omega (arith, le, f);
  separator = option_up m n le h.separator fits.separator;
  subsection = option_up m n le h.subsection fits.subsection;
  both = fits.both;
}

pub copy_up : (m n : ℕ) → m ≤ n → (o : Option Copied) → CopyFits m o → CopyFits n o
copy_up m n le None fits = tt
copy_up m n le (Some c) fits = omega (arith, le, fits)

-- A header behind other bytes is spelled and shown as it was.
form_same : (b c n m : List ℕ) (s t u v : Option Span) → n ≡ m → option_map (bytes_of b) s ≡ option_map (bytes_of c) t → option_map (bytes_of b) u ≡ option_map (bytes_of c) v
    → header_form b n s u ≡ header_form c m t v
form_same b c n m None None u v name separator subsection = ap grammar.PlainHeader name
form_same b c n m None (Some t) u v name separator subsection = absurd (cc)
form_same b c n m (Some s) None u v name separator subsection = absurd (cc)
form_same b c n m (Some s) (Some t) None None name separator subsection = ap grammar.PlainHeader name
form_same b c n m (Some s) (Some t) None (Some v) name separator subsection = absurd (cc)
form_same b c n m (Some s) (Some t) (Some u) None name separator subsection = absurd (cc)
form_same b c n m (Some s) (Some t) (Some u) (Some v) name separator subsection =
    let first : bytes_of b s ≡ bytes_of c t = cc in
    let second : bytes_of b u ≡ bytes_of c v = cc in
    λ i. if bytes_eq (first i) (46 ∷ []) then grammar.DottedHeader (name i) (second i) else grammar.QuotedHeader (name i) (first i) (second i)

decoded_same : (c d : List ℕ) (o p : Option Copied) (s t : Option (List ℕ)) → copy_of c o ≡ copy_of d p → s ≡ t → decoded_or c o s ≡ decoded_or d p t
decoded_same c d None None s t copies same = same
decoded_same c d None (Some p) s t copies same = absurd (cc)
decoded_same c d (Some o) None s t copies same = absurd (cc)
decoded_same c d (Some o) (Some p) s t copies same = copies

some_same : (b c : List ℕ) (s t : Option Span) → option_map (bytes_of b) s ≡ option_map (bytes_of c) t → is_some s ≡ is_some t
some_same b c None None same = refl
some_same b c None (Some t) same = absurd (cc)
some_same b c (Some s) None same = absurd (cc)
some_same b c (Some s) (Some t) same = refl

pub header_same : (before buffer : List ℕ) (by copies_by : ℕ) (h new : Header) → length before ≡ by → IsHeaderMoved by copies_by h new → header_of (before ++ buffer) new ≡ header_of buffer h
header_same before buffer by copies_by h new is moved =
    form_same (before ++ buffer) buffer (bytes_of (before ++ buffer) new.name) (bytes_of buffer h.name) new.separator h.separator new.subsection h.subsection
    (moved.name.same before buffer is) (moved.separator.same before buffer is) (moved.subsection.same before buffer is)

pub header_shown : (before buffer copies_before copies : List ℕ) (by copies_by : ℕ) (h new : Header) → length before ≡ by → length copies_before ≡ copies_by → IsHeaderMoved by copies_by h new
    → IsShown buffer copies (kinds.SectionHeader h) → IsShown (before ++ buffer) (copies_before ++ copies) (kinds.SectionHeader new)
header_shown before buffer copies_before copies by copies_by h new is has moved shown =
    let count : by + length buffer ≡ length (before ++ buffer) = (let l = length-append before buffer in omega (arith, l, is)) in
    let copy_count : copies_by + length copies ≡ length (copies_before ++ copies) = (let l = length-append copies_before copies in omega (arith, l, has)) in
    record {
      fits = record {
        name = subst (λ n. SpanFits n new.name) count (moved.name.within (length buffer) shown.fits.name);
        separator = subst (λ n. OptionFits n new.separator) count (moved.separator.within (length buffer) shown.fits.separator);
        subsection = subst (λ n. OptionFits n new.subsection) count (moved.subsection.within (length buffer) shown.fits.subsection);
        both = some_same (before ++ buffer) buffer new.separator h.separator (moved.separator.same before buffer is)
            ∙ shown.fits.both
            ∙ sym (some_same (before ++ buffer) buffer new.subsection h.subsection (moved.subsection.same before buffer is));
      };
      copy_fits = subst (λ n. CopyFits n new.decoded) copy_count (moved.decoded.within (length copies) shown.copy_fits);
      shown = (λ i. ShownHeader (moved.name.same before buffer is i) (moved.separator.same before buffer is i)
          (decoded_same (copies_before ++ copies) copies new.decoded h.decoded _ _ (moved.decoded.same copies_before copies has) (moved.subsection.same before buffer is) i))
          ∙ shown.shown ∙ ap (λ t. shown_token (HeaderToken t)) (sym (header_same before buffer by copies_by h new is moved));
    }

pub items_there : (before buffer : List ℕ) (by : ℕ) (old new : List Item) → length before ≡ by → AreItemsMoved by old new → AreItemsWithin (length buffer) old → AreItemsWithin (length (before ++ buffer)) new
items_there before buffer by old new is moved within =
    let count : by + length buffer ≡ length (before ++ buffer) = (let l = length-append before buffer in omega (arith, l, is)) in
    subst (λ n. AreItemsWithin n new) count (moved.within (length buffer) within)

-- no items are moved
pub nothing_moved : (by : ℕ) → AreItemsMoved by [] []
nothing_moved by = record { same = λ before buffer is. refl; within = λ limit fits. fits }

-- The section in its own buffer, and where it was put.
module _ (b theirs copies their_copies new more : List ℕ) (front : List Item) (meta : Meta) (old after : Sections Section) (id : ℕ) (s : Own) (t : Section)
    (is : new ≡ b ++ theirs) (are : more ≡ copies ++ their_copies) (fits : StoreFits b copies front meta old) (alone : StandsAlone theirs their_copies s) (moved : IsSectionMoved (length b) (length copies) (whole s) t) where
  pub shown_there : IsShown new more (kinds.SectionHeader t.header)
  shown_there = rw (is, are) (header_shown b theirs copies their_copies (length b) (length copies) s.header t.header refl refl moved.header alone.header)

  pub within_there : AreItemsWithin (length new) t.items.items
  within_there = rw is (items_there b theirs (length b) s.items.items t.items.items refl moved.items alone.within)

  same_section : (number : ℕ) → section_under new number t ≡ record { number = number; header = header_of theirs s.header; meta = s.meta.value; items = items_of theirs s.items.items; held = [] }
  same_section number = λ i. record {
    number = number;
    header = (ap (λ n. header_of n t.header) is ∙ header_same b theirs (length b) (length copies) s.header t.header refl moved.header) i;
    meta = (moved.meta i).value;
    items = (ap (λ n. items_of n t.items.items) is ∙ moved.items.same b theirs refl) i;
    held = (ap (λ n. items_of n t.held.items) is ∙ moved.held.same b theirs refl) i;
  }

  longer : IsExtended b new
  longer = (theirs, is)

  pub pushed_state : map (section_state new) after.entries ≡ map (section_state new) old.entries ++ section_under new old.next t ∷ [] → after.next ≡ old.next + 1
      → state_of new front meta after ≡ with_used (length new) (with_last (detached_of theirs id s).section (state_of b front meta old))
  pushed_state put next = λ i. record {
    front = extended_items b new front longer fits.front_within i;
    meta = meta;
    next = next i;
    used = length new;
    sections = (put ∙ (λ j. sections_in b new copies old.entries longer fits.sections_within j ++ same_section old.next j ∷ [])) i;
  }

  pub pushed_fits : length new < 2 ^ 32 → AllSectionsFit new more after → map (section_state new) after.entries ≡ map (section_state new) old.entries ++ section_under new old.next t ∷ [] → after.next ≡ old.next + 1
      → StoreFits new more front meta after
  pushed_fits room within put next = record {
    room = room;
    front_within = extended_fit b new front longer fits.front_within;
    sections_within = within;
    items = subst HasItems (sym (pushed_state put next)) (record {
      front = fits.items.front;
      sections = all_push HasSectionItems (state_of b front meta old).sections _ fits.items.sections
          (record { header = alone.spelled; items = alone.items; held = refl });
    });
  }

-- what a result says of both
pub two_ok : {T E : Type 0} {P Q R : Type 0} (r : Result T E) → (P → Q → R) → OnOk r P → OnOk r Q → OnOk r R
two_ok (Ok t) f p q = f p q
two_ok (Err e) f p q = p

pub ok_or_err : {T E : Type 0} {P Q R S U : Type 0} (r : Result T E) → (P → Q → R → U) → (S → U) → OnOk r P → OnOk r Q → OnOk r R → OnErr r S → U
ok_or_err (Ok t) f g p q s e = f p q s
ok_or_err (Err e) f g p q s h = g h
