-- A section that stands alone with other items, in a longer buffer.
use Rattle.std.proofs.Common.{◌≡◌, ℕ, ◌+◌, ◌<◌, ◌^◌, Bool, false, true, List, [], length, Option, Some, None, Result, Ok, Err, arith, refl, ap, sym, subst, ◌∙◌, inl, inr}
use Rattle.std.specs.Prelude.{◌⊎◌, OnErr, OnOk}
use Rattle.std.specs.List.{list_all}
use Rattle.gitconf_text.specs.Names.{is_made_name, is_valid_or_none, is_value_name}
use Rattle.gitconf_text.specs.Part as parts
use Rattle.gitconf_sources.specs.Metadata.{Meta}
use Rattle.gitconf_text.specs.Sections.{no_number}
use Rattle.gitconf_items.specs.declared.event.Event.TheVariants as kinds
use Rattle.gitconf_items.specs.declared.event.Header.{Header}
use Rattle.gitconf_items.specs.Events.{header_of}
use Rattle.gitconf_items.specs.ItemsFit.{AreItemsWithin}
use Rattle.gitconf_items.specs.ShownEvents.{IsExtended, IsShown}
use Rattle.gitconf_items.proofs.Shown.{is_shown_more}
use Rattle.gitconf_state.specs.Edit.{header_bytes, made_header}
use Rattle.gitconf_state.specs.Edits.{renamed, Detached}
use Rattle.gitconf_state.specs.State.{is_header, is_item}
use Rattle.gitconf_state.proofs.Edits.Items.{made_header_is}
use Rattle.gitconf_items.specs.Items.{items_of}
use Rattle.gitconf_body.specs.Done.{IsDone, room_causes}
use Rattle.gitconf_body.specs.Refusals.{span_refusal, value_refusal}
use Rattle.gitconf_body.proofs.Buffers.{extended_fit, extended_items}
use Rattle.gitconf_body.proofs.Done.{key_err, key_ok, key_refused, room_err, room_ok}
use Rattle.gitconf_views.specs.declared.section.Section.{Section as Own}
use Rattle.gitconf_views.specs.Alone.{changed_alone, detached_of, made_alone, whole, with_items, IsEditedAlone, StandsAlone}
use Rattle.gitconf_body.specs.Copies.{header_size, items_size}
use Rattle.gitconf_body.specs.Growth.{UsedGrows}
use Rattle.gitconf_views.specs.Store.{section_under}
use Rattle.gitconf_body.specs.ValueErrors.{of_span}
use Rattle.gitconf_body.specs.declared.value.Error.{Error as ValueError}
use Rattle.gitconf_body.specs.declared.value.Error.TheVariants.{ValueName}
use Rattle.gitconf_views.proofs.Append.{header_more, header_shown_more}

-- its header in the longer buffer
header_in : (b new copies : List ℕ) (h : Header) → IsExtended b new → IsShown b copies (kinds.SectionHeader h) → header_of new h ≡ header_of b h
header_in b new copies h x shown = ap (λ n. header_of n h) x.1 ∙ header_more b x.0 h shown.fits

shown_in : (b new copies : List ℕ) (h : Header) → IsExtended b new → IsShown b copies (kinds.SectionHeader h) → IsShown new copies (kinds.SectionHeader h)
shown_in b new copies h x shown = subst (λ n. IsShown n copies (kinds.SectionHeader h)) (sym x.1) (header_shown_more b copies x.0 h shown)

shown_by_more : (b copies more : List ℕ) (h : Header) → IsExtended copies more → IsShown b copies (kinds.SectionHeader h) → IsShown b more (kinds.SectionHeader h)
shown_by_more b copies more h y shown = subst (λ n. IsShown b n (kinds.SectionHeader h)) (sym y.1) (is_shown_more b copies y.0 (kinds.SectionHeader h) shown)

-- a section with other items
pub record HasOwn (limit : ℕ) (s t : Own) : Type 0 where
  pub header : t.header ≡ s.header
  pub meta : t.meta ≡ s.meta
  pub within : AreItemsWithin limit t.items.items

-- the section with the change
pub edited_alone : (b new copies : List ℕ) (number : ℕ) (s t : Own) (change : List parts.Item → List parts.Item) → IsExtended b new → HasOwn (length new) s t → StandsAlone b copies s
    → items_of new t.items.items ≡ change (items_of b s.items.items) → section_under new number (whole t) ≡ with_items change (section_under b number (whole s))
edited_alone b new copies number s t change x others old set = λ i. record {
  number = number;
  header = (ap (header_of new) others.header ∙ header_in b new copies s.header x old.header) i;
  meta = ap (λ m. m.value) others.meta i;
  items = set i;
  held = [];
}

-- one that was refused
same_items : (b new copies : List ℕ) (s t : Own) → IsExtended b new → StandsAlone b copies s → t.items.items ≡ s.items.items → items_of new t.items.items ≡ items_of b s.items.items
same_items b new copies s t x old kept = ap (items_of new) kept ∙ extended_items b new s.items.items x old.within

pub kept_alone : (b new copies : List ℕ) (number : ℕ) (s t : Own) → IsExtended b new → HasOwn (length new) s t → StandsAlone b copies s → t.items.items ≡ s.items.items
    → section_under new number (whole t) ≡ section_under b number (whole s)
kept_alone b new copies number s t x others old kept = edited_alone b new copies number s t (λ items. items) x others old (same_items b new copies s t x old kept)

-- Either way it stands alone.
pub stands_still : (b new copies : List ℕ) (s t : Own) (change : List parts.Item → List parts.Item) → IsExtended b new → length new < 2 ^ 32 → HasOwn (length new) s t → StandsAlone b copies s
    → list_all is_item (change (items_of b s.items.items)) ≡ true
    → (items_of new t.items.items ≡ change (items_of b s.items.items)) ⊎ (t.items.items ≡ s.items.items) → StandsAlone new copies t
stands_still b new copies s t change x room others old are either = record {
  room = room;
  header = subst (λ h. IsShown new copies (kinds.SectionHeader h)) (sym others.header) (shown_in b new copies s.header x old.header);
  within = others.within;
  spelled = ap is_header (ap (header_of new) others.header ∙ header_in b new copies s.header x old.header) ∙ old.spelled;
  items = elim either [
    | inl set ↦ ap (list_all is_item) set ∙ are
    | inr kept ↦ ap (list_all is_item) (same_items b new copies s t x old kept) ∙ old.items
  ];
}

-- More bytes stand behind it, and more copies.
pub longer_stands : (b new copies more : List ℕ) (s : Own) → IsExtended b new → IsExtended copies more → length new < 2 ^ 32 → StandsAlone b copies s → StandsAlone new more s
longer_stands b new copies more s x y room old = record {
  room = room;
  header = shown_by_more new copies more s.header y (shown_in b new copies s.header x old.header);
  within = extended_fit b new s.items.items x old.within;
  spelled = ap is_header (header_in b new copies s.header x old.header) ∙ old.spelled;
  items = ap (list_all is_item) (extended_items b new s.items.items x old.within) ∙ old.items;
}

-- It has another header.
pub renamed_alone : (b new copies : List ℕ) (number : ℕ) (s : Own) (h : Header) (name : List ℕ) (subsection : Option (List ℕ)) → IsExtended b new → StandsAlone b copies s
    → header_of new h ≡ made_header name subsection → section_under new number (whole (record s { header = h })) ≡ renamed name subsection (section_under b number (whole s))
renamed_alone b new copies number s h name subsection x old made = λ i. record {
  number = number;
  header = made i;
  meta = s.meta.value;
  items = extended_items b new s.items.items x old.within i;
  held = [];
}

pub renamed_stands : (b new copies more : List ℕ) (s : Own) (h : Header) (name : List ℕ) (subsection : Option (List ℕ)) → IsExtended b new → length new < 2 ^ 32 → StandsAlone b copies s
    → header_of new h ≡ made_header name subsection → IsShown new more (kinds.SectionHeader h) → is_made_name name ≡ true → is_valid_or_none subsection ≡ true
    → StandsAlone new more (record s { header = h })
renamed_stands b new copies more s h name subsection x room old made shown named valid = record {
  room = room;
  header = shown;
  within = extended_fit b new s.items.items x old.within;
  spelled = ap is_header made ∙ made_header_is name subsection named valid;
  items = ap (list_all is_item) (extended_items b new s.items.items x old.within) ∙ old.items;
}

-- One that is made stands alone.
pub made_stands : (b copies : List ℕ) (s : Own) (name : List ℕ) (subsection : Option (List ℕ)) → length b < 2 ^ 32 → header_of b s.header ≡ made_header name subsection
    → IsShown b copies (kinds.SectionHeader s.header) → s.items.items ≡ [] → is_made_name name ≡ true → is_valid_or_none subsection ≡ true → StandsAlone b copies s
made_stands b copies s name subsection room made shown empty named valid = record {
  room = room;
  header = shown;
  within = subst (AreItemsWithin (length b)) (sym empty) tt;
  spelled = ap is_header made ∙ made_header_is name subsection named valid;
  items = ap (λ is. list_all is_item (items_of b is)) empty;
}

made_size : (name : List ℕ) (subsection : Option (List ℕ)) → header_bytes name subsection ≡ items_size [] + header_size (made_header name subsection)
made_size name None = omega arith
made_size name (Some subsection) = omega arith

pub made_alone_is : (b : List ℕ) (s : Own) (name : List ℕ) (subsection : Option (List ℕ)) (meta : Meta) → header_of b s.header ≡ made_header name subsection → s.meta.value ≡ meta
    → s.items.items ≡ [] → length b ≡ header_bytes name subsection → detached_of b no_number s ≡ made_alone name subsection meta
made_alone_is b s name subsection meta made from empty count = λ i. record {
  section = record { number = no_number; header = made i; meta = from i; items = items_of b (empty i); held = [] };
  used = (count ∙ made_size name subsection) i;
}

-- an edit whose bytes were counted
pub alone_ok : {T U : Type 0} (t : T) (u : U) (key : List ℕ) (change : List parts.Item → List parts.Item) (count bytes : ℕ) (old new : Detached) → is_value_name key ≡ true
    → new.section ≡ with_items change old.section → UsedGrows (Ok t) count old.used new.used → count ≡ bytes → IsEditedAlone change key bytes (Ok u) old new
alone_ok t u key change count bytes old new named is puts same =
    let grows : UsedGrows (Ok t) bytes old.used new.used = subst (λ n. UsedGrows (Ok t) n old.used new.used) same puts in
    record { ok = λ i. record { section = is i; used = grows.put i }; err = tt; told = key_ok value_refusal t u key old.used new.used bytes named grows }

-- one that was refused
pub alone_err : {T : Type 0} (U : Type 0) (n : ℕ) (e : ValueError) (key : List ℕ) (change : List parts.Item → List parts.Item) (count bytes : ℕ) (old new : Detached) → is_value_name key ≡ true → new ≡ old
    → UsedGrows {T = T} (Err n) count old.used new.used → count ≡ bytes → e ≡ of_span n → IsEditedAlone {T = U} change key bytes (Err e) old new
alone_err {T} U n e key change count bytes old new named is puts same refusal =
    let grows : UsedGrows {T = T} (Err n) bytes old.used new.used = subst (λ m. UsedGrows {T = T} (Err n) m old.used new.used) same puts in
    record {
      ok = tt;
      err = is;
      told = key_err {T = T} U value_refusal n e key old.used new.used bytes named grows (λ three. refusal ∙ ap of_span three) (λ memory. refusal ∙ ap of_span memory);
    }

-- a name that is none changes nothing
pub alone_unnamed : (T : Type 0) (e : ValueError) (key : List ℕ) (change : List parts.Item → List parts.Item) (bytes : ℕ) (old : Detached) → is_value_name key ≡ false → e ≡ ValueName 6
    → IsEditedAlone {T = T} change key bytes (Err e) old old
alone_unnamed T e key change bytes old none six = record { ok = tt; err = refl; told = key_refused T value_refusal key old.used bytes e none six }

-- a line ending
pub line_end_alone : {T : Type 0} (r : Result T ℕ) (change : List parts.Item → List parts.Item) (bytes : ℕ) (old new : Detached) → OnOk r (new.section ≡ with_items change old.section) → OnErr r (new ≡ old)
    → UsedGrows r bytes old.used new.used → IsDone (room_causes old.used bytes) span_refusal r (changed_alone change bytes old) old new
line_end_alone (Ok t) change bytes old new ok err puts = record { ok = λ i. record { section = ok i; used = puts.put i }; err = tt; told = room_ok span_refusal t t old.used new.used bytes puts }
line_end_alone {T} (Err n) change bytes old new ok err puts = record {
  ok = tt;
  err = err;
  told = room_err {T = T} T span_refusal n n old.used new.used bytes puts (λ three. three) (λ memory. memory);
}
