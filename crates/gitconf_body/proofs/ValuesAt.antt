-- Entries that are written and deleted at a place.
use Rattle.std.proofs.Common.{◌≡◌, ℕ, zero, suc, ◌+◌, ◌-◌, ◌≤◌, ◌<◌, min, Bool, true, false, List, [], ◌∷◌, ◌++◌, length, map, take, drop, slice_set, Some, refl, ap, sym, subst, ◌∙◌, arith, append-nil}
use Rattle.std.specs.Prelude.{◌==◌, if◌then◌else◌}
use Rattle.std.specs.List.{AllByRecursion}
use Rattle.std.proofs.lemmas.Bool.{eqb-true}
use Rattle.std.proofs.lemmas.List.{take-map, drop-map, take_min, take_all, drop_all, length-drop, map-append}
use Rattle.gitconf_text.specs.Part as parts
use Rattle.gitconf_items.specs.declared.event.Span.{Span}
use Rattle.gitconf_items.specs.declared.entry.Assigned.{Assigned}
use Rattle.gitconf_items.specs.declared.entry.Assigned.TheVariants as forms
use Rattle.gitconf_items.specs.declared.items.Item.{Item}
use Rattle.gitconf_items.specs.declared.items.Item.TheVariants as items
use Rattle.gitconf_items.specs.declared.entry.Piece.{Piece}
use Rattle.gitconf_items.specs.Events.{bytes_of, SpanFits}
use Rattle.gitconf_items.specs.Items.{piece_of, assigned_of, item_of, items_of}
use Rattle.gitconf_items.specs.ItemsFit.{AreItemsWithin, AssignedFits, ItemFits, PieceFits}
use Rattle.gitconf_items.specs.ShownEvents.{IsExtended}
use Rattle.gitconf_state.specs.Editors as states
use Rattle.gitconf_state.specs.Editors.{unless_empty, behind_written, deleted_at, entry_made, line_end_item, written_at}
use Rattle.gitconf_body.specs.declared.value_at.InPlaceOf.{InPlaceOf}
use Rattle.gitconf_body.specs.declared.value_at.InPlaceOf.TheVariants.{Nothing, EntryButLineEnd}
use Rattle.gitconf_body.specs.declared.value_at.InPlaceOf.TheVariants as in_place_of
use Rattle.gitconf_body.specs.Spacings.{nothing}
use Rattle.gitconf_body.specs.Standing.{Stand, end_items}
use Rattle.gitconf_body.specs.Taken.{StayWithin}
use Rattle.gitconf_body.specs.ValuesAt.{IfReplaces, behind_way, instead_of, is_before_comment, kept_behind, kept_end, last_end, last_end_or, unless_short, way_before, without_first}
use Rattle.gitconf_body.proofs.EntryLemmas.{all_both}
use Rattle.gitconf_body.proofs.Standing.{line_ends_stand, none_stand, stand_both, stand_more}
use Rattle.gitconf_body.proofs.Taken.{dropped_all, taken_all}

-- the bytes of a span that has some, and of one that has none
first_bytes : (n : ℕ) (xs : List ℕ) → suc n ≤ length xs → (b : ℕ) × (rest : List ℕ) × (take (suc n) xs ≡ b ∷ rest)
first_bytes n [] long = absurd (omega (arith, long))
first_bytes n (b ∷ xs) long = (b, take n xs, refl)

has_bytes : (buffer : List ℕ) (s : Span) (n : ℕ) → s.len ≡ suc n → SpanFits (length buffer) s → (b : ℕ) × (rest : List ℕ) × (bytes_of buffer s ≡ b ∷ rest)
has_bytes buffer s n is fits =
    let l = length-drop s.start buffer in
    let f = first_bytes n (drop s.start buffer) (omega (arith, fits, l, is)) in
    (f.0, f.1, ap (λ k. take k (drop s.start buffer)) is ∙ f.2)

no_bytes : (buffer : List ℕ) (s : Span) → s.len ≡ 0 → bytes_of buffer s ≡ []
no_bytes buffer s is = ap (λ k. take k (drop s.start buffer)) is

-- The line end that stays is the one that is told of the items' bytes.
kept_of : (buffer : List ℕ) (last run : Span) (before : Bool) → SpanFits (length buffer) last → SpanFits (length buffer) run
    → Stand buffer (end_items (kept_behind last.len before run))
    (elim (bytes_of buffer last) as (λ _. List parts.Item) [ [] ↦ if before then line_end_item (bytes_of buffer run) else [] | b ∷ bs ↦ [] ])
kept_of buffer last run before fits within = go last.len refl before
  where
    short : (n : ℕ) → run.len ≡ n → Stand buffer (end_items (unless_short run n)) (line_end_item (bytes_of buffer run))
    short zero is = subst (λ t. Stand buffer [] (line_end_item t)) (sym (no_bytes buffer run is)) (none_stand buffer)
    short (suc n) is =
        let h = has_bytes buffer run n is within in
        subst (λ t. Stand buffer (items.LineEnds run ∷ []) (line_end_item t)) (sym h.2) (line_ends_stand buffer run (h.0 ∷ h.1) (record { fits = within; is = h.2 }))

    go : (n : ℕ) → last.len ≡ n → (before : Bool)
        → Stand buffer (end_items (kept_behind n before run))
        (elim (bytes_of buffer last) as (λ _. List parts.Item) [ [] ↦ if before then line_end_item (bytes_of buffer run) else [] | b ∷ bs ↦ [] ])
    go zero is true = rw (no_bytes buffer last is) (short run.len refl)
    go zero is false = rw (no_bytes buffer last is) (none_stand buffer)
    go (suc n) is before = let h = has_bytes buffer last n is fits in rw h.2 (none_stand buffer)

before_shown : (buffer : List ℕ) (is : List Item) → is_before_comment is ≡ states.is_before_comment (items_of buffer is)
before_shown buffer [] = refl
before_shown buffer (items.Blanks run ∷ is) = before_shown buffer is
before_shown buffer (items.LineEnds run ∷ is) = refl
before_shown buffer (items.Comment tag text ∷ is) = refl
before_shown buffer (items.Entry e ∷ is) = refl

-- bytes, or those of a piece before them, or others
unless_both_empty : (later own others : List ℕ) → unless_empty later (unless_empty own others) ≡ unless_empty (unless_empty later own) others
unless_both_empty [] own others = refl
unless_both_empty (b ∷ later) own others = refl

or_none : (later : List ℕ) → unless_empty later [] ≡ later
or_none [] = refl
or_none (b ∷ later) = refl

-- a number that is not 0
is_suc : (n : ℕ) → (n == 0) ≡ false → (m : ℕ) × (n ≡ suc m)
is_suc zero none = absurd (let same : true ≡ false = none in cc)
is_suc (suc m) none = (m, refl)

end_shown_or : (buffer : List ℕ) (run : Span) (ps : List Piece) → AllByRecursion (PieceFits (length buffer)) ps
    → bytes_of buffer (last_end_or run ps) ≡ unless_empty (states.last_line_end (map (piece_of buffer) ps)) (bytes_of buffer run)
end_shown_or buffer run [] fits = refl
end_shown_or buffer run (p ∷ ps) fits =
    go (p.line_end.len == 0) refl (λ s. end_shown_or buffer s ps fits.1)
    ∙ unless_both_empty (states.last_line_end (map (piece_of buffer) ps)) (bytes_of buffer p.line_end) (bytes_of buffer run)
  where
    go : (t : Bool) → (p.line_end.len == 0) ≡ t
        → ((s : Span) → bytes_of buffer (last_end_or s ps) ≡ unless_empty (states.last_line_end (map (piece_of buffer) ps)) (bytes_of buffer s))
        → bytes_of buffer (last_end_or (if t then run else p.line_end) ps)
        ≡ unless_empty (states.last_line_end (map (piece_of buffer) ps)) (unless_empty (bytes_of buffer p.line_end) (bytes_of buffer run))
    go true is later =
        later run
        ∙ ap (λ bytes. unless_empty (states.last_line_end (map (piece_of buffer) ps)) (unless_empty bytes (bytes_of buffer run))) (sym (no_bytes buffer p.line_end (eqb-true p.line_end.len 0 is)))
    go false is later =
        let n = is_suc p.line_end.len is in
        let h = has_bytes buffer p.line_end n.0 n.1 fits.0.1 in
        later p.line_end ∙ ap (unless_empty (states.last_line_end (map (piece_of buffer) ps))) (h.2 ∙ ap (λ bytes. unless_empty bytes (bytes_of buffer run)) (sym h.2))

end_shown : (buffer : List ℕ) (ps : List Piece) → AllByRecursion (PieceFits (length buffer)) ps → bytes_of buffer (last_end ps) ≡ states.last_line_end (map (piece_of buffer) ps)
end_shown buffer ps fits = end_shown_or buffer nothing ps fits ∙ or_none (states.last_line_end (map (piece_of buffer) ps))

end_fits_or : (limit : ℕ) (run : Span) (ps : List Piece) → SpanFits limit run → AllByRecursion (PieceFits limit) ps → SpanFits limit (last_end_or run ps)
end_fits_or limit run [] within fits = within
end_fits_or limit run (p ∷ ps) within fits = go (p.line_end.len == 0) (λ s fit. end_fits_or limit s ps fit fits.1)
  where
    go : (t : Bool) → ((s : Span) → SpanFits limit s → SpanFits limit (last_end_or s ps)) → SpanFits limit (last_end_or (if t then run else p.line_end) ps)
    go true later = later run within
    go false later = later p.line_end fits.0.1

end_fits : (limit : ℕ) (ps : List Piece) → AllByRecursion (PieceFits limit) ps → SpanFits limit (last_end ps)
end_fits limit ps fits = end_fits_or limit nothing ps (omega arith) fits

-- none stays of a value in one piece
none_kept : (last : List ℕ) (before : Bool) → [] ≡ elim last as (λ _. List parts.Item) [ [] ↦ if before then line_end_item [] else [] | b ∷ bs ↦ [] ]
none_kept [] true = refl
none_kept [] false = refl
none_kept (b ∷ bs) before = refl

kept_stands : (buffer : List ℕ) (a : Assigned) (behind : List Item) → AssignedFits (length buffer) a
    → Stand buffer (end_items (kept_end a behind)) (states.kept_line_end (assigned_of buffer a) (items_of buffer behind))
kept_stands buffer forms.Nothing behind fits = none_stand buffer
kept_stands buffer (forms.Plain blanks value) behind fits =
    subst (Stand buffer []) (none_kept (bytes_of buffer value) (states.is_before_comment (items_of buffer behind))) (none_stand buffer)
kept_stands buffer (forms.Continued c) behind fits =
    subst (Stand buffer (end_items (kept_end (forms.Continued c) behind)))
    (λ i. elim (bytes_of buffer c.value.last) as (λ _. List parts.Item) [
      | [] ↦ if before_shown buffer behind i then line_end_item (end_shown buffer c.value.pieces.items fits.1.0 i) else []
      | b ∷ bs ↦ []
    ])
    (kept_of buffer c.value.last (last_end c.value.pieces.items) (is_before_comment behind) fits.1.1 (end_fits (length buffer) c.value.pieces.items fits.1.0))

-- What stands behind the entry that is put before items or in place of their first one.
pub way_stands : (buffer : List ℕ) (what : InPlaceOf) (is : List Item) → AreItemsWithin (length buffer) is
    → Stand buffer (behind_way (way_before what is) is) (behind_written (instead_of what) (items_of buffer is))
way_stands buffer Nothing [] within = none_stand buffer
way_stands buffer in_place_of.Entry [] within = none_stand buffer
way_stands buffer EntryButLineEnd [] within = none_stand buffer
way_stands buffer Nothing (items.Blanks run ∷ is) within = record { shown_are = refl; within = within }
way_stands buffer in_place_of.Entry (items.Blanks run ∷ is) within = record { shown_are = refl; within = within }
way_stands buffer EntryButLineEnd (items.Blanks run ∷ is) within = record { shown_are = refl; within = within }
way_stands buffer Nothing (items.LineEnds run ∷ is) within = record { shown_are = refl; within = within }
way_stands buffer in_place_of.Entry (items.LineEnds run ∷ is) within = record { shown_are = refl; within = within }
way_stands buffer EntryButLineEnd (items.LineEnds run ∷ is) within = record { shown_are = refl; within = within }
way_stands buffer Nothing (items.Comment tag text ∷ is) within = record { shown_are = refl; within = within }
way_stands buffer in_place_of.Entry (items.Comment tag text ∷ is) within = record { shown_are = refl; within = within }
way_stands buffer EntryButLineEnd (items.Comment tag text ∷ is) within = record { shown_are = refl; within = within }
way_stands buffer Nothing (items.Entry e ∷ is) within = record { shown_are = refl; within = within }
way_stands buffer in_place_of.Entry (items.Entry e ∷ is) within = record { shown_are = refl; within = within.1 }
way_stands buffer EntryButLineEnd (items.Entry e ∷ is) within =
    stand_both buffer (end_items (kept_end e.assigned is)) is (states.kept_line_end (assigned_of buffer e.assigned) (items_of buffer is)) (items_of buffer is)
    (kept_stands buffer e.assigned is within.0.2) (record { shown_are = refl; within = within.1 })

-- one is replaced only where there is one
pub way_replaces : (what : InPlaceOf) (is : List Item) (at : ℕ) → IfReplaces (way_before what (drop at is)) (at < length is)
way_replaces what is at = go what (drop at is) (length-drop at is)
  where
    go : (what : InPlaceOf) (behind : List Item) → length behind ≡ length is - at → IfReplaces (way_before what behind) (at < length is)
    go what [] l = tt
    go what (items.Blanks run ∷ js) l = tt
    go what (items.LineEnds run ∷ js) l = tt
    go what (items.Comment tag text ∷ js) l = tt
    go Nothing (items.Entry e ∷ js) l = tt
    go in_place_of.Entry (items.Entry e ∷ js) l = omega (arith, l)
    go EntryButLineEnd (items.Entry e ∷ js) l = omega (arith, l)

-- an item in place of another one, and with one behind it
pub set_over : (is : List Item) (at : ℕ) (x : Item) → at < length is → slice_set is at x ≡ take at is ++ x ∷ without_first (drop at is)
set_over [] at x within = absurd (omega (arith, within))
set_over (i ∷ is) zero x within = refl
set_over (i ∷ is) (suc at) x within = ap (λ t. i ∷ t) (set_over is at x (omega (arith, within)))

set_before_next : (is : List Item) (at : ℕ) (x y : Item) → at < length is
    → slice_set (take (suc at) is ++ y ∷ drop (suc at) is) at x ≡ take at is ++ x ∷ y ∷ without_first (drop at is)
set_before_next [] at x y within = absurd (omega (arith, within))
set_before_next (i ∷ is) zero x y within = refl
set_before_next (i ∷ is) (suc at) x y within = ap (λ t. i ∷ t) (set_before_next is at x y (omega (arith, within)))

next : (n : ℕ) → n + 1 ≡ suc n
next n = omega arith

pub set_before : (is : List Item) (at : ℕ) (x y : Item) → at < length is
    → slice_set (take (at + 1) is ++ y ∷ drop (at + 1) is) at x ≡ take at is ++ x ∷ y ∷ without_first (drop at is)
set_before is at x y within = ap (λ n. slice_set (take n is ++ y ∷ drop n is) at x) (next at) ∙ set_before_next is at x y within

-- a place behind all items is that behind the last one
drop_min : {A : Type 0} (n : ℕ) (xs : List A) → drop (min n (length xs)) xs ≡ drop n xs
drop_min zero [] = refl
drop_min (suc n) [] = drop_all (min (suc n) 0) [] (omega arith)
drop_min zero (x ∷ xs) = ap (λ k. drop k (x ∷ xs)) (zero_first (suc (length xs)))
  where
    zero_first : (m : ℕ) → min 0 m ≡ 0
    zero_first m = omega arith
drop_min (suc n) (x ∷ xs) = ap (λ k. drop k (x ∷ xs)) (both n (length xs)) ∙ drop_min n xs
  where
    both : (n m : ℕ) → min (suc n) (suc m) ≡ suc (min n m)
    both n m = omega arith

-- An entry that is written.
pub written_stand : (old new : List ℕ) (is js : List Item) (place at : ℕ) (what : InPlaceOf) (e : Item) (editor : states.Editor) (key value : List ℕ)
    → IsExtended old new → AreItemsWithin (length old) is → at ≡ min place (length is)
    → Stand new (e ∷ []) (entry_made editor.spacing key (Some value) ∷ [])
    → js ≡ take at is ++ e ∷ behind_way (way_before what (drop at is)) (drop at is)
    → Stand new js (written_at editor place (instead_of what) key value (items_of old is))
written_stand old new is js place at what e editor key value grown within there stand made =
    let front : take at is ≡ take place is = ap (λ n. take n is) there ∙ take_min place is in
    let back : drop at is ≡ drop place is = ap (λ n. drop n is) there ∙ drop_min place is in
    let placed : js ≡ take place is ++ e ∷ behind_way (way_before what (drop place is)) (drop place is) =
    made ∙ (λ i. front i ++ e ∷ behind_way (way_before what (back i)) (back i)) in
    let shown : items_of old (take place is) ++ entry_made editor.spacing key (Some value)
    ∷ behind_written (instead_of what) (items_of old (drop place is))
    ≡ written_at editor place (instead_of what) key value (items_of old is) =
    λ i. sym (take-map (item_of old) place is) i ++ entry_made editor.spacing key (Some value)
    ∷ behind_written (instead_of what) (sym (drop-map (item_of old) place is) i) in
    let before = stand_more old new (take place is) (items_of old (take place is)) grown (record { shown_are = refl; within = taken_all (length old) is place within }) in
    let behind = stand_more old new _ _ grown (way_stands old what (drop place is) (dropped_all (length old) is place within)) in
    subst (λ xs. Stand new xs (written_at editor place (instead_of what) key value (items_of old is))) (sym placed)
    (subst (Stand new (take place is ++ e ∷ behind_way (way_before what (drop place is)) (drop place is))) shown
    (stand_both new (take place is) (e ∷ behind_way (way_before what (drop place is)) (drop place is)) (items_of old (take place is)) _ before
    (stand_both new (e ∷ []) (behind_way (way_before what (drop place is)) (drop place is)) (entry_made editor.spacing key (Some value) ∷ []) _ stand behind)))

-- What is left where the item at a place goes.
pub deleted_shown : (is js : List Item) (place : ℕ) → js ≡ take place is ++ drop (place + 1) is → (buffer : List ℕ) → items_of buffer js ≡ deleted_at place (items_of buffer is)
deleted_shown is js place left buffer =
    ap (items_of buffer) left ∙ map-append (item_of buffer) (take place is) (drop (place + 1) is)
    ∙ (λ i. sym (take-map (item_of buffer) place is) i ++ sym (drop-map (item_of buffer) (place + 1) is) i)

pub deleted_within : (is js : List Item) (place : ℕ) → js ≡ take place is ++ drop (place + 1) is → StayWithin is js
deleted_within is js place left limit all =
    subst (AreItemsWithin limit) (sym left)
    (all_both (ItemFits limit) (take place is) (drop (place + 1) is) (taken_all limit is place all) (dropped_all limit is (place + 1) all))

-- where none stands there
pub none_deleted : (is : List Item) (place : ℕ) → length is ≤ place → is ≡ take place is ++ drop (place + 1) is
none_deleted is place past =
    let front = take_all place is past in
    let back = drop_all (place + 1) is (omega (arith, past)) in
    sym ((λ i. front i ++ back i) ∙ append-nil is)
