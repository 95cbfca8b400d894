-- No printed item runs into the next, and where they end with a line ending nothing is left open.
use Rattle.std.proofs.Common.{◌≡◌, ℕ, Bool, true, false, List, [], ◌∷◌, map, refl, ap, sym, subst, ◌∙◌}
use Rattle.std.specs.Prelude.{◌&&◌}
use Rattle.std.specs.List.{list_all, fold}
use Rattle.gitconf_text.specs.Text.{is_line_end}
use Rattle.gitconf_text.specs.Part.{Item, BlanksItem, LineEndsItem, CommentItem, EntryItem, ItemPart}
use Rattle.gitconf_text.proofs.Tests.{both_true}
use Rattle.gitconf_state.specs.State.{is_item}
use Rattle.gitconf_state.specs.LineEnds.{ends_line}
use Rattle.gitconf_state.specs.Clean.{has_blanks}
use Rattle.gitconf_state.specs.Printing.{closed_item, printed_items}
use Rattle.gitconf_state.specs.Writing.{may_stand_behind, stand_apart_behind, Open, Closed, OpenKeyAndBlanks, OpenComment, after_blanks, after, breaks_behind, written_items}
use Rattle.gitconf_state.proofs.Printing.Apart.{IsSound, stands, AreApart, behind_parts}
use Rattle.gitconf_state.proofs.Printing.PrintedItem.{line_end_sound, item_sound, item_after}
use Rattle.gitconf_state.proofs.Printing.LastLines.{ends_with, ends_line-is}
use Rattle.gitconf_state.proofs.Printing.Written.{items_written}

-- in a front the names are apart
abbrev pub ArePlaced : (in_body : Bool) → Open → List Item → Type 0
ArePlaced true before items = Unit {0}
ArePlaced false before items = stand_apart_behind before items ≡ true

-- an item may be where no line ending is put before it
item_stands : (in_body : Bool) (line_end : List ℕ) (before : Open) (i : Item) (items : List Item) → ArePlaced in_body before (i ∷ items) → breaks_behind in_body before i ≡ false
    → stands before (ItemPart (closed_item line_end i)) ≡ true
item_stands in_body line_end before (BlanksItem run) items placed e = refl
item_stands in_body line_end before (LineEndsItem run) items placed e = refl
item_stands in_body line_end OpenComment (CommentItem tag text) items placed e = absurd (cc)
item_stands in_body line_end before (CommentItem tag text) items placed e = refl
item_stands true line_end Closed (EntryItem entry) items placed e = refl
item_stands true line_end before (EntryItem entry) items placed e = absurd (cc)
item_stands false line_end Closed (EntryItem entry) items placed e = refl
item_stands false line_end OpenKeyAndBlanks (EntryItem entry) items placed e = refl
item_stands false line_end before (EntryItem entry) items placed e = absurd (let p : (false && stand_apart_behind (after before (EntryItem entry)) items) ≡ true = placed in cc)

-- each item follows a line ending
closed_stands : (line_end : List ℕ) (i : Item) → stands Closed (ItemPart (closed_item line_end i)) ≡ true
closed_stands line_end (BlanksItem run) = refl
closed_stands line_end (LineEndsItem run) = refl
closed_stands line_end (CommentItem tag text) = refl
closed_stands line_end (EntryItem e) = refl

-- in a front a line ending is put before a comment alone
broken_after : (before : Open) (i : Item) → breaks_behind false before i ≡ true → after Closed i ≡ after before i
broken_after OpenComment (EntryItem e) h = absurd (cc)
broken_after before (CommentItem tag text) h = refl
broken_after before i h = absurd (cc)

-- the items after one that is placed are placed
placed_after : (in_body : Bool) (before : Open) (i : Item) (items : List Item) → ArePlaced in_body before (i ∷ items) → ArePlaced in_body (after before i) items
placed_after true before i items placed = tt
placed_after false before i items placed = (both_true (may_stand_behind before i) _ placed).1

-- so they are where a line ending was put before it
placed_behind_break : (in_body : Bool) (before : Open) (i : Item) (items : List Item) → ArePlaced in_body before (i ∷ items) → breaks_behind in_body before i ≡ true → ArePlaced in_body (after Closed i) items
placed_behind_break true before i items placed e = tt
placed_behind_break false before i items placed e = subst (λ b. stand_apart_behind b items ≡ true) (sym (broken_after before i e)) (both_true (may_stand_behind before i) _ placed).1

-- no written item runs into the next
written_apart : (in_body : Bool) (line_end : List ℕ) (before : Open) (items : List Item) → is_line_end line_end ≡ true → list_all is_item items ≡ true → list_all has_blanks items ≡ true
    → ArePlaced in_body before items → AreApart before (map ItemPart (written_items in_body line_end before items))
written_apart in_body line_end before [] closes are blanks placed = tt
written_apart in_body line_end before (i ∷ items) closes are blanks placed =
    let q = both_true (is_item i) (list_all is_item items) are in
    let r = both_true (has_blanks i) (list_all has_blanks items) blanks in
    go (item_sound line_end i closes q.0 r.0) (λ b. written_apart in_body line_end b items closes q.1 r.1) (breaks_behind in_body before i) refl
  where
    go : IsSound (ItemPart (closed_item line_end i)) → ((b : Open) → ArePlaced in_body b items → AreApart b (map ItemPart (written_items in_body line_end b items)))
        → (t : Bool) → breaks_behind in_body before i ≡ t → AreApart before (map ItemPart (written_items in_body line_end before (i ∷ items)))
    go sound later true e = rw (e, written_items) (
      refl,
      line_end_sound line_end closes,
      (
        closed_stands line_end i,
        sound,
        subst (λ b. AreApart b (map ItemPart (written_items in_body line_end (after Closed i) items))) (sym (item_after line_end Closed i)) (later (after Closed i) (placed_behind_break in_body before i items placed e)),
      ),
    )
    go sound later false e = rw (e, written_items) (
      item_stands in_body line_end before i items placed e,
      sound,
      subst (λ b. AreApart b (map ItemPart (written_items in_body line_end (after before i) items))) (sym (item_after line_end before i)) (later (after before i) (placed_after in_body before i items placed)),
    )

-- nothing is left open after an item that ends with a line ending
item_ended : (line_end : List ℕ) (before : Open) (ended : Bool) (i : Item) → (ended ≡ true → before ≡ Closed) → ends_with line_end ended i ≡ true → after before i ≡ Closed
item_ended line_end before ended (BlanksItem run) told h = ap (after_blanks run) (told h) ∙ go run
  where
    go : (run : List ℕ) → after_blanks run Closed ≡ Closed
    go [] = refl
    go (b ∷ run) = refl
item_ended line_end before ended (LineEndsItem run) told h = refl
item_ended line_end before ended (CommentItem tag text) told h = absurd (cc)
item_ended line_end before ended (EntryItem e) told h = absurd (cc)

-- nothing is left open after written items that end with a line ending, of either kind
written_ended : (in_body : Bool) (line_end kind : List ℕ) (before : Open) (ended : Bool) (items : List Item) → (ended ≡ true → before ≡ Closed) → fold (ends_with kind) ended items ≡ true
    → behind_parts before (map ItemPart (written_items in_body line_end before items)) ≡ Closed
written_ended in_body line_end kind before ended [] told h = told h
written_ended in_body line_end kind before ended (i ∷ items) told h = go (λ b told. written_ended in_body line_end kind b (ends_with kind ended i) items told h) (breaks_behind in_body before i) refl
  where
    go : ((b : Open) → (ends_with kind ended i ≡ true → b ≡ Closed) → behind_parts b (map ItemPart (written_items in_body line_end b items)) ≡ Closed)
        → (t : Bool) → breaks_behind in_body before i ≡ t → behind_parts before (map ItemPart (written_items in_body line_end before (i ∷ items))) ≡ Closed
    go later true e = rw (e, written_items)
        (ap (λ b. behind_parts b (map ItemPart (written_items in_body line_end (after Closed i) items))) (item_after line_end Closed i) ∙ later (after Closed i) (item_ended kind Closed ended i (λ _. refl)))
    go later false e = rw (e, written_items)
        (ap (λ b. behind_parts b (map ItemPart (written_items in_body line_end (after before i) items))) (item_after line_end before i) ∙ later (after before i) (item_ended kind before ended i told))

-- No printed item runs into the next.
pub items_apart : (in_body : Bool) (line_end : List ℕ) (items : List Item) → is_line_end line_end ≡ true → list_all is_item items ≡ true → list_all has_blanks items ≡ true
    → ArePlaced in_body Closed items → AreApart Closed (map ItemPart (printed_items in_body line_end [] items))
items_apart in_body line_end items closes are blanks placed =
    subst (λ is. AreApart Closed (map ItemPart is)) (sym (items_written in_body line_end items)) (written_apart in_body line_end Closed items closes are blanks placed)

-- Nothing is left open after printed items that end with a line ending, of either kind.
pub items_ended : (in_body : Bool) (line_end kind : List ℕ) (items : List Item) → ends_line kind items ≡ true
    → behind_parts Closed (map ItemPart (printed_items in_body line_end [] items)) ≡ Closed
items_ended in_body line_end kind items h =
    ap (λ is. behind_parts Closed (map ItemPart is)) (items_written in_body line_end items) ∙ written_ended in_body line_end kind Closed false items (λ _. refl) (ends_line-is kind items ∙ h)
