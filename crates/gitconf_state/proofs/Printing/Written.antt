-- The words of a writer agree with those of printing: what it remembers says of the items after the last line ending what is asked of them.
use Rattle.std.proofs.Common.{◌≡◌, ℕ, Bool, true, false, not, List, [], ◌∷◌, ◌++◌, Option, Some, None, refl, ap, sym, subst, ◌∙◌, append-nil}
use Rattle.std.specs.Prelude.{◌&&◌, ◌||◌, filter}
use Rattle.std.specs.List.{last_or, list_any}
use Rattle.std.proofs.Math.Bool.{or-false}
use Rattle.std.proofs.lemmas.List.Folds.{list_any-append}
use Rattle.std.proofs.lemmas.List.Elements.{filter-append}
use Rattle.gitconf_text.specs.Part.{Assigned, Entry, Item, BlanksItem, LineEndsItem, CommentItem, EntryItem}
use Rattle.gitconf_state.specs.State.{is_entry, is_comment}
use Rattle.gitconf_state.specs.Printing.{has_pieces, line_after, breaks, closed_item, printed_items}
use Rattle.gitconf_state.specs.Clean.{has_value, has_bytes, is_name_alone, ends_with_name, may_stand, stand_apart}
use Rattle.gitconf_state.specs.Writing.{Open, Closed, OpenKey, OpenKeyAndBlanks, OpenValue, OpenComment, after_blanks, after_entry, after, breaks_behind, written_items, may_stand_behind, stand_apart_behind}

-- a comment, or an entry
abbrev pub has_words : Item → Bool
has_words i = is_comment i || is_entry i

-- a comment, or an entry with `=`
abbrev pub has_text : Item → Bool
has_text i = is_comment i || has_value i

abbrev is_comment_open : Open → Bool
is_comment_open OpenComment = true
is_comment_open before = false

abbrev is_open : Open → Bool
is_open Closed = false
is_open before = true

abbrev is_text_open : Open → Bool
is_text_open OpenComment = true
is_text_open OpenValue = true
is_text_open before = false

abbrev is_key_open : Open → Bool
is_key_open OpenKey = true
is_key_open before = false

and_false : (b : Bool) → (b && false) ≡ false
and_false true = refl
and_false false = refl

-- one more item
any_more : (p : Item → Bool) (line : List Item) (i : Item) → list_any p (line ++ i ∷ []) ≡ (list_any p line || p i)
any_more p line i = list_any-append p line (i ∷ []) ∙ ap (λ b. list_any p line || b) (or-false (p i))

-- an item more that does not pass
any_same : (p : Item → Bool) (line : List Item) (i : Item) → p i ≡ false → list_any p (line ++ i ∷ []) ≡ list_any p line
any_same p line i e = any_more p line i ∙ (ap (λ b. list_any p line || b) e ∙ or-false (list_any p line))

or_true : (b : Bool) → (b || true) ≡ true
or_true true = refl
or_true false = refl

-- an item more that passes
any_now : (p : Item → Bool) (line : List Item) (i : Item) → p i ≡ true → list_any p (line ++ i ∷ []) ≡ true
any_now p line i e = any_more p line i ∙ (ap (λ b. list_any p line || b) e ∙ or_true (list_any p line))

-- what is remembered for printing says of the line
record Agrees (line : List Item) (before : Open) : Type 0 where
  comment : list_any is_comment line ≡ is_comment_open before
  words : list_any has_words line ≡ is_open before

blanks_comment : (run : List ℕ) (before : Open) → is_comment_open (after_blanks run before) ≡ is_comment_open before
blanks_comment [] before = refl
blanks_comment (b ∷ run) Closed = refl
blanks_comment (b ∷ run) OpenKey = refl
blanks_comment (b ∷ run) OpenKeyAndBlanks = refl
blanks_comment (b ∷ run) OpenValue = refl
blanks_comment (b ∷ run) OpenComment = refl

blanks_open : (run : List ℕ) (before : Open) → is_open (after_blanks run before) ≡ is_open before
blanks_open [] before = refl
blanks_open (b ∷ run) Closed = refl
blanks_open (b ∷ run) OpenKey = refl
blanks_open (b ∷ run) OpenKeyAndBlanks = refl
blanks_open (b ∷ run) OpenValue = refl
blanks_open (b ∷ run) OpenComment = refl

-- an entry is open, and a comment before it stays unless its value continues
entry_open : (before : Open) (blanks : List ℕ) (assigned : Option Assigned) → is_open (after_entry before blanks assigned) ≡ true
entry_open OpenComment blanks None = refl
entry_open OpenComment blanks (Some a) = go a.value.pieces refl
  where
    go : (pieces : _) → a.value.pieces ≡ pieces → is_open (after_entry OpenComment blanks (Some a)) ≡ true
    go [] e = rw (e, after_entry) refl
    go (p ∷ pieces) e = rw (e, after_entry) refl
entry_open Closed blanks None = blanks_open blanks OpenKey
entry_open OpenKey blanks None = blanks_open blanks OpenKey
entry_open OpenKeyAndBlanks blanks None = blanks_open blanks OpenKey
entry_open OpenValue blanks None = blanks_open blanks OpenKey
entry_open Closed blanks (Some a) = refl
entry_open OpenKey blanks (Some a) = refl
entry_open OpenKeyAndBlanks blanks (Some a) = refl
entry_open OpenValue blanks (Some a) = refl

entry_comment : (before : Open) (blanks : List ℕ) (assigned : Option Assigned)
    → is_comment_open (after_entry before blanks assigned) ≡ (not (has_pieces assigned) && is_comment_open before)
entry_comment OpenComment blanks None = refl
entry_comment OpenComment blanks (Some a) = go a.value.pieces refl
  where
    go : (pieces : _) → a.value.pieces ≡ pieces → is_comment_open (after_entry OpenComment blanks (Some a)) ≡ (not (has_pieces (Some a)) && true)
    go [] e = rw (e, after_entry, has_pieces) refl
    go (p ∷ pieces) e = rw (e, after_entry, has_pieces) refl
entry_comment Closed blanks None = blanks_comment blanks OpenKey
entry_comment OpenKey blanks None = blanks_comment blanks OpenKey
entry_comment OpenKeyAndBlanks blanks None = blanks_comment blanks OpenKey
entry_comment OpenValue blanks None = blanks_comment blanks OpenKey
entry_comment Closed blanks (Some a) = sym (and_false (not (has_pieces (Some a))))
entry_comment OpenKey blanks (Some a) = sym (and_false (not (has_pieces (Some a))))
entry_comment OpenKeyAndBlanks blanks (Some a) = sym (and_false (not (has_pieces (Some a))))
entry_comment OpenValue blanks (Some a) = sym (and_false (not (has_pieces (Some a))))

-- both agree after the next item
agrees_behind : (line : List Item) (before : Open) (i : Item) → Agrees line before → Agrees (line_after line i) (after before i)
agrees_behind line before (BlanksItem run) same = record {
  comment = any_same is_comment line (BlanksItem run) refl ∙ (same.comment ∙ sym (blanks_comment run before));
  words = any_same has_words line (BlanksItem run) refl ∙ (same.words ∙ sym (blanks_open run before));
}
agrees_behind line before (LineEndsItem run) same = record { comment = refl; words = refl }
agrees_behind line before (CommentItem tag text) same = record {
  comment = any_now is_comment line (CommentItem tag text) refl;
  words = any_now has_words line (CommentItem tag text) refl;
}
agrees_behind line before (EntryItem e) same = go (has_pieces e.assigned) refl
  where
    go : (t : Bool) → has_pieces e.assigned ≡ t → Agrees (line_after line (EntryItem e)) (after before (EntryItem e))
    go true on = rw (on, line_after) (record {
      comment = sym (entry_comment before e.blanks e.assigned ∙ ap (λ b. not b && is_comment_open before) on);
      words = sym (entry_open before e.blanks e.assigned);
    })
    go false on = rw (on, line_after) (record {
      comment = any_same is_comment line (EntryItem e) refl ∙ (same.comment ∙ sym (entry_comment before e.blanks e.assigned ∙ ap (λ b. not b && is_comment_open before) on));
      words = any_now has_words line (EntryItem e) refl ∙ sym (entry_open before e.blanks e.assigned);
    })

-- a line ending is put where it is written
breaks_same : (in_body : Bool) (line : List Item) (before : Open) (i : Item) → Agrees line before → breaks in_body line i ≡ breaks_behind in_body before i
breaks_same in_body line before (BlanksItem run) same = blanks_break before
  where
    blanks_break : (b : Open) → false ≡ breaks_behind in_body b (BlanksItem run)
    blanks_break Closed = refl
    blanks_break OpenKey = refl
    blanks_break OpenKeyAndBlanks = refl
    blanks_break OpenValue = refl
    blanks_break OpenComment = refl
breaks_same in_body line before (LineEndsItem run) same = line_ends_break before
  where
    line_ends_break : (b : Open) → false ≡ breaks_behind in_body b (LineEndsItem run)
    line_ends_break Closed = refl
    line_ends_break OpenKey = refl
    line_ends_break OpenKeyAndBlanks = refl
    line_ends_break OpenValue = refl
    line_ends_break OpenComment = refl
breaks_same in_body line before (CommentItem tag text) same = same.comment ∙ comment_break before
  where
    comment_break : (b : Open) → is_comment_open b ≡ breaks_behind in_body b (CommentItem tag text)
    comment_break Closed = refl
    comment_break OpenKey = refl
    comment_break OpenKeyAndBlanks = refl
    comment_break OpenValue = refl
    comment_break OpenComment = refl
breaks_same in_body line before (EntryItem e) same = ap (λ b. in_body && b) same.words ∙ entry_break in_body before
  where
    entry_break : (t : Bool) (b : Open) → (t && is_open b) ≡ breaks_behind t b (EntryItem e)
    entry_break true Closed = refl
    entry_break true OpenKey = refl
    entry_break true OpenKeyAndBlanks = refl
    entry_break true OpenValue = refl
    entry_break true OpenComment = refl
    entry_break false Closed = refl
    entry_break false OpenKey = refl
    entry_break false OpenKeyAndBlanks = refl
    entry_break false OpenValue = refl
    entry_break false OpenComment = refl

written : (in_body : Bool) (line_end : List ℕ) (line : List Item) (before : Open) (items : List Item) → Agrees line before
    → printed_items in_body line_end line items ≡ written_items in_body line_end before items
written in_body line_end line before [] same = refl
written in_body line_end line before (i ∷ items) same = go (breaks_behind in_body before i) refl (breaks_same in_body line before i same)
    (written in_body line_end (line_after [] i) (after Closed i) items (agrees_behind [] Closed i (record { comment = refl; words = refl })))
    (written in_body line_end (line_after line i) (after before i) items (agrees_behind line before i same))
  where
    go : (t : Bool) → breaks_behind in_body before i ≡ t → breaks in_body line i ≡ breaks_behind in_body before i
        → printed_items in_body line_end (line_after [] i) items ≡ written_items in_body line_end (after Closed i) items
        → printed_items in_body line_end (line_after line i) items ≡ written_items in_body line_end (after before i) items
        → printed_items in_body line_end line (i ∷ items) ≡ written_items in_body line_end before (i ∷ items)
    go true e is broken later = rw (is, e, printed_items, written_items) (ap (λ is. LineEndsItem line_end ∷ closed_item line_end i ∷ is) broken)
    go false e is broken later = rw (is, e, printed_items, written_items) (ap (λ is. closed_item line_end i ∷ is) later)

-- Items are printed as they are written.
pub items_written : (in_body : Bool) (line_end : List ℕ) (items : List Item) → printed_items in_body line_end [] items ≡ written_items in_body line_end Closed items
items_written in_body line_end items = written in_body line_end [] Closed items (record { comment = refl; words = refl })

-- what is remembered for names says of the line
record NamesAgree (line : List Item) (before : Open) : Type 0 where
  text : list_any has_text line ≡ is_text_open before
  name : ends_with_name line ≡ is_key_open before

-- the last item that passes, after one more item
last_more : (p : Item → Bool) (line : List Item) (i : Item) → last_or None (filter p (line ++ i ∷ [])) ≡ elim (p i) [ true ↦ Some i | false ↦ last_or None (filter p line) ]
last_more p [] i = go (p i) refl
  where
    go : (t : Bool) → p i ≡ t → last_or None (filter p (i ∷ [])) ≡ elim (p i) [ true ↦ Some i | false ↦ None ]
    go true e = rw (e, filter) refl
    go false e = rw (e, filter) refl
last_more p (j ∷ line) i = ap (last_or None) (filter-append p (j ∷ line) (i ∷ [])) ∙ go (p i) refl
  where
    behind : (o : Option Item) (xs : List Item) → last_or o (xs ++ i ∷ []) ≡ Some i
    behind o [] = refl
    behind o (x ∷ xs) = behind (Some x) xs

    go : (t : Bool) → p i ≡ t → last_or None (filter p (j ∷ line) ++ filter p (i ∷ [])) ≡ elim (p i) [ true ↦ Some i | false ↦ last_or None (filter p (j ∷ line)) ]
    go true e = rw (e, filter) (behind None (filter p (j ∷ line)))
    go false e = rw (e, filter) (ap (last_or None) (append-nil (filter p (j ∷ line))))

-- the last item with a byte is a name
abbrev name_told : Option Item → Bool
name_told o = elim o [ None ↦ false | Some i ↦ is_name_alone i ]

-- what a line ends with, one item further
ends_more : (line : List Item) (i : Item) → has_bytes i ≡ true → ends_with_name (line ++ i ∷ []) ≡ is_name_alone i
ends_more line i bytes =
    let is : last_or None (filter has_bytes (line ++ i ∷ [])) ≡ Some i = rw (last_more has_bytes line i, bytes) refl in
    ap name_told is

ends_same : (line : List Item) → ends_with_name (line ++ BlanksItem [] ∷ []) ≡ ends_with_name line
ends_same line = ap name_told (last_more has_bytes line (BlanksItem []))

blanks_text : (run : List ℕ) (before : Open) → is_text_open (after_blanks run before) ≡ is_text_open before
blanks_text [] before = refl
blanks_text (b ∷ run) Closed = refl
blanks_text (b ∷ run) OpenKey = refl
blanks_text (b ∷ run) OpenKeyAndBlanks = refl
blanks_text (b ∷ run) OpenValue = refl
blanks_text (b ∷ run) OpenComment = refl

blanks_key : (b : ℕ) (run : List ℕ) (before : Open) → is_key_open (after_blanks (b ∷ run) before) ≡ false
blanks_key b run Closed = refl
blanks_key b run OpenKey = refl
blanks_key b run OpenKeyAndBlanks = refl
blanks_key b run OpenValue = refl
blanks_key b run OpenComment = refl

-- after an entry that may be where it is
entry_behind : (line : List Item) (before : Open) (e : Entry) → list_any has_text line ≡ false
    → ((blanks : List ℕ) → after_entry before blanks None ≡ after_blanks blanks OpenKey) → ((blanks : List ℕ) (a : Assigned) → after_entry before blanks (Some a) ≡ OpenValue)
    → NamesAgree (line_after line (EntryItem e)) (after_entry before e.blanks e.assigned)
entry_behind line before e none alone valued = go e.assigned refl
  where
    name_behind : (blanks : List ℕ) → e.blanks ≡ blanks → e.assigned ≡ None → is_name_alone (EntryItem e) ≡ is_key_open (after_blanks blanks OpenKey)
    name_behind [] is at = rw (is, at, is_name_alone, has_value) refl
    name_behind (b ∷ blanks) is at = rw (is, is_name_alone) refl

    no_name : (a : Assigned) (blanks : List ℕ) → e.blanks ≡ blanks → e.assigned ≡ Some a → is_name_alone (EntryItem e) ≡ false
    no_name a [] is at = rw (is, at, is_name_alone, has_value) refl
    no_name a (b ∷ blanks) is at = rw (is, is_name_alone) refl

    with_value : (a : Assigned) → e.assigned ≡ Some a → has_text (EntryItem e) ≡ true
    with_value a at = rw (at, has_value) refl

    placed : (a : Assigned) → e.assigned ≡ Some a → (t : Bool) → has_pieces e.assigned ≡ t → NamesAgree (line_after line (EntryItem e)) OpenValue
    placed a at true on = rw (on, line_after) (record {
      text = any_now has_text [] (EntryItem e) (with_value a at);
      name = ends_more [] (EntryItem e) refl ∙ no_name a e.blanks refl at;
    })
    placed a at false on = rw (on, line_after) (record {
      text = any_now has_text line (EntryItem e) (with_value a at);
      name = ends_more line (EntryItem e) refl ∙ no_name a e.blanks refl at;
    })

    go : (o : Option Assigned) → e.assigned ≡ o → NamesAgree (line_after line (EntryItem e)) (after_entry before e.blanks e.assigned)
    go None at = rw (at, alone e.blanks, line_after, has_pieces) (record {
      text = any_same has_text line (EntryItem e) (rw (at, has_value) refl) ∙ (none ∙ sym (blanks_text e.blanks OpenKey));
      name = ends_more line (EntryItem e) refl ∙ name_behind e.blanks refl at;
    })
    go (Some a) at = subst (NamesAgree (line_after line (EntryItem e))) (sym (ap (after_entry before e.blanks) at ∙ valued e.blanks a)) (placed a at (has_pieces e.assigned) refl)

-- both agree after the next item, where it may be
names_behind : (line : List Item) (before : Open) (i : Item) → NamesAgree line before → may_stand_behind before i ≡ true → NamesAgree (line_after line i) (after before i)
names_behind line before (BlanksItem []) same stands = record {
  text = any_same has_text line (BlanksItem []) refl ∙ same.text;
  name = ends_same line ∙ same.name;
}
names_behind line before (BlanksItem (b ∷ run)) same stands = record {
  text = any_same has_text line (BlanksItem (b ∷ run)) refl ∙ (same.text ∙ sym (blanks_text (b ∷ run) before));
  name = ends_more line (BlanksItem (b ∷ run)) refl ∙ sym (blanks_key b run before);
}
names_behind line before (LineEndsItem run) same stands = record { text = refl; name = refl }
names_behind line before (CommentItem tag text) same stands = record {
  text = any_now has_text line (CommentItem tag text) refl;
  name = ends_more line (CommentItem tag text) refl;
}
names_behind line Closed (EntryItem e) same stands = entry_behind line Closed e same.text (λ blanks. refl) (λ blanks a. refl)
names_behind line OpenKeyAndBlanks (EntryItem e) same stands = entry_behind line OpenKeyAndBlanks e same.text (λ blanks. refl) (λ blanks a. refl)
names_behind line OpenKey (EntryItem e) same stands = absurd (cc)
names_behind line OpenValue (EntryItem e) same stands = absurd (cc)
names_behind line OpenComment (EntryItem e) same stands = absurd (cc)

-- an item may be where a writer may put it
stands_same : (line : List Item) (before : Open) (i : Item) → NamesAgree line before → may_stand line i ≡ may_stand_behind before i
stands_same line before (BlanksItem run) same = others before
  where
    others : (b : Open) → true ≡ may_stand_behind b (BlanksItem run)
    others Closed = refl
    others OpenKey = refl
    others OpenKeyAndBlanks = refl
    others OpenValue = refl
    others OpenComment = refl
stands_same line before (LineEndsItem run) same = others before
  where
    others : (b : Open) → true ≡ may_stand_behind b (LineEndsItem run)
    others Closed = refl
    others OpenKey = refl
    others OpenKeyAndBlanks = refl
    others OpenValue = refl
    others OpenComment = refl
stands_same line before (CommentItem tag text) same = others before
  where
    others : (b : Open) → true ≡ may_stand_behind b (CommentItem tag text)
    others Closed = refl
    others OpenKey = refl
    others OpenKeyAndBlanks = refl
    others OpenValue = refl
    others OpenComment = refl
stands_same line before (EntryItem e) same = ap (λ t. not t && not (ends_with_name line)) same.text ∙ (ap (λ t. not (is_text_open before) && not t) same.name ∙ names before)
  where
    names : (b : Open) → (not (is_text_open b) && not (is_key_open b)) ≡ may_stand_behind b (EntryItem e)
    names Closed = refl
    names OpenKey = refl
    names OpenKeyAndBlanks = refl
    names OpenValue = refl
    names OpenComment = refl

apart : (line : List Item) (before : Open) (items : List Item) → NamesAgree line before → stand_apart line items ≡ stand_apart_behind before items
apart line before [] same = refl
apart line before (i ∷ items) same =
    go (may_stand_behind before i) refl (stands_same line before i same) (λ e. apart (line_after line i) (after before i) items (names_behind line before i same e))
  where
    go : (t : Bool) → may_stand_behind before i ≡ t → may_stand line i ≡ may_stand_behind before i
        → (may_stand_behind before i ≡ true → stand_apart (line_after line i) items ≡ stand_apart_behind (after before i) items)
        → stand_apart line (i ∷ items) ≡ stand_apart_behind before (i ∷ items)
    go true e is later = rw (is, e, stand_apart, stand_apart_behind) (later e)
    go false e is later = rw (is, e, stand_apart, stand_apart_behind) refl

-- Names are apart where a writer may put them.
pub names_apart : (items : List Item) → stand_apart [] items ≡ stand_apart_behind Closed items
names_apart items = apart [] Closed items (record { text = refl; name = refl })
