-- The entries of a key that items have, after what editors write: those of every other key stay.
use Rattle.std.proofs.Common.{◌≡◌, ℕ, ◌+◌, Bool, true, false, List, [], ◌∷◌, ◌++◌, take, drop, Option, Some, None, refl, ap, sym, subst, ◌∙◌, append-nil, take-append-drop, drop-drop}
use Rattle.std.specs.Prelude.{filter, flat_map, if◌then◌else◌}
use Rattle.std.specs.List.{list_any, last_or}
use Rattle.std.proofs.lemmas.Bool.{or_parts}
use Rattle.std.proofs.lemmas.Grind.{flat_map-append}
use Rattle.std.proofs.lemmas.List.Elements.{filter-append}
use Rattle.gitconf_text.specs.Names.{is_same_name}
use Rattle.gitconf_text.specs.Part.{Assigned, Item, BlanksItem, LineEndsItem, CommentItem, EntryItem}
use Rattle.gitconf_text.specs.Document.{DocumentEntry}
use Rattle.gitconf_state.specs.State.{item_entries, is_entry, Cut, cut_last}
use Rattle.gitconf_state.specs.Edit.{is_entry_of, Spacing, leading_item, with_value, update_last}
use Rattle.gitconf_state.specs.Editors.{Editor, entry_made, comment_made, end_made, line_made, pushed, value_set, without_last_blanks, without_first_line_ends, unless_blanks, removed, marked, begins_marked, without_marked, removed_marked, end_bytes, put_below, put_after_last, pushed_after_last, popped, last_line_end, is_before_comment, line_end_item, kept_line_end, InsteadOf, OfNothing, OfEntry, OfEntryButLineEnd, behind_written, written_at, deleted_at}
use Rattle.gitconf_state.specs.Edits.{is_last_of, is_one_at}
use Rattle.gitconf_state.proofs.Edits.Lists.{last_passing}
use Rattle.gitconf_state.proofs.Edits.Values.{of_key, of_key-none, with_value_written}

of_key-append : (key : List ℕ) (items others : List Item) → of_key key (items ++ others) ≡ of_key key items ++ of_key key others
of_key-append key items others =
    ap (filter (λ (e : DocumentEntry). is_same_name key e.name)) (flat_map-append item_entries items others)
    ∙ filter-append (λ (e : DocumentEntry). is_same_name key e.name) (flat_map item_entries items) (flat_map item_entries others)

-- the same item before items with the same entries
behind_same : (key : List ℕ) (i : Item) (items others : List Item) → of_key key items ≡ of_key key others → of_key key (i ∷ items) ≡ of_key key (i ∷ others)
behind_same key i items others same =
    of_key-append key (i ∷ []) items ∙ ap (λ es. of_key key (i ∷ []) ++ es) same ∙ sym (of_key-append key (i ∷ []) others)

-- an item that is no entry of the key adds none
pub passed_by : (key : List ℕ) (i : Item) (items : List Item) → is_entry_of key i ≡ false → of_key key (i ∷ items) ≡ of_key key items
passed_by key i items other =
    of_key-append key (i ∷ []) items ∙ ap (λ es. es ++ of_key key items) (of_key-none key (i ∷ []) (rw other refl))

-- items without an entry of the key after others
pub added : (key : List ℕ) (items more : List Item) → of_key key more ≡ [] → of_key key (items ++ more) ≡ of_key key items
added key items more none = of_key-append key items more ∙ ap (λ es. of_key key items ++ es) none ∙ append-nil (of_key key items)

-- The key's last entry gets a value: another key's entries stay.
pub updated : (edited key : List ℕ) (spacing : Spacing) (value : List ℕ) → ((name : List ℕ) → is_same_name edited name ≡ true → is_same_name key name ≡ false) → (items : List Item)
    → of_key key (update_last (is_entry_of edited) (with_value spacing value) items) ≡ of_key key items
updated edited key spacing value apart [] = refl
updated edited key spacing value apart (i ∷ items) = go (list_any (is_entry_of edited) items) (is_entry_of edited i) refl refl (updated edited key spacing value apart items)
  where
    changed : (i : Item) → is_entry_of edited i ≡ true → of_key key (with_value spacing value i ∷ items) ≡ of_key key (i ∷ items)
    changed (BlanksItem run) is = absurd (cc)
    changed (LineEndsItem run) is = absurd (cc)
    changed (CommentItem tag text) is = absurd (cc)
    changed (EntryItem e) is =
        let w = with_value_written spacing value e in
        ap (λ i. of_key key (i ∷ items)) w.is ∙ passed_by key (EntryItem w.entry) items (ap (is_same_name key) w.same_name ∙ apart e.name is)
        ∙ sym (passed_by key (EntryItem e) items (apart e.name is))

    go : (a t : Bool) → list_any (is_entry_of edited) items ≡ a → is_entry_of edited i ≡ t
        → of_key key (update_last (is_entry_of edited) (with_value spacing value) items) ≡ of_key key items
        → of_key key (update_last (is_entry_of edited) (with_value spacing value) (i ∷ items)) ≡ of_key key (i ∷ items)
    go true t ea et later = rw (ea, update_last) (behind_same key i (update_last (is_entry_of edited) (with_value spacing value) items) items later)
    go false true ea et later = rw (ea, et, update_last) (changed i et)
    go false false ea et later = rw (ea, et, update_last) refl

-- a line that is made has entries of its key alone
line_made_none : (key edited : List ℕ) (editor : Editor) (value comment : Option (List ℕ)) → is_same_name key edited ≡ false → of_key key (line_made editor edited value comment) ≡ []
line_made_none key edited editor value comment other =
    of_key-append key (leading_item editor.spacing.leading) (entry_made editor.spacing edited value ∷ (comment_made comment ++ end_made editor))
    ∙ ap (λ es. es ++ of_key key (entry_made editor.spacing edited value ∷ (comment_made comment ++ end_made editor))) (leading editor.spacing.leading)
    ∙ entry value
  where
    leading : (o : Option (List ℕ)) → of_key key (leading_item o) ≡ []
    leading None = refl
    leading (Some run) = refl

    end : (t : Bool) → of_key key (if t then LineEndsItem editor.line_end ∷ [] else []) ≡ []
    end true = refl
    end false = refl

    behind : (o : Option (List ℕ)) → of_key key (comment_made o ++ end_made editor) ≡ []
    behind None = end editor.ends
    behind (Some text) = end editor.ends

    entry : (o : Option (List ℕ)) → of_key key (entry_made editor.spacing edited o ∷ (comment_made comment ++ end_made editor)) ≡ []
    entry None = passed_by key (entry_made editor.spacing edited None) (comment_made comment ++ end_made editor) other ∙ behind comment
    entry (Some v) = passed_by key (entry_made editor.spacing edited (Some v)) (comment_made comment ++ end_made editor) other ∙ behind comment

pub pushed_leaves : (key edited : List ℕ) (editor : Editor) (value comment : Option (List ℕ)) (items : List Item) → is_same_name key edited ≡ false
    → of_key key (pushed editor edited value comment items) ≡ of_key key items
pushed_leaves key edited editor value comment items other = added key items (line_made editor edited value comment) (line_made_none key edited editor value comment other)

pub value_set_leaves : (key edited : List ℕ) (editor : Editor) (value : List ℕ) (items : List Item) → is_same_name key edited ≡ false
    → ((name : List ℕ) → is_same_name edited name ≡ true → is_same_name key name ≡ false) → of_key key (value_set editor edited value items) ≡ of_key key items
value_set_leaves key edited editor value items other apart = go (list_any (is_entry_of edited) items) refl
  where
    go : (t : Bool) → list_any (is_entry_of edited) items ≡ t → of_key key (value_set editor edited value items) ≡ of_key key items
    go true e = rw (e, value_set) (updated edited key editor.spacing value apart items)
    go false e = rw (e, value_set) (pushed_leaves key edited editor (Some value) None items other)

-- one answer is the same where both are some
some_is : {A : Type 0} (x y : A) → Some x ≡ Some y → x ≡ y
some_is x y is = cc

-- a list that is cut is what comes before, the element and what follows, and no element after passes
record IsCut (test : Item → Bool) (items : List Item) (c : List Item × (Item × List Item)) : Type 0 where
  is : items ≡ c.0 ++ c.1.0 ∷ c.1.1
  passes : test c.1.0 ≡ true
  none : list_any test c.1.1 ≡ false

cut_none : (test : Item → Bool) (items : List Item) → cut_last test items ≡ None → list_any test items ≡ false
cut_none test [] e = refl
cut_none test (i ∷ items) e = go (cut_last test items) (test i) refl refl (cut_none test items)
  where
    go : (o : Cut) (t : Bool) → cut_last test items ≡ o → test i ≡ t → (cut_last test items ≡ None → list_any test items ≡ false) → list_any test (i ∷ items) ≡ false
    go (Some c) t f is later = absurd (let h = rw (f, cut_last) at e in cc)
    go None true f is later = absurd (let h = rw (f, is, cut_last) at e in cc)
    go None false f is later = rw is (later f)

cut_is : (test : Item → Bool) (items : List Item) (c : List Item × (Item × List Item)) → cut_last test items ≡ Some c → IsCut test items c
cut_is test [] c e = absurd (cc)
cut_is test (i ∷ items) c e = go (cut_last test items) (test i) refl refl (cut_is test items)
  where
    go : (o : Cut) (t : Bool) → cut_last test items ≡ o → test i ≡ t → ((d : List Item × (Item × List Item)) → cut_last test items ≡ Some d → IsCut test items d) → IsCut test (i ∷ items) c
    go (Some d) t f is later =
        let l = later d f in
        let h = rw (f, cut_last) at e in
        let same : (i ∷ d.0, d.1) ≡ c = some_is (i ∷ d.0, d.1) c h in
        subst (IsCut test (i ∷ items)) same (record { is = ap (λ t. i ∷ t) l.is; passes = l.passes; none = l.none })
    go None true f is later =
        let h = rw (f, is, cut_last) at e in
        let same : ([], (i, items)) ≡ c = some_is ([], (i, items)) c h in
        subst (IsCut test (i ∷ items)) same (record { is = refl; passes = is; none = cut_none test items f })
    go None false f is later = absurd (let h = rw (f, is, cut_last) at e in cc)

last_blanks_leave : (key : List ℕ) (items : List Item) → of_key key (without_last_blanks items) ≡ of_key key items
last_blanks_leave key [] = refl
last_blanks_leave key (BlanksItem run ∷ []) = refl
last_blanks_leave key (LineEndsItem run ∷ []) = refl
last_blanks_leave key (CommentItem tag text ∷ []) = refl
last_blanks_leave key (EntryItem e ∷ []) = refl
last_blanks_leave key (i ∷ j ∷ items) = behind_same key i (without_last_blanks (j ∷ items)) (j ∷ items) (last_blanks_leave key (j ∷ items))

first_line_ends_leave : (key : List ℕ) (items : List Item) → of_key key (without_first_line_ends items) ≡ of_key key items
first_line_ends_leave key [] = refl
first_line_ends_leave key (BlanksItem run ∷ items) = refl
first_line_ends_leave key (LineEndsItem run ∷ items) = refl
first_line_ends_leave key (CommentItem tag text ∷ items) = refl
first_line_ends_leave key (EntryItem e ∷ items) = refl

-- an entry of a key is none of another
pub other_entry : (edited key : List ℕ) → ((name : List ℕ) → is_same_name edited name ≡ true → is_same_name key name ≡ false) → (i : Item) → is_entry_of edited i ≡ true → is_entry_of key i ≡ false
other_entry edited key apart (BlanksItem run) is = refl
other_entry edited key apart (LineEndsItem run) is = refl
other_entry edited key apart (CommentItem tag text) is = refl
other_entry edited key apart (EntryItem e) is = apart e.name is

pub removed_leaves : (edited key : List ℕ) → ((name : List ℕ) → is_same_name edited name ≡ true → is_same_name key name ≡ false) → (items : List Item)
    → of_key key (removed edited items) ≡ of_key key items
removed_leaves edited key apart items = go (cut_last (is_entry_of edited) items) refl
  where
    go : (o : Cut) → cut_last (is_entry_of edited) items ≡ o → of_key key (removed edited items) ≡ of_key key items
    go None e = rw (e, removed) refl
    go (Some c) e =
        let cut = cut_is (is_entry_of edited) items c e in
        rw (e, removed) (
        of_key-append key (without_last_blanks c.0) (without_first_line_ends c.1.1)
        ∙ ap (λ es. es ++ of_key key (without_first_line_ends c.1.1)) (last_blanks_leave key c.0)
        ∙ ap (λ es. of_key key c.0 ++ es) (first_line_ends_leave key c.1.1 ∙ sym (passed_by key c.1.0 c.1.1 (other_entry edited key apart c.1.0 cut.passes)))
        ∙ sym (of_key-append key c.0 (c.1.0 ∷ c.1.1))
        ∙ ap (of_key key) (sym cut.is))

unless_blanks_leave : (key : List ℕ) (t : Bool) (i : Item) → of_key key (if t then unless_blanks i else i ∷ []) ≡ of_key key (i ∷ [])
unless_blanks_leave key false i = refl
unless_blanks_leave key true (BlanksItem run) = refl
unless_blanks_leave key true (LineEndsItem run) = refl
unless_blanks_leave key true (CommentItem tag text) = refl
unless_blanks_leave key true (EntryItem e) = refl

-- an item that stays before others, and one that goes
stays : (key : List ℕ) (i : Item) (ps : List (Bool × Item)) (items : List Item) → of_key key (without_marked ps) ≡ of_key key items → of_key key (without_marked ((false, i) ∷ ps)) ≡ of_key key (i ∷ items)
stays key i ps items later =
    of_key-append key (if begins_marked ps then unless_blanks i else i ∷ []) (without_marked ps)
    ∙ ap (λ es. es ++ of_key key (without_marked ps)) (unless_blanks_leave key (begins_marked ps) i)
    ∙ ap (λ es. of_key key (i ∷ []) ++ es) later
    ∙ sym (of_key-append key (i ∷ []) items)

goes : (key : List ℕ) (i : Item) (ps : List (Bool × Item)) (items : List Item) → is_entry_of key i ≡ false → of_key key (without_marked ps) ≡ of_key key items
    → of_key key (without_marked ((true, i) ∷ ps)) ≡ of_key key (i ∷ items)
goes key i ps items other later = first_line_ends_leave key (without_marked ps) ∙ later ∙ sym (passed_by key i items other)

pub removed_marked_leaves : (edited key : List ℕ) → ((name : List ℕ) → is_same_name edited name ≡ true → is_same_name key name ≡ false) → (marks : List Bool) (items : List Item)
    → of_key key (removed_marked edited marks items) ≡ of_key key items
removed_marked_leaves edited key apart marks [] = refl
removed_marked_leaves edited key apart marks (i ∷ items) = go (is_entry_of edited i) marks refl (λ ms. removed_marked_leaves edited key apart ms items)
  where
    go : (t : Bool) (ms : List Bool) → is_entry_of edited i ≡ t → ((ks : List Bool) → of_key key (removed_marked edited ks items) ≡ of_key key items)
        → of_key key (without_marked (marked edited ms (i ∷ items))) ≡ of_key key (i ∷ items)
    go false ms e later = rw (e, marked) (stays key i (marked edited ms items) items (later ms))
    go true [] e later = rw (e, marked) (stays key i (marked edited [] items) items (later []))
    go true (false ∷ ms) e later = rw (e, marked) (stays key i (marked edited ms items) items (later ms))
    go true (true ∷ ms) e later = rw (e, marked) (goes key i (marked edited ms items) items (other_entry edited key apart i e) (later ms))

-- a line that is put in has entries of its key alone
line_end_item_none : (key run : List ℕ) (items : List Item) → of_key key (line_end_item run ++ items) ≡ of_key key items
line_end_item_none key [] items = refl
line_end_item_none key (b ∷ run) items = refl

put_below_leaves : (key line_end : List ℕ) (line : List Item) → of_key key line ≡ [] → (items : List Item) → of_key key (put_below line_end line items) ≡ of_key key items
put_below_leaves key line_end line none [] = none
put_below_leaves key line_end line none (LineEndsItem run ∷ items) =
    of_key-append key line (line_end_item (drop (end_bytes run) run) ++ items)
    ∙ ap (λ es. es ++ of_key key (line_end_item (drop (end_bytes run) run) ++ items)) none
    ∙ line_end_item_none key (drop (end_bytes run) run) items
put_below_leaves key line_end line none (BlanksItem run ∷ items) = put_below_leaves key line_end line none items
put_below_leaves key line_end line none (CommentItem tag text ∷ items) = put_below_leaves key line_end line none items
put_below_leaves key line_end line none (EntryItem e ∷ items) = behind_same key (EntryItem e) (put_below line_end line items) items (put_below_leaves key line_end line none items)

pub pushed_after_last_leaves : (key edited : List ℕ) (editor : Editor) (value : Option (List ℕ)) (items : List Item) → is_same_name key edited ≡ false
    → of_key key (pushed_after_last editor edited value items) ≡ of_key key items
pushed_after_last_leaves key edited editor value items other = go (cut_last is_entry items) refl
  where
    none : of_key key (line_made editor edited value None) ≡ []
    none = line_made_none key edited editor value None other

    go : (o : Cut) → cut_last is_entry items ≡ o → of_key key (pushed_after_last editor edited value items) ≡ of_key key items
    go None e = rw (e, put_after_last) (put_below_leaves key editor.line_end (line_made editor edited value None) none items)
    go (Some c) e =
        let cut = cut_is is_entry items c e in
        rw (e, put_after_last) (
        of_key-append key c.0 (c.1.0 ∷ put_below editor.line_end (line_made editor edited value None) c.1.1)
        ∙ ap (λ es. of_key key c.0 ++ es) (behind_same key c.1.0 (put_below editor.line_end (line_made editor edited value None) c.1.1) c.1.1
        (put_below_leaves key editor.line_end (line_made editor edited value None) none c.1.1))
        ∙ sym (of_key-append key c.0 (c.1.0 ∷ c.1.1))
        ∙ ap (of_key key) (sym cut.is))

-- items without entries have none of a key
no_entries : (key : List ℕ) (items : List Item) → list_any is_entry items ≡ false → list_any (is_entry_of key) items ≡ false
no_entries key [] none = refl
no_entries key (BlanksItem run ∷ items) none = no_entries key items none
no_entries key (LineEndsItem run ∷ items) none = no_entries key items none
no_entries key (CommentItem tag text ∷ items) none = no_entries key items none
no_entries key (EntryItem e ∷ items) none = absurd (cc)

pub popped_leaves : (key : List ℕ) (items : List Item) → is_last_of key items ≡ false → of_key key (popped items) ≡ of_key key items
popped_leaves key items other = go (cut_last is_entry items) refl
  where
    last : (o : Option Item) (i : Item) → o ≡ Some i → elim o as (λ _. Bool) [ None ↦ false | Some i ↦ is_entry_of key i ] ≡ false → is_entry_of key i ≡ false
    last o i is none = let h = rw is at none in h

    go : (o : Cut) → cut_last is_entry items ≡ o → of_key key (popped items) ≡ of_key key items
    go None e = rw (e, popped) (sym (of_key-none key items (no_entries key items (cut_none is_entry items e))))
    go (Some c) e =
        let cut = cut_is is_entry items c e in
        let found : last_or None (filter is_entry items) ≡ Some c.1.0 = ap (λ is. last_or None (filter is_entry is)) cut.is ∙ last_passing is_entry None c.0 c.1.0 c.1.1 cut.passes cut.none in
        let here : is_entry_of key c.1.0 ≡ false = last (last_or None (filter is_entry items)) c.1.0 found other in
        rw (e, popped) (
        last_blanks_leave key c.0
        ∙ sym (added key c.0 (c.1.0 ∷ c.1.1) (passed_by key c.1.0 c.1.1 here ∙ of_key-none key c.1.1 (no_entries key c.1.1 cut.none)))
        ∙ ap (of_key key) (sym cut.is))

-- items cut at a place
at_place : (place : ℕ) (key : List ℕ) (items : List Item) → of_key key items ≡ of_key key (take place items) ++ of_key key (drop place items)
at_place place key items = ap (of_key key) (sym (take-append-drop place items)) ∙ of_key-append key (take place items) (drop place items)

pub deleted_leaves : (place : ℕ) (key : List ℕ) (items : List Item) → is_one_at place key items ≡ false → of_key key (deleted_at place items) ≡ of_key key items
deleted_leaves place key items other =
    of_key-append key (take place items) (drop (place + 1) items)
    ∙ ap (λ es. of_key key (take place items) ++ es) (sym (
    at_place 1 key (drop place items)
    ∙ ap (λ es. es ++ of_key key (drop 1 (drop place items))) (of_key-none key (take 1 (drop place items)) other)
    ∙ ap (of_key key) (drop-drop 1 place items)))
    ∙ sym (at_place place key items)

-- the line ending that is kept of an old value is no entry
kept_none : (key : List ℕ) (o : Option Assigned) (behind : List Item) → of_key key (kept_line_end o behind) ≡ []
kept_none key None behind = refl
kept_none key (Some a) behind = go a.value.last refl (is_before_comment behind) (last_line_end a.value.pieces)
  where
    item : (run : List ℕ) → of_key key (line_end_item run) ≡ []
    item [] = refl
    item (b ∷ run) = refl

    go : (last : List ℕ) → a.value.last ≡ last → (t : Bool) → (run : List ℕ)
        → of_key key (elim last as (λ _. List Item) [ [] ↦ if t then line_end_item run else [] | b ∷ last ↦ [] ]) ≡ []
    go [] e true run = item run
    go [] e false run = refl
    go (b ∷ last) e t run = refl

behind_written_leaves : (key : List ℕ) (instead : InsteadOf) (items : List Item) → list_any (is_entry_of key) (take 1 items) ≡ false
    → of_key key (behind_written instead items) ≡ of_key key items
behind_written_leaves key OfNothing items none = refl
behind_written_leaves key OfEntry [] none = refl
behind_written_leaves key OfEntry (BlanksItem run ∷ items) none = refl
behind_written_leaves key OfEntry (LineEndsItem run ∷ items) none = refl
behind_written_leaves key OfEntry (CommentItem tag text ∷ items) none = refl
behind_written_leaves key OfEntry (EntryItem e ∷ items) none = sym (passed_by key (EntryItem e) items (or_parts (is_same_name key e.name) false none).0)
behind_written_leaves key OfEntryButLineEnd [] none = refl
behind_written_leaves key OfEntryButLineEnd (BlanksItem run ∷ items) none = refl
behind_written_leaves key OfEntryButLineEnd (LineEndsItem run ∷ items) none = refl
behind_written_leaves key OfEntryButLineEnd (CommentItem tag text ∷ items) none = refl
behind_written_leaves key OfEntryButLineEnd (EntryItem e ∷ items) none =
    of_key-append key (kept_line_end e.assigned items) items
    ∙ ap (λ es. es ++ of_key key items) (kept_none key e.assigned items)
    ∙ sym (passed_by key (EntryItem e) items (or_parts (is_same_name key e.name) false none).0)

pub written_leaves : (editor : Editor) (place : ℕ) (instead : InsteadOf) (edited key value : List ℕ) (items : List Item) → is_same_name key edited ≡ false → is_one_at place key items ≡ false
    → of_key key (written_at editor place instead edited value items) ≡ of_key key items
written_leaves editor place instead edited key value items other there =
    of_key-append key (take place items) (entry_made editor.spacing edited (Some value) ∷ behind_written instead (drop place items))
    ∙ ap (λ es. of_key key (take place items) ++ es)
    (passed_by key (entry_made editor.spacing edited (Some value)) (behind_written instead (drop place items)) other ∙ behind_written_leaves key instead (drop place items) there)
    ∙ sym (at_place place key items)
