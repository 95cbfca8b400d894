-- What editors write is items of a state, and leaves them; blanks that stand alone stay spaces and tabs.
use Rattle.std.proofs.Common.{◌≡◌, ℕ, zero, suc, ◌+◌, Bool, true, false, not, List, [], ◌∷◌, ◌++◌, take, drop, Option, Some, None, refl, ap, sym, subst, ◌∙◌}
use Rattle.std.specs.Prelude.{◌==◌, ◌&&◌, ◌||◌, map, if◌then◌else◌}
use Rattle.std.specs.List.{list_all, list_any}
use Rattle.gitconf_text.specs.Bytes.{is_blank, is_whitespace}
use Rattle.gitconf_text.specs.Text.{begins, begins_line_end, ends, are_line_ends, is_line_end}
use Rattle.gitconf_text.specs.Names.{is_value_name}
use Rattle.gitconf_text.specs.Unit.{is_white}
use Rattle.gitconf_text.specs.Value.{Piece, spelled_value, value_units, are_paired}
use Rattle.gitconf_text.specs.Part.{Assigned, Item, BlanksItem, LineEndsItem, CommentItem, EntryItem}
use Rattle.std.proofs.lemmas.Bool.{eqb-true}
use Rattle.gitconf_text.proofs.Tests.{both_true}
use Rattle.gitconf_state.specs.State.{is_item, is_piece, is_value, is_assigned, is_entry, Cut, cut_last}
use Rattle.gitconf_state.specs.Clean.{has_blanks}
use Rattle.gitconf_state.specs.Edit.{Spacing, leading_item, with_value, is_entry_of}
use Rattle.gitconf_state.specs.Editors.{Editor, entry_made, comment_text, comment_made, end_made, line_made, pushed, line_end_pushed, value_set, without_last_blanks, without_first_line_ends, unless_blanks, removed, marked, begins_marked, without_marked, removed_marked, end_bytes, put_below, put_after_last, pushed_after_last, popped, popped_entry, key_and_meaning, unless_empty, last_line_end, is_before_comment, line_end_item, kept_line_end, InsteadOf, OfNothing, OfEntry, OfEntryButLineEnd, behind_written, written_at, deleted_at}
use Rattle.gitconf_state.specs.Edits.{IsEditor, has_blank_leading}
use Rattle.gitconf_state.proofs.Loading.Filters.{both_hold}
use Rattle.gitconf_state.proofs.Edits.Lists.{update_last_all}
use Rattle.gitconf_state.proofs.Edits.Items.{FitsSpacing, entry_is, entry_parts, with_value_is, with_value_blank, one_line_end, all_append}

-- parts of a list that passes
take_all : {A : Type 0} (p : A → Bool) (n : ℕ) (xs : List A) → list_all p xs ≡ true → list_all p (take n xs) ≡ true
take_all p zero xs all = refl
take_all p (suc n) [] all = refl
take_all p (suc n) (x ∷ xs) all =
    let b = both_true (p x) (list_all p xs) all in
    both_hold (p x) (list_all p (take n xs)) b.0 (take_all p n xs b.1)

drop_all : {A : Type 0} (p : A → Bool) (n : ℕ) (xs : List A) → list_all p xs ≡ true → list_all p (drop n xs) ≡ true
drop_all p zero xs all = all
drop_all p (suc n) [] all = refl
drop_all p (suc n) (x ∷ xs) all = drop_all p n xs (both_true (p x) (list_all p xs) all).1

-- what a cut has passes
record CutPasses (p : Item → Bool) (c : List Item × (Item × List Item)) : Type 0 where
  before : list_all p c.0 ≡ true
  found : p c.1.0 ≡ true
  behind : list_all p c.1.1 ≡ true

cut_passes : (p test : Item → Bool) (items : List Item) → list_all p items ≡ true → (c : List Item × (Item × List Item)) → cut_last test items ≡ Some c → CutPasses p c
cut_passes p test [] all c is = absurd (cc)
cut_passes p test (i ∷ items) all c is =
    let b = both_true (p i) (list_all p items) all in
    go (cut_last test items) refl (λ d e. cut_passes p test items b.1 d e) b.0 b.1
  where
    here : (t : Bool) → elim t [ true ↦ Some ([], (i, items)) | false ↦ None ] ≡ Some c → p i ≡ true → list_all p items ≡ true → CutPasses p c
    here true same one all =
        let h : ([], (i, items)) ≡ c = cc in
        subst (CutPasses p) h (record { before = refl; found = one; behind = all })
    here false same one all = absurd (cc)

    go : (o : Cut) → cut_last test items ≡ o → ((d : List Item × (Item × List Item)) → cut_last test items ≡ Some d → CutPasses p d) → p i ≡ true → list_all p items ≡ true → CutPasses p c
    go None e later one all = here (test i) (rw (e, cut_last) at is) one all
    go (Some d) e later one all =
        let rest = later d e in
        let h : (i ∷ d.0, d.1) ≡ c = (let g = rw (e, cut_last) at is in cc) in
        subst (CutPasses p) h (record { before = both_hold (p i) (list_all p d.0) one rest.before; found = rest.found; behind = rest.behind })

last_blanks_all : (p : Item → Bool) (items : List Item) → list_all p items ≡ true → list_all p (without_last_blanks items) ≡ true
last_blanks_all p [] all = refl
last_blanks_all p (BlanksItem run ∷ []) all = refl
last_blanks_all p (LineEndsItem run ∷ []) all = all
last_blanks_all p (CommentItem tag text ∷ []) all = all
last_blanks_all p (EntryItem e ∷ []) all = all
last_blanks_all p (i ∷ j ∷ items) all =
    let b = both_true (p i) (list_all p (j ∷ items)) all in
    both_hold (p i) (list_all p (without_last_blanks (j ∷ items))) b.0 (last_blanks_all p (j ∷ items) b.1)

first_line_ends_all : (p : Item → Bool) (items : List Item) → list_all p items ≡ true → list_all p (without_first_line_ends items) ≡ true
first_line_ends_all p [] all = refl
first_line_ends_all p (BlanksItem run ∷ items) all = all
first_line_ends_all p (LineEndsItem run ∷ items) all = (both_true (p (LineEndsItem run)) (list_all p items) all).1
first_line_ends_all p (CommentItem tag text ∷ items) all = all
first_line_ends_all p (EntryItem e ∷ items) all = all

-- What is left where an entry is removed.
pub removed_all : (p : Item → Bool) (key : List ℕ) (items : List Item) → list_all p items ≡ true → list_all p (removed key items) ≡ true
removed_all p key items all = go (cut_last (is_entry_of key) items) refl
  where
    go : (o : Cut) → cut_last (is_entry_of key) items ≡ o → list_all p (removed key items) ≡ true
    go None e = rw (e, removed) all
    go (Some c) e =
        let parts = cut_passes p (is_entry_of key) items all c e in
        rw (e, removed) (all_append p (without_last_blanks c.0) (without_first_line_ends c.1.1) (last_blanks_all p c.0 parts.before) (first_line_ends_all p c.1.1 parts.behind))

-- What is left where marked entries are removed.
marked_all : (p : Item → Bool) (key : List ℕ) (marks : List Bool) (items : List Item) → list_all p items ≡ true → list_all (λ (q : Bool × Item). p q.1) (marked key marks items) ≡ true
marked_all p key marks [] all = refl
marked_all p key marks (i ∷ items) all =
    let b = both_true (p i) (list_all p items) all in
    go (is_entry_of key i) marks refl b.0 (λ ms. marked_all p key ms items b.1)
  where
    go : (t : Bool) (ms : List Bool) → is_entry_of key i ≡ t → p i ≡ true → ((ks : List Bool) → list_all (λ (q : Bool × Item). p q.1) (marked key ks items) ≡ true)
        → list_all (λ (q : Bool × Item). p q.1) (marked key ms (i ∷ items)) ≡ true
    go false ms e one later = rw (e, marked) (both_hold (p i) (list_all (λ (q : Bool × Item). p q.1) (marked key ms items)) one (later ms))
    go true [] e one later = rw (e, marked) (both_hold (p i) (list_all (λ (q : Bool × Item). p q.1) (marked key [] items)) one (later []))
    go true (m ∷ ms) e one later = rw (e, marked) (both_hold (p i) (list_all (λ (q : Bool × Item). p q.1) (marked key ms items)) one (later ms))

unless_blanks_all : (p : Item → Bool) (t : Bool) (i : Item) → p i ≡ true → list_all p (if t then unless_blanks i else i ∷ []) ≡ true
unless_blanks_all p false i one = rw one refl
unless_blanks_all p true (BlanksItem run) one = refl
unless_blanks_all p true (LineEndsItem run) one = rw one refl
unless_blanks_all p true (CommentItem tag text) one = rw one refl
unless_blanks_all p true (EntryItem e) one = rw one refl

without_marked_all : (p : Item → Bool) (ps : List (Bool × Item)) → list_all (λ (q : Bool × Item). p q.1) ps ≡ true → list_all p (without_marked ps) ≡ true
without_marked_all p [] all = refl
without_marked_all p (q ∷ ps) all =
    let b = both_true (p q.1) (list_all (λ (r : Bool × Item). p r.1) ps) all in
    go q.0 b.0 (without_marked_all p ps b.1)
  where
    go : (t : Bool) → p q.1 ≡ true → list_all p (without_marked ps) ≡ true
        → list_all p (elim t as (λ _. List Item) [ true ↦ without_first_line_ends (without_marked ps) | false ↦ (if begins_marked ps then unless_blanks q.1 else q.1 ∷ []) ++ without_marked ps ]) ≡ true
    go true one later = first_line_ends_all p (without_marked ps) later
    go false one later = all_append p (if begins_marked ps then unless_blanks q.1 else q.1 ∷ []) (without_marked ps) (unless_blanks_all p (begins_marked ps) q.1 one) later

pub removed_marked_all : (p : Item → Bool) (key : List ℕ) (marks : List Bool) (items : List Item) → list_all p items ≡ true → list_all p (removed_marked key marks items) ≡ true
removed_marked_all p key marks items all = without_marked_all p (marked key marks items) (marked_all p key marks items all)

pub popped_all : (p : Item → Bool) (items : List Item) → list_all p items ≡ true → list_all p (popped items) ≡ true
popped_all p items all = go (cut_last is_entry items) refl
  where
    go : (o : Cut) → cut_last is_entry items ≡ o → list_all p (popped items) ≡ true
    go None e = rw (e, popped) refl
    go (Some c) e = rw (e, popped) (last_blanks_all p c.0 (cut_passes p is_entry items all c e).before)

-- the key of the entry that is removed is a name
told_named : (told : List ℕ × List ℕ) (i : Item) → is_item i ≡ true → key_and_meaning i ≡ Some told → is_value_name told.0 ≡ true
told_named told (BlanksItem run) is same = absurd (cc)
told_named told (LineEndsItem run) is same = absurd (cc)
told_named told (CommentItem tag text) is same = absurd (cc)
told_named told (EntryItem e) is same =
    let name : e.name ≡ told.0 = cc in
    subst (λ key. is_value_name key ≡ true) name (entry_parts e is).name

pub popped_named : (items : List Item) (told : List ℕ × List ℕ) → list_all is_item items ≡ true → popped_entry items ≡ Some told → is_value_name told.0 ≡ true
popped_named items told all is = go (cut_last is_entry items) refl
  where
    go : (o : Cut) → cut_last is_entry items ≡ o → is_value_name told.0 ≡ true
    go None e = absurd (let none = rw (e, popped_entry) at is in cc)
    go (Some c) e = told_named told c.1.0 (cut_passes is_item is_entry items all c e).found (rw (e, popped_entry) at is)

pub deleted_all : (p : Item → Bool) (place : ℕ) (items : List Item) → list_all p items ≡ true → list_all p (deleted_at place items) ≡ true
deleted_all p place items all = all_append p (take place items) (drop (place + 1) items) (take_all p place items all) (drop_all p (place + 1) items all)

-- blanks before a key are items of any kind
leading_item_is : (o : Option (List ℕ)) → list_all is_item (leading_item o) ≡ true
leading_item_is None = refl
leading_item_is (Some run) = refl

entry_made_is : (spacing : Spacing) (key : List ℕ) (value : Option (List ℕ)) → FitsSpacing spacing.before spacing.behind → is_value_name key ≡ true → is_item (entry_made spacing key value) ≡ true
entry_made_is spacing key None fits named = rw named refl
entry_made_is spacing key (Some value) fits named = entry_is key spacing.before spacing.behind value named fits.before fits.behind

-- a comment that is made has no LF
no_feeds : (text : List ℕ) → list_all (λ b. not (b == 10)) (map (λ b. if b == 10 then 32 else b) text) ≡ true
no_feeds [] = refl
no_feeds (b ∷ text) = both_hold (not ((if b == 10 then 32 else b) == 10)) (list_all (λ b. not (b == 10)) (map (λ b. if b == 10 then 32 else b) text)) (go (b == 10) refl) (no_feeds text)
  where
    go : (t : Bool) → (b == 10) ≡ t → not ((if t then 32 else b) == 10) ≡ true
    go true e = refl
    go false e = rw e refl

comment_text_is : (text : List ℕ) → list_all (λ b. not (b == 10)) (comment_text text) ≡ true
comment_text_is text = go (begins (λ b. not (is_whitespace b)) text)
  where
    go : (t : Bool) → list_all (λ b. not (b == 10)) ((if t then 32 ∷ [] else []) ++ map (λ b. if b == 10 then 32 else b) text) ≡ true
    go true = no_feeds text
    go false = no_feeds text

comment_made_is : (o : Option (List ℕ)) → list_all is_item (comment_made o) ≡ true
comment_made_is None = refl
comment_made_is (Some text) = rw (comment_text_is text) refl

end_made_is : (editor : Editor) → IsEditor editor → list_all is_item (end_made editor) ≡ true
end_made_is editor is = go editor.ends
  where
    go : (t : Bool) → list_all is_item (if t then LineEndsItem editor.line_end ∷ [] else []) ≡ true
    go true = rw is.line_end refl
    go false = refl

line_made_is : (editor : Editor) (key : List ℕ) (value comment : Option (List ℕ)) → IsEditor editor → is_value_name key ≡ true → list_all is_item (line_made editor key value comment) ≡ true
line_made_is editor key value comment is named =
    all_append is_item (leading_item editor.spacing.leading) (entry_made editor.spacing key value ∷ (comment_made comment ++ end_made editor)) (leading_item_is editor.spacing.leading)
    (both_hold (is_item (entry_made editor.spacing key value)) (list_all is_item (comment_made comment ++ end_made editor))
    (entry_made_is editor.spacing key value (record { before = is.before; behind = is.behind }) named)
    (all_append is_item (comment_made comment) (end_made editor) (comment_made_is comment) (end_made_is editor is)))

-- What is pushed.
pub pushed_is : (editor : Editor) (key : List ℕ) (value comment : Option (List ℕ)) (items : List Item) → IsEditor editor → is_value_name key ≡ true → list_all is_item items ≡ true
    → list_all is_item (pushed editor key value comment items) ≡ true
pushed_is editor key value comment items is named all = all_append is_item items (line_made editor key value comment) all (line_made_is editor key value comment is named)

-- one line ending of a run, and those behind it
run_cut : (run : List ℕ) → is_item (LineEndsItem run) ≡ true → (is_item (LineEndsItem (take (end_bytes run) run)) ≡ true) × (list_all is_item (line_end_item (drop (end_bytes run) run)) ≡ true)
run_cut [] is = absurd (cc)
run_cut (b ∷ run) is = go (b == 13) refl (both_true (begins_line_end (b ∷ run)) (are_line_ends run) is)
  where
    after_cr : (b : ℕ) (t : Bool) → b ≡ 13 → (b == 10 || b == 13 && t) ≡ true → t ≡ true
    after_cr b t cr some = rw cr at some

    alone : (s t u : Bool) → t ≡ false → (s || t && u) ≡ true → s ≡ true
    alone true t u none some = refl
    alone false t u none some = absurd (let h = rw none at some in cc)

    rest : (ends : List ℕ) → are_line_ends ends ≡ true → list_all is_item (line_end_item ends) ≡ true
    rest [] are = refl
    rest (c ∷ ends) are = rw are refl

    pair : (ends : List ℕ) → begins (λ c. c == 10) ends ≡ true → are_line_ends ends ≡ true → b ≡ 13
        → (is_item (LineEndsItem (take 2 (b ∷ ends))) ≡ true) × (list_all is_item (line_end_item (drop 2 (b ∷ ends))) ≡ true)
    pair [] lf are cr = absurd (cc)
    pair (c ∷ ends) lf are cr =
        let ten : c ≡ 10 = eqb-true c 10 lf in
        (rw (cr, ten) refl, rest ends (both_true (begins_line_end (c ∷ ends)) (are_line_ends ends) are).1)

    go : (t : Bool) → (b == 13) ≡ t → (begins_line_end (b ∷ run) ≡ true) × (are_line_ends run ≡ true)
        → (is_item (LineEndsItem (take (if t then 2 else 1) (b ∷ run))) ≡ true) × (list_all is_item (line_end_item (drop (if t then 2 else 1) (b ∷ run))) ≡ true)
    go true e parts =
        let cr : b ≡ 13 = eqb-true b 13 e in
        pair run (after_cr b (begins (λ c. c == 10) run) cr parts.0) parts.1 cr
    go false e parts = (rw (alone (b == 10) (b == 13) (begins (λ c. c == 10) run) e parts.0) refl, rest run parts.1)

put_below_all : (p : Item → Bool) (line_end : List ℕ) (line : List Item)
    → ((run : List ℕ) → p (LineEndsItem run) ≡ true → (p (LineEndsItem (take (end_bytes run) run)) ≡ true) × (list_all p (line_end_item (drop (end_bytes run) run)) ≡ true))
    → p (LineEndsItem line_end) ≡ true → list_all p line ≡ true → (items : List Item) → list_all p items ≡ true → list_all p (put_below line_end line items) ≡ true
put_below_all p line_end line cut closes made [] all = both_hold (p (LineEndsItem line_end)) (list_all p line) closes made
put_below_all p line_end line cut closes made (LineEndsItem run ∷ items) all =
    let b = both_true (p (LineEndsItem run)) (list_all p items) all in
    let parts = cut run b.0 in
    both_hold (p (LineEndsItem (take (end_bytes run) run))) (list_all p (line ++ (line_end_item (drop (end_bytes run) run) ++ items))) parts.0
    (all_append p line (line_end_item (drop (end_bytes run) run) ++ items) made (all_append p (line_end_item (drop (end_bytes run) run)) items parts.1 b.1))
put_below_all p line_end line cut closes made (BlanksItem run ∷ items) all =
    let b = both_true (p (BlanksItem run)) (list_all p items) all in
    both_hold (p (BlanksItem run)) (list_all p (put_below line_end line items)) b.0 (put_below_all p line_end line cut closes made items b.1)
put_below_all p line_end line cut closes made (CommentItem tag text ∷ items) all =
    let b = both_true (p (CommentItem tag text)) (list_all p items) all in
    both_hold (p (CommentItem tag text)) (list_all p (put_below line_end line items)) b.0 (put_below_all p line_end line cut closes made items b.1)
put_below_all p line_end line cut closes made (EntryItem e ∷ items) all =
    let b = both_true (p (EntryItem e)) (list_all p items) all in
    both_hold (p (EntryItem e)) (list_all p (put_below line_end line items)) b.0 (put_below_all p line_end line cut closes made items b.1)

after_last_all : (p : Item → Bool) (editor : Editor) (key : List ℕ) (value : Option (List ℕ)) (items : List Item)
    → ((run : List ℕ) → p (LineEndsItem run) ≡ true → (p (LineEndsItem (take (end_bytes run) run)) ≡ true) × (list_all p (line_end_item (drop (end_bytes run) run)) ≡ true))
    → p (LineEndsItem editor.line_end) ≡ true → list_all p (line_made editor key value None) ≡ true → list_all p items ≡ true → list_all p (pushed_after_last editor key value items) ≡ true
after_last_all p editor key value items cut closes made all = go (cut_last is_entry items) refl
  where
    go : (o : Cut) → cut_last is_entry items ≡ o → list_all p (pushed_after_last editor key value items) ≡ true
    go None e = rw (e, put_after_last) (put_below_all p editor.line_end (line_made editor key value None) cut closes made items all)
    go (Some c) e =
        let parts = cut_passes p is_entry items all c e in
        rw (e, put_after_last) (all_append p c.0 (c.1.0 ∷ put_below editor.line_end (line_made editor key value None) c.1.1) parts.before
        (both_hold (p c.1.0) (list_all p (put_below editor.line_end (line_made editor key value None) c.1.1)) parts.found
        (put_below_all p editor.line_end (line_made editor key value None) cut closes made c.1.1 parts.behind)))

pub pushed_after_last_is : (editor : Editor) (key : List ℕ) (value : Option (List ℕ)) (items : List Item) → IsEditor editor → is_value_name key ≡ true → list_all is_item items ≡ true
    → list_all is_item (pushed_after_last editor key value items) ≡ true
pushed_after_last_is editor key value items is named all =
    after_last_all is_item editor key value items run_cut (rw is.line_end refl) (line_made_is editor key value None is named) all

pub line_end_pushed_is : (editor : Editor) (items : List Item) → IsEditor editor → list_all is_item items ≡ true → list_all is_item (line_end_pushed editor items) ≡ true
line_end_pushed_is editor items is all = all_append is_item items (LineEndsItem editor.line_end ∷ []) all (rw is.line_end refl)

-- A value that is set.
pub value_set_is : (editor : Editor) (key value : List ℕ) (items : List Item) → IsEditor editor → is_value_name key ≡ true → list_all is_item items ≡ true
    → list_all is_item (value_set editor key value items) ≡ true
value_set_is editor key value items is named all = go (list_any (is_entry_of key) items) refl
  where
    go : (t : Bool) → list_any (is_entry_of key) items ≡ t → list_all is_item (value_set editor key value items) ≡ true
    go true e = rw (e, value_set) (update_last_all (is_entry_of key) (with_value editor.spacing value) is_item
        (λ i one. with_value_is editor.spacing value i (record { before = is.before; behind = is.behind }) one) items all)
    go false e = rw (e, value_set) (pushed_is editor key (Some value) None items is named all)

-- the last line ending of pieces is a line ending, if there is one
last_line_end_is : (pieces : List Piece) → list_all is_piece pieces ≡ true → list_all is_item (line_end_item (last_line_end pieces)) ≡ true
last_line_end_is [] all = refl
last_line_end_is (p ∷ pieces) all =
    let b = both_true (is_piece p) (list_all is_piece pieces) all in
    either (last_line_end pieces) (last_line_end_is pieces b.1) (go p.line_end refl b.0)
  where
    go : (run : List ℕ) → p.line_end ≡ run → is_piece p ≡ true → list_all is_item (line_end_item run) ≡ true
    go [] e is = refl
    go (b ∷ run) e is = rw (one_line_end (b ∷ run) (ap (λ r. elim r as (λ _. Bool) [ [] ↦ true | c ∷ cs ↦ is_line_end r ]) (sym e) ∙ is)) refl

    either : (later : List ℕ) → list_all is_item (line_end_item later) ≡ true → list_all is_item (line_end_item p.line_end) ≡ true
        → list_all is_item (line_end_item (unless_empty later p.line_end)) ≡ true
    either [] is own = own
    either (b ∷ run) is own = is

kept_line_end_is : (o : Option Assigned) (behind : List Item) → is_assigned o ≡ true → list_all is_item (kept_line_end o behind) ≡ true
kept_line_end_is None behind is = refl
kept_line_end_is (Some a) behind is = go a.value.last
  where
    front : Bool
    front = not (begins is_blank (spelled_value a.value)) && are_paired false (value_units a.value)

    value : list_all is_piece a.value.pieces ≡ true
    value = (both_true front (list_all is_piece a.value.pieces) (both_true (front && list_all is_piece a.value.pieces) (not (ends is_white a.value.last))
        (both_true (list_all is_blank a.blanks) (is_value a.value) is).1).0).1

    here : (t : Bool) → list_all is_item (if t then line_end_item (last_line_end a.value.pieces) else []) ≡ true
    here true = last_line_end_is a.value.pieces value
    here false = refl

    go : (last : List ℕ) → list_all is_item (elim last as (λ _. List Item) [ [] ↦ if is_before_comment behind then line_end_item (last_line_end a.value.pieces) else [] | b ∷ l ↦ [] ]) ≡ true
    go [] = here (is_before_comment behind)
    go (b ∷ l) = refl

behind_written_is : (instead : InsteadOf) (items : List Item) → list_all is_item items ≡ true → list_all is_item (behind_written instead items) ≡ true
behind_written_is OfNothing items all = all
behind_written_is OfEntry [] all = refl
behind_written_is OfEntry (BlanksItem run ∷ items) all = all
behind_written_is OfEntry (LineEndsItem run ∷ items) all = all
behind_written_is OfEntry (CommentItem tag text ∷ items) all = all
behind_written_is OfEntry (EntryItem e ∷ items) all = (both_true (is_item (EntryItem e)) (list_all is_item items) all).1
behind_written_is OfEntryButLineEnd [] all = refl
behind_written_is OfEntryButLineEnd (BlanksItem run ∷ items) all = all
behind_written_is OfEntryButLineEnd (LineEndsItem run ∷ items) all = all
behind_written_is OfEntryButLineEnd (CommentItem tag text ∷ items) all = all
behind_written_is OfEntryButLineEnd (EntryItem e ∷ items) all =
    let b = both_true (is_item (EntryItem e)) (list_all is_item items) all in
    all_append is_item (kept_line_end e.assigned items) items (kept_line_end_is e.assigned items (entry_parts e b.0).assigned) b.1

-- An entry that is written.
pub written_at_is : (editor : Editor) (place : ℕ) (instead : InsteadOf) (key value : List ℕ) (items : List Item) → IsEditor editor → is_value_name key ≡ true → list_all is_item items ≡ true
    → list_all is_item (written_at editor place instead key value items) ≡ true
written_at_is editor place instead key value items is named all =
    all_append is_item (take place items) (entry_made editor.spacing key (Some value) ∷ behind_written instead (drop place items))
    (take_all is_item place items all)
    (both_hold (is_item (entry_made editor.spacing key (Some value))) (list_all is_item (behind_written instead (drop place items)))
    (entry_made_is editor.spacing key (Some value) (record { before = is.before; behind = is.behind }) named)
    (behind_written_is instead (drop place items) (drop_all is_item place items all)))

-- Blanks that stand alone are spaces and tabs, where they were.

leading_item_blank : (o : Option (List ℕ)) → elim o as (λ _. Bool) [ None ↦ true | Some run ↦ list_all is_blank run ] ≡ true → list_all has_blanks (leading_item o) ≡ true
leading_item_blank None is = refl
leading_item_blank (Some run) is = both_hold (list_all is_blank run) true is refl

entry_made_blank : (spacing : Spacing) (key : List ℕ) (value : Option (List ℕ)) → has_blanks (entry_made spacing key value) ≡ true
entry_made_blank spacing key None = refl
entry_made_blank spacing key (Some value) = refl

comment_made_blank : (o : Option (List ℕ)) → list_all has_blanks (comment_made o) ≡ true
comment_made_blank None = refl
comment_made_blank (Some text) = refl

end_made_blank : (editor : Editor) → list_all has_blanks (end_made editor) ≡ true
end_made_blank editor = go editor.ends
  where
    go : (t : Bool) → list_all has_blanks (if t then LineEndsItem editor.line_end ∷ [] else []) ≡ true
    go true = refl
    go false = refl

line_end_item_blank : (run : List ℕ) → list_all has_blanks (line_end_item run) ≡ true
line_end_item_blank [] = refl
line_end_item_blank (b ∷ run) = refl

pub pushed_blank : (editor : Editor) (key : List ℕ) (value comment : Option (List ℕ)) (items : List Item) → has_blank_leading editor ≡ true → list_all has_blanks items ≡ true
    → list_all has_blanks (pushed editor key value comment items) ≡ true
pushed_blank editor key value comment items blank all =
    all_append has_blanks items (line_made editor key value comment) all
    (all_append has_blanks (leading_item editor.spacing.leading) (entry_made editor.spacing key value ∷ (comment_made comment ++ end_made editor))
    (leading_item_blank editor.spacing.leading blank)
    (both_hold (has_blanks (entry_made editor.spacing key value)) (list_all has_blanks (comment_made comment ++ end_made editor)) (entry_made_blank editor.spacing key value)
    (all_append has_blanks (comment_made comment) (end_made editor) (comment_made_blank comment) (end_made_blank editor))))

pub pushed_after_last_blank : (editor : Editor) (key : List ℕ) (value : Option (List ℕ)) (items : List Item) → has_blank_leading editor ≡ true → list_all has_blanks items ≡ true
    → list_all has_blanks (pushed_after_last editor key value items) ≡ true
pushed_after_last_blank editor key value items blank all =
    after_last_all has_blanks editor key value items (λ run is. (refl, line_end_item_blank (drop (end_bytes run) run))) refl (pushed_blank editor key value None [] blank refl) all

pub line_end_pushed_blank : (editor : Editor) (items : List Item) → list_all has_blanks items ≡ true → list_all has_blanks (line_end_pushed editor items) ≡ true
line_end_pushed_blank editor items all = all_append has_blanks items (LineEndsItem editor.line_end ∷ []) all refl

pub value_set_blank : (editor : Editor) (key value : List ℕ) (items : List Item) → has_blank_leading editor ≡ true → list_all has_blanks items ≡ true
    → list_all has_blanks (value_set editor key value items) ≡ true
value_set_blank editor key value items blank all = go (list_any (is_entry_of key) items) refl
  where
    go : (t : Bool) → list_any (is_entry_of key) items ≡ t → list_all has_blanks (value_set editor key value items) ≡ true
    go true e = rw (e, value_set) (update_last_all (is_entry_of key) (with_value editor.spacing value) has_blanks (with_value_blank editor.spacing value) items all)
    go false e = rw (e, value_set) (pushed_blank editor key (Some value) None items blank all)

kept_line_end_blank : (o : Option Assigned) (behind : List Item) → list_all has_blanks (kept_line_end o behind) ≡ true
kept_line_end_blank None behind = refl
kept_line_end_blank (Some a) behind = go a.value.last
  where
    here : (t : Bool) → list_all has_blanks (if t then line_end_item (last_line_end a.value.pieces) else []) ≡ true
    here true = line_end_item_blank (last_line_end a.value.pieces)
    here false = refl

    go : (last : List ℕ) → list_all has_blanks (elim last as (λ _. List Item) [ [] ↦ if is_before_comment behind then line_end_item (last_line_end a.value.pieces) else [] | b ∷ l ↦ [] ]) ≡ true
    go [] = here (is_before_comment behind)
    go (b ∷ l) = refl

behind_written_blank : (instead : InsteadOf) (items : List Item) → list_all has_blanks items ≡ true → list_all has_blanks (behind_written instead items) ≡ true
behind_written_blank OfNothing items all = all
behind_written_blank OfEntry [] all = refl
behind_written_blank OfEntry (BlanksItem run ∷ items) all = all
behind_written_blank OfEntry (LineEndsItem run ∷ items) all = all
behind_written_blank OfEntry (CommentItem tag text ∷ items) all = all
behind_written_blank OfEntry (EntryItem e ∷ items) all = all
behind_written_blank OfEntryButLineEnd [] all = refl
behind_written_blank OfEntryButLineEnd (BlanksItem run ∷ items) all = all
behind_written_blank OfEntryButLineEnd (LineEndsItem run ∷ items) all = all
behind_written_blank OfEntryButLineEnd (CommentItem tag text ∷ items) all = all
behind_written_blank OfEntryButLineEnd (EntryItem e ∷ items) all = all_append has_blanks (kept_line_end e.assigned items) items (kept_line_end_blank e.assigned items) all

pub written_at_blank : (editor : Editor) (place : ℕ) (instead : InsteadOf) (key value : List ℕ) (items : List Item) → list_all has_blanks items ≡ true
    → list_all has_blanks (written_at editor place instead key value items) ≡ true
written_at_blank editor place instead key value items all =
    all_append has_blanks (take place items) (entry_made editor.spacing key (Some value) ∷ behind_written instead (drop place items))
    (take_all has_blanks place items all) (behind_written_blank instead (drop place items) (drop_all has_blanks place items all))
