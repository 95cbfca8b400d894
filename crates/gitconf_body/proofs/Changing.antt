-- Entries that get another value by an editor.
use Rattle.std.proofs.Common.{◌≡◌, ℕ, ◌+◌, ◌-◌, ◌^◌, min, arith, Bool, true, false, List, [], ◌∷◌, ◌++◌, length, get_or, slice_set, Option, Some, None, refl, ap, sym, subst, ◌∙◌}
use Rattle.std.specs.Prelude.{filter}
use Rattle.std.specs.List.{last_or, list_any, AllByRecursion}
use Rattle.gitconf_text.specs.Part as parts
use Rattle.gitconf_text.specs.Value.{escaped}
use Rattle.gitconf_items.specs.declared.entry.Assigned.{Assigned}
use Rattle.gitconf_items.specs.declared.entry.Assigned.TheVariants as forms
use Rattle.gitconf_items.specs.declared.entry.EntryParts.{EntryParts as Entry}
use Rattle.gitconf_items.specs.declared.items.Item.{Item}
use Rattle.gitconf_items.specs.declared.items.Item.TheVariants as kinds
use Rattle.gitconf_items.specs.Events.{bytes_of}
use Rattle.gitconf_items.specs.Items.{item_of, entry_of, items_of}
use Rattle.gitconf_items.specs.ItemsFit.{AreItemsWithin, ItemFits}
use Rattle.gitconf_items.specs.ShownEvents.{IsExtended}
use Rattle.gitconf_state.specs.State.{is_entry}
use Rattle.gitconf_state.specs.Edit.{blank_bytes, update_last, is_entry_of, set_bytes, set_value, spacing_of, with_value}
use Rattle.gitconf_state.specs.Editors as states
use Rattle.gitconf_state.proofs.Edits.Lists.{any_at, update_last_at, last_passing, filter_none}
use Rattle.gitconf_text.specs.LineEnds.{bytes_of_line_end}
use Rattle.gitconf_body.specs.declared.editor.Around.{Around}
use Rattle.gitconf_body.specs.declared.editor.Editor.{Editor}
use Rattle.gitconf_body.specs.Editors.{around_in, around_put, changed_put, editor_in, end_put, leading_put, line_put, IfEntry, separator_in, separator_put, set_put}
use Rattle.gitconf_body.specs.Places.{IsLastAt, IsLastPlace}
use Rattle.gitconf_body.specs.Standing.{Stand}
use Rattle.gitconf_body.proofs.Places.{set_at, found_at}
use Rattle.gitconf_body.proofs.Counts.{last_exists, put_at, put_new}
use Rattle.gitconf_body.proofs.EntryLemmas.{last_shown}
use Rattle.gitconf_body.proofs.Standing.{stand_more, stand_both}

-- An entry that gets a value has its own blanks, or those of the editor.
pub changed_is : (buffer : List ℕ) (around : Around) (e : Entry) (blanks : Option (List ℕ)) (value : List ℕ)
    → parts.EntryItem (record {
      name = bytes_of buffer e.name;
      blanks = (separator_in buffer around e).0;
      assigned = Some (record { blanks = (separator_in buffer around e).1; value = record { pieces = []; last = escaped value } });
    })
    ≡ with_value (record { leading = blanks; before = (around_in buffer around).0; behind = (around_in buffer around).1 }) value (parts.EntryItem (entry_of buffer e))
changed_is buffer around e blanks value = go e.assigned refl
  where
    go : (o : Assigned) → e.assigned ≡ o
        → parts.EntryItem (record {
          name = bytes_of buffer e.name;
          blanks = (separator_in buffer around e).0;
          assigned = Some (record { blanks = (separator_in buffer around e).1; value = record { pieces = []; last = escaped value } });
        })
        ≡ with_value (record { leading = blanks; before = (around_in buffer around).0; behind = (around_in buffer around).1 }) value (parts.EntryItem (entry_of buffer e))
    go forms.Nothing at = rw at refl
    go (forms.Plain before other) at = rw at refl
    go (forms.Continued c) at = rw at refl

-- how many bytes it puts
pub changed_bytes : (buffer : List ℕ) (around : Around) (e : Entry) (value : List ℕ)
    → changed_put around value (parts.EntryItem (entry_of buffer e)) ≡ separator_put around e + length (escaped value)
changed_bytes buffer around e value = go e.assigned refl
  where
    go : (o : Assigned) → e.assigned ≡ o → changed_put around value (parts.EntryItem (entry_of buffer e)) ≡ separator_put around e + length (escaped value)
    go forms.Nothing at = rw at refl
    go (forms.Plain before other) at = rw at (omega arith)
    go (forms.Continued c) at = rw at (omega arith)

-- A value that is set: in the key's last entry, or in a line behind all.
value_set_at : (editor : states.Editor) (key value : List ℕ) (items before : List parts.Item) (i : parts.Item) (behind : List parts.Item) → items ≡ before ++ i ∷ behind
    → is_entry_of key i ≡ true → list_any (is_entry_of key) behind ≡ false
    → states.value_set editor key value items ≡ before ++ with_value editor.spacing value i ∷ behind
value_set_at editor key value items before i behind is passes none =
    let some : list_any (is_entry_of key) items ≡ true = ap (list_any (is_entry_of key)) is ∙ any_at (is_entry_of key) before i behind passes in
    let same : states.value_set editor key value items ≡ update_last (is_entry_of key) (with_value editor.spacing value) items = rw (some, states.value_set) refl in
    same ∙ ap (update_last (is_entry_of key) (with_value editor.spacing value)) is
    ∙ update_last_at (is_entry_of key) (with_value editor.spacing value) before i behind passes none

pub value_set_new : (editor : states.Editor) (key value : List ℕ) (items : List parts.Item) → list_any (is_entry_of key) items ≡ false
    → states.value_set editor key value items ≡ states.pushed editor key (Some value) None items
value_set_new editor key value items none = rw (none, states.value_set) refl

-- how many bytes it puts
pub set_put_at : (buffer : List ℕ) (editor : Editor) (key value : List ℕ) (is : List Item) (at : ℕ) (l : IsLastAt (λ i. is_entry_of key (item_of buffer i)) is at)
    → set_put editor key value (items_of buffer is) ≡ changed_put editor.around value (item_of buffer l.found)
set_put_at buffer editor key value is at l =
    let k = last_shown (is_entry_of key) (item_of buffer) is at l in
    found (last_or None (filter (is_entry_of key) (items_of buffer is)))
    (ap (λ xs. last_or None (filter (is_entry_of key) xs)) k.is ∙ last_passing (is_entry_of key) None k.before k.found k.behind k.passes k.none)
  where
    found : (o : Option parts.Item) → o ≡ Some (item_of buffer l.found)
        → elim o as (λ _. ℕ) [ None ↦ line_put editor key (Some value) None | Some i ↦ changed_put editor.around value i ] ≡ changed_put editor.around value (item_of buffer l.found)
    found o e = rw e refl

pub set_put_new : (editor : Editor) (key value : List ℕ) (items : List parts.Item) → list_any (is_entry_of key) items ≡ false
    → set_put editor key value items ≡ line_put editor key (Some value) None
set_put_new editor key value items none = rw (filter_none (is_entry_of key) items none, set_put) refl

-- the entry that is found there puts so many
pub entry_put_at : (buffer : List ℕ) (editor : Editor) (key value : List ℕ) (is : List Item) (at : ℕ) (e : Entry)
    → IsLastAt (λ i. is_entry_of key (item_of buffer i)) is at → kinds.Entry e ≡ get_or is at (kinds.Entry e)
    → set_put editor key value (items_of buffer is) ≡ separator_put editor.around e + length (escaped value)
entry_put_at buffer editor key value is at e l here =
    set_put_at buffer editor key value is at l
    ∙ ap (λ i. changed_put editor.around value (item_of buffer i)) (sym (found_at (λ i. is_entry_of key (item_of buffer i)) is at (kinds.Entry e) l here))
    ∙ changed_bytes buffer editor.around e value

-- how many bytes are asked for
pub changed_len_is : (buffer : List ℕ) (editor : Editor) (key value : List ℕ) (is : List Item) (at : ℕ) (x : Item) (n : ℕ)
    → IsLastAt (λ i. is_entry_of key (item_of buffer i)) is at → x ≡ get_or is at x
    → IfEntry x (λ e. n ≡ min (separator_put editor.around e + length (escaped value)) (2 ^ 64 - 1))
    → n ≡ min (set_put editor key value (items_of buffer is)) (2 ^ 64 - 1)
changed_len_is buffer editor key value is at (kinds.Entry e) n l here len = len ∙ ap (λ m. min m (2 ^ 64 - 1)) (sym (entry_put_at buffer editor key value is at e l here))
changed_len_is buffer editor key value is at (kinds.Blanks run) n l here len =
    absurd (let no : false ≡ true = ap (λ i. is_entry_of key (item_of buffer i)) (found_at (λ i. is_entry_of key (item_of buffer i)) is at (kinds.Blanks run) l here) ∙ l.passes in cc)
changed_len_is buffer editor key value is at (kinds.LineEnds run) n l here len =
    absurd (let no : false ≡ true = ap (λ i. is_entry_of key (item_of buffer i)) (found_at (λ i. is_entry_of key (item_of buffer i)) is at (kinds.LineEnds run) l here) ∙ l.passes in cc)
changed_len_is buffer editor key value is at (kinds.Comment tag text) n l here len =
    absurd (let no : false ≡ true = ap (λ i. is_entry_of key (item_of buffer i)) (found_at (λ i. is_entry_of key (item_of buffer i)) is at (kinds.Comment tag text) l here) ∙ l.passes in cc)

-- how long the buffer would be, told of the buffer and the items as they are read
pub room_asked : (editor : Editor) (key value seen buffer : List ℕ) (read is : List Item) → seen ≡ buffer → read ≡ is
    → length seen + set_put editor key value (items_of seen read) ≡ length buffer + set_put editor key value (items_of buffer is)
room_asked editor key value seen buffer read is same items = λ i. length (same i) + set_put editor key value (items_of (same i) (items i))

-- the last place among the items as they are read is that among the items
pub place_read : (key seen buffer : List ℕ) (read is : List Item) (place : Option ℕ) → seen ≡ buffer → read ≡ is
    → IsLastPlace (λ i. is_entry_of key (item_of seen i)) read place → IsLastPlace (λ i. is_entry_of key (item_of buffer i)) is place
place_read key seen buffer read is place same items last =
    subst (λ b. IsLastPlace (λ i. is_entry_of key (item_of b i)) is place) same (subst (λ xs. IsLastPlace (λ i. is_entry_of key (item_of seen i)) xs place) items last)

-- The body in which the key's last entry has another value.
pub entry_replaced : (old new : List ℕ) (is js : List Item) (at : ℕ) (e d : Entry) (editor : states.Editor) (key value : List ℕ)
    → IsLastAt (λ i. is_entry_of key (item_of old i)) is at → kinds.Entry e ≡ get_or is at (kinds.Entry e) → IsExtended old new → AreItemsWithin (length old) is
    → Stand new (kinds.Entry d ∷ []) (with_value editor.spacing value (parts.EntryItem (entry_of old e)) ∷ [])
    → js ≡ slice_set is at (kinds.Entry d) → Stand new js (states.value_set editor key value (items_of old is))
entry_replaced old new is js at e d editor key value l here grown within stand made =
    let found = found_at (λ i. is_entry_of key (item_of old i)) is at (kinds.Entry e) l here in
    let placed : js ≡ l.before ++ kinds.Entry d ∷ l.behind =
    made ∙ ap (λ xs. slice_set xs at (kinds.Entry d)) l.is ∙ ap (λ n. slice_set (l.before ++ l.found ∷ l.behind) n (kinds.Entry d)) (sym l.place) ∙ set_at l.before l.found (kinds.Entry d) l.behind in
    let k = last_shown (is_entry_of key) (item_of old) is at l in
    let all = all_parts (ItemFits (length old)) l.before l.found l.behind (subst (AreItemsWithin (length old)) l.is within) in
    let parted = stand_both new l.before (kinds.Entry d ∷ l.behind) (items_of old l.before) (with_value editor.spacing value (parts.EntryItem (entry_of old e)) ∷ items_of old l.behind)
    (stand_more old new l.before (items_of old l.before) grown (record { shown_are = refl; within = all.0 }))
    (stand_both new (kinds.Entry d ∷ []) l.behind (with_value editor.spacing value (parts.EntryItem (entry_of old e)) ∷ []) (items_of old l.behind) stand
    (stand_more old new l.behind (items_of old l.behind) grown (record { shown_are = refl; within = all.1 }))) in
    let shown : items_of old l.before ++ with_value editor.spacing value (parts.EntryItem (entry_of old e)) ∷ items_of old l.behind ≡ states.value_set editor key value (items_of old is) =
    ap (λ x. items_of old l.before ++ with_value editor.spacing value (item_of old x) ∷ items_of old l.behind) found
    ∙ sym (value_set_at editor key value (items_of old is) (items_of old l.before) (item_of old l.found) (items_of old l.behind) k.is k.passes k.none) in
    subst (λ xs. Stand new xs (states.value_set editor key value (items_of old is))) (sym placed) (subst (Stand new (l.before ++ kinds.Entry d ∷ l.behind)) shown parted)
  where
    all_parts : {A : Type 0} (P : A → Type 0) (before : List A) (x : A) (behind : List A) → AllByRecursion P (before ++ x ∷ behind) → AllByRecursion P before × AllByRecursion P behind
    all_parts P [] x behind all = (tt, all.1)
    all_parts P (y ∷ before) x behind all = let a = all_parts P before x behind all.1 in ((all.0, a.0), a.1)

-- an entry of a key is an entry
some_entry : (key : List ℕ) (items : List parts.Item) → list_any (is_entry_of key) items ≡ true → list_any is_entry items ≡ true
some_entry key [] some = absurd (cc)
some_entry key (parts.BlanksItem run ∷ items) some = some_entry key items some
some_entry key (parts.LineEndsItem run ∷ items) some = some_entry key items some
some_entry key (parts.CommentItem tag text ∷ items) some = some_entry key items some
some_entry key (parts.EntryItem e ∷ items) some = refl

-- It puts as many bytes.
pub set_bytes_same : (editor : Editor) (line_end key value : List ℕ) (items : List parts.Item) → leading_put editor.leading + around_put editor.around ≡ blank_bytes items
    → end_put editor ≡ length line_end → set_put editor key value items ≡ set_bytes line_end key value items
set_bytes_same editor line_end key value items blanks ends = go (list_any (is_entry_of key) items) refl
  where
    changed : (i : parts.Item) → is_entry_of key i ≡ true → around_put editor.around ≡ 0 → changed_put editor.around value i ≡ length (escaped value)
    changed (parts.BlanksItem run) is none = absurd (cc)
    changed (parts.LineEndsItem run) is none = absurd (cc)
    changed (parts.CommentItem tag text) is none = absurd (cc)
    changed (parts.EntryItem e) is none = of e.assigned refl
      where
        of : (o : Option parts.Assigned) → e.assigned ≡ o → changed_put editor.around value (parts.EntryItem e) ≡ length (escaped value)
        of (Some a) at = rw at refl
        of None at = rw at (omega (arith, none))

    found : (i : parts.Item) (o : Option parts.Item) → o ≡ Some i
        → elim o as (λ _. ℕ) [ None ↦ line_put editor key (Some value) None | Some i ↦ changed_put editor.around value i ] ≡ changed_put editor.around value i
    found i o e = rw e refl

    go : (b : Bool) → list_any (is_entry_of key) items ≡ b → set_put editor key value items ≡ set_bytes line_end key value items
    go true some =
        let l = last_exists (is_entry_of key) items some in
        let none : blank_bytes items ≡ 0 = rw (some_entry key items some, blank_bytes) refl in
        let around : around_put editor.around ≡ 0 = omega (arith, blanks, none) in
        found l.1.found (last_or None (filter (is_entry_of key) items))
        (ap (λ xs. last_or None (filter (is_entry_of key) xs)) l.1.is ∙ last_passing (is_entry_of key) None l.1.before l.1.found l.1.behind l.1.passes l.1.none)
        ∙ changed l.1.found l.1.passes around ∙ sym (put_at line_end key value items l.0 l.1)
    go false none =
        let made = set_put_new editor key value items none in
        let put = put_new line_end key value items none in
        omega (arith, made, put, blanks, ends)

pub set_by_editor : (buffer : List ℕ) (editor : Editor) (line_end key value : List ℕ) (seen is : List Item) → seen ≡ is
    → editor_in buffer editor ≡ record { spacing = spacing_of (items_of buffer seen); line_end = line_end; ends = true }
    → states.value_set (editor_in buffer editor) key value (items_of buffer is) ≡ set_value line_end key value (items_of buffer is)
set_by_editor buffer editor line_end key value seen is same told =
    ap (λ e. states.value_set e key value (items_of buffer is))
    (told ∙ ap (λ xs. record { spacing = spacing_of (items_of buffer xs); line_end = line_end; ends = true }) same)

pub put_by_editor : (buffer : List ℕ) (editor : Editor) (line_end key value : List ℕ) (seen is : List Item) → seen ≡ is
    → editor_in buffer editor ≡ record { spacing = spacing_of (items_of buffer seen); line_end = line_end; ends = true }
    → leading_put editor.leading + around_put editor.around ≡ blank_bytes (items_of buffer seen)
    → set_put editor key value (items_of buffer is) ≡ set_bytes line_end key value (items_of buffer is)
put_by_editor buffer editor line_end key value seen is same told blanks =
    let on : editor.ends ≡ true = ap (λ e. e.ends) told in
    let end : bytes_of_line_end editor.line_end ≡ line_end = ap (λ e. e.line_end) told in
    let ends : end_put editor ≡ length line_end = rw (on, end_put) (ap length end) in
    set_bytes_same editor line_end key value (items_of buffer is) (blanks ∙ ap (λ xs. blank_bytes (items_of buffer xs)) same) ends
