-- What is left of items where an entry is taken out.
use Rattle.std.proofs.Common.{◌≡◌, ℕ, zero, suc, ◌+◌, ◌-◌, ◌≤◌, ◌<◌, true, false, List, [], ◌∷◌, ◌++◌, length, take, drop, Some, None, refl, ap, sym, subst, ◌∙◌, arith, append-nil}
use Rattle.std.specs.List.{list_any}
use Rattle.std.proofs.lemmas.List.{map-append}
use Rattle.gitconf_text.specs.Part as parts
use Rattle.gitconf_items.specs.declared.items.Item.{Item}
use Rattle.gitconf_items.specs.declared.items.Item.TheVariants as items
use Rattle.gitconf_items.specs.Items.{item_of, items_of}
use Rattle.gitconf_items.specs.ItemsFit.{AreItemsWithin, ItemFits}
use Rattle.gitconf_state.specs.State.{cut_last, is_entry}
use Rattle.gitconf_state.specs.Edit.{is_entry_of, old_value}
use Rattle.gitconf_state.specs.Editors.{key_and_meaning, removed, popped, popped_entry, without_last_blanks, without_first_line_ends}
use Rattle.gitconf_state.proofs.Edits.Cuts.{cut_at, cut_none}
use Rattle.gitconf_state.proofs.Edits.Places.{old_value_at}
use Rattle.gitconf_body.specs.Places.{IsLastAt}
use Rattle.gitconf_body.specs.Spacings.{is_stored_entry}
use Rattle.gitconf_body.specs.Taken.{begins_line_ends, is_blanks, ends_blanks, behind_line_ends, before_blanks, StayWithin}
use Rattle.gitconf_body.proofs.EntryLemmas.{all_both, last_shown}
use Rattle.gitconf_body.proofs.Spacings.{any_entry_shown}

pub ends_with : (before : List Item) (i : Item) → ends_blanks (before ++ i ∷ []) ≡ is_blanks i
ends_with [] i = refl
ends_with (j ∷ []) i = refl
ends_with (j ∷ k ∷ before) i = ends_with (k ∷ before) i

-- Line ends at a place: the items without them, and as they are.
line_ends_out : (is : List Item) (at : ℕ) → begins_line_ends (drop at is) ≡ true → take at is ++ drop (suc at) is ≡ take at is ++ behind_line_ends (drop at is)
line_ends_out [] zero there = absurd (cc)
line_ends_out [] (suc at) there = absurd (cc)
line_ends_out (items.LineEnds run ∷ is) zero there = refl
line_ends_out (items.Blanks run ∷ is) zero there = absurd (cc)
line_ends_out (items.Comment tag text ∷ is) zero there = absurd (cc)
line_ends_out (items.Entry e ∷ is) zero there = absurd (cc)
line_ends_out (i ∷ is) (suc at) there = ap (λ t. i ∷ t) (line_ends_out is at there)

next : (n : ℕ) → n + 1 ≡ suc n
next n = omega arith

pub line_ends_out_at : (is : List Item) (at : ℕ) → begins_line_ends (drop at is) ≡ true → take at is ++ drop (at + 1) is ≡ take at is ++ behind_line_ends (drop at is)
line_ends_out_at is at there = ap (λ n. take at is ++ drop n is) (next at) ∙ line_ends_out is at there

pub no_line_ends_out : (is : List Item) (at : ℕ) → begins_line_ends (drop at is) ≡ false → is ≡ take at is ++ behind_line_ends (drop at is)
no_line_ends_out [] zero none = refl
no_line_ends_out [] (suc at) none = refl
no_line_ends_out (items.LineEnds run ∷ is) zero none = absurd (cc)
no_line_ends_out (items.Blanks run ∷ is) zero none = refl
no_line_ends_out (items.Comment tag text ∷ is) zero none = refl
no_line_ends_out (items.Entry e ∷ is) zero none = refl
no_line_ends_out (i ∷ is) (suc at) none = ap (λ t. i ∷ t) (no_line_ends_out is at none)

-- Blanks before a place: some item stands before it, and the items without them; and as they are.
pub blanks_before : (is : List Item) (at : ℕ) → ends_blanks (take at is) ≡ true → 0 < at
blanks_before is zero there = absurd (cc)
blanks_before is (suc at) there = omega arith

blanks_out : (is : List Item) (at : ℕ) → ends_blanks (take (suc at) is) ≡ true → suc at ≤ length is
    → take at is ++ drop (suc at) is ≡ before_blanks (take (suc at) is) ++ drop (suc at) is
blanks_out [] at there within = absurd (cc)
blanks_out (items.Blanks run ∷ is) zero there within = refl
blanks_out (items.LineEnds run ∷ is) zero there within = absurd (cc)
blanks_out (items.Comment tag text ∷ is) zero there within = absurd (cc)
blanks_out (items.Entry e ∷ is) zero there within = absurd (cc)
blanks_out (i ∷ []) (suc at) there within = absurd (omega arith)
blanks_out (i ∷ j ∷ is) (suc at) there within = ap (λ t. i ∷ t) (blanks_out (j ∷ is) at there (omega arith))

pub blanks_out_at : (is : List Item) (at : ℕ) → ends_blanks (take at is) ≡ true → at ≤ length is
    → take (at - 1) is ++ drop (at - 1 + 1) is ≡ before_blanks (take at is) ++ drop at is
blanks_out_at is zero there within = absurd (cc)
blanks_out_at is (suc at) there within =
    let first : suc at - 1 ≡ at = omega arith in
    let same : suc at - 1 + 1 ≡ suc at = omega arith in
    (λ i. take (first i) is ++ drop (same i) is) ∙ blanks_out is at there within

pub no_blanks_out : (is : List Item) (at : ℕ) → ends_blanks (take at is) ≡ false → is ≡ before_blanks (take at is) ++ drop at is
no_blanks_out [] zero none = refl
no_blanks_out [] (suc at) none = refl
no_blanks_out (i ∷ is) zero none = refl
no_blanks_out (items.Blanks run ∷ is) (suc zero) none = absurd (cc)
no_blanks_out (items.LineEnds run ∷ is) (suc zero) none = refl
no_blanks_out (items.Comment tag text ∷ is) (suc zero) none = refl
no_blanks_out (items.Entry e ∷ is) (suc zero) none = refl
no_blanks_out (items.Blanks run ∷ []) (suc (suc at)) none = absurd (cc)
no_blanks_out (items.LineEnds run ∷ []) (suc (suc at)) none = refl
no_blanks_out (items.Comment tag text ∷ []) (suc (suc at)) none = refl
no_blanks_out (items.Entry e ∷ []) (suc (suc at)) none = refl
no_blanks_out (i ∷ j ∷ is) (suc (suc at)) none = ap (λ t. i ∷ t) (no_blanks_out (j ∷ is) (suc at) none)

-- What the items stand for is left of what they stand for.
pub blanks_shown : (buffer : List ℕ) (is : List Item) → items_of buffer (before_blanks is) ≡ without_last_blanks (items_of buffer is)
blanks_shown buffer [] = refl
blanks_shown buffer (items.Blanks run ∷ []) = refl
blanks_shown buffer (items.LineEnds run ∷ []) = refl
blanks_shown buffer (items.Comment tag text ∷ []) = refl
blanks_shown buffer (items.Entry e ∷ []) = refl
blanks_shown buffer (i ∷ j ∷ is) = ap (λ t. item_of buffer i ∷ t) (blanks_shown buffer (j ∷ is))

pub line_ends_shown : (buffer : List ℕ) (is : List Item) → items_of buffer (behind_line_ends is) ≡ without_first_line_ends (items_of buffer is)
line_ends_shown buffer [] = refl
line_ends_shown buffer (items.Blanks run ∷ is) = refl
line_ends_shown buffer (items.LineEnds run ∷ is) = refl
line_ends_shown buffer (items.Comment tag text ∷ is) = refl
line_ends_shown buffer (items.Entry e ∷ is) = refl

take_front : {A : Type 0} (before behind : List A) → take (length before) (before ++ behind) ≡ before
take_front [] behind = refl
take_front (x ∷ before) behind = ap (λ t. x ∷ t) (take_front before behind)

drop_front : {A : Type 0} (before : List A) (x : A) (behind : List A) → drop (suc (length before)) (before ++ x ∷ behind) ≡ behind
drop_front [] x behind = refl
drop_front (y ∷ before) x behind = drop_front before x behind

-- What is left behind a key's last entry that was taken out.
pub removed_at : (buffer key : List ℕ) (is js : List Item) (at : ℕ) → IsLastAt (λ i. is_entry_of key (item_of buffer i)) is at
    → js ≡ before_blanks (take at is) ++ behind_line_ends (drop (at + 1) is) → items_of buffer js ≡ removed key (items_of buffer is)
removed_at buffer key is js at l left =
    let k = last_shown (is_entry_of key) (item_of buffer) is at l in
    let before : take at is ≡ l.before = ap (take at) l.is ∙ ap (λ n. take n (l.before ++ l.found ∷ l.behind)) (sym l.place) ∙ take_front l.before (l.found ∷ l.behind) in
    let behind : drop (at + 1) is ≡ l.behind = ap (drop (at + 1)) l.is ∙ ap (λ n. drop n (l.before ++ l.found ∷ l.behind)) (next at ∙ ap suc (sym l.place)) ∙ drop_front l.before l.found l.behind in
    let cut : cut_last (is_entry_of key) (items_of buffer is) ≡ Some (items_of buffer l.before, (item_of buffer l.found, items_of buffer l.behind)) =
    ap (cut_last (is_entry_of key)) k.is ∙ cut_at (is_entry_of key) k.before k.found k.behind k.passes k.none in
    ap (items_of buffer) (left ∙ (λ i. before_blanks (before i) ++ behind_line_ends (behind i)))
    ∙ map-append (item_of buffer) (before_blanks l.before) (behind_line_ends l.behind)
    ∙ (λ i. blanks_shown buffer l.before i ++ line_ends_shown buffer l.behind i)
    ∙ rw (cut, removed) refl

-- where there is none
pub removed_none : (key : List ℕ) (is : List parts.Item) → list_any (is_entry_of key) is ≡ false → removed key is ≡ is
removed_none key is none = rw (cut_none (is_entry_of key) is none, removed) refl

-- where the place of an entry of the key is found, its value is told
pub some_old : (buffer key : List ℕ) (is : List Item) (at : ℕ) → IsLastAt (λ i. is_entry_of key (item_of buffer i)) is at → old_value key (items_of buffer is) ≡ None → ⊥
some_old buffer key is at l none =
    let k = last_shown (is_entry_of key) (item_of buffer) is at l in
    let some = old_value_at key (items_of buffer is) k.before k.found k.behind k.is k.passes k.none in
    absurd (let no = sym some ∙ none in cc)

blanks_all : (limit : ℕ) (is : List Item) → AreItemsWithin limit is → AreItemsWithin limit (before_blanks is)
blanks_all limit [] all = tt
blanks_all limit (items.Blanks run ∷ []) all = tt
blanks_all limit (items.LineEnds run ∷ []) all = all
blanks_all limit (items.Comment tag text ∷ []) all = all
blanks_all limit (items.Entry e ∷ []) all = all
blanks_all limit (i ∷ j ∷ is) all = (all.0, blanks_all limit (j ∷ is) all.1)

pub line_ends_all : (limit : ℕ) (is : List Item) → AreItemsWithin limit is → AreItemsWithin limit (behind_line_ends is)
line_ends_all limit [] all = tt
line_ends_all limit (items.Blanks run ∷ is) all = all
line_ends_all limit (items.LineEnds run ∷ is) all = all.1
line_ends_all limit (items.Comment tag text ∷ is) all = all
line_ends_all limit (items.Entry e ∷ is) all = all

pub taken_all : (limit : ℕ) (is : List Item) (n : ℕ) → AreItemsWithin limit is → AreItemsWithin limit (take n is)
taken_all limit [] zero all = tt
taken_all limit [] (suc n) all = tt
taken_all limit (i ∷ is) zero all = tt
taken_all limit (i ∷ is) (suc n) all = (all.0, taken_all limit is n all.1)

pub dropped_all : (limit : ℕ) (is : List Item) (n : ℕ) → AreItemsWithin limit is → AreItemsWithin limit (drop n is)
dropped_all limit is zero all = all
dropped_all limit [] (suc n) all = tt
dropped_all limit (i ∷ is) (suc n) all = dropped_all limit is n all.1

-- Nothing else than what stood there stands there behind it.
pub taken_within : (is js : List Item) (at : ℕ) → js ≡ before_blanks (take at is) ++ behind_line_ends (drop (at + 1) is) → StayWithin is js
taken_within is js at left limit all =
    subst (AreItemsWithin limit) (sym left) (all_both (ItemFits limit) (before_blanks (take at is)) (behind_line_ends (drop (at + 1) is))
    (blanks_all limit (take at is) (taken_all limit is at all)) (line_ends_all limit (drop (at + 1) is) (dropped_all limit is (at + 1) all)))

-- The last entry, as its items stand for it.
entry_shown : (buffer : List ℕ) (i : Item) → is_entry (item_of buffer i) ≡ is_stored_entry i
entry_shown buffer (items.Blanks run) = refl
entry_shown buffer (items.LineEnds run) = refl
entry_shown buffer (items.Comment tag text) = refl
entry_shown buffer (items.Entry e) = refl

last_entry_cut : (buffer : List ℕ) (is : List Item) (at : ℕ) (l : IsLastAt is_stored_entry is at)
    → cut_last is_entry (items_of buffer is) ≡ Some (items_of buffer l.before, (item_of buffer l.found, items_of buffer l.behind))
last_entry_cut buffer is at l =
    ap (λ xs. cut_last is_entry (items_of buffer xs)) l.is ∙ ap (cut_last is_entry) (map-append (item_of buffer) l.before (l.found ∷ l.behind))
    ∙ cut_at is_entry (items_of buffer l.before) (item_of buffer l.found) (items_of buffer l.behind) (entry_shown buffer l.found ∙ l.passes)
    (any_entry_shown buffer l.behind ∙ l.none)

-- What is left before it, and what is told of it.
pub popped_at : (buffer : List ℕ) (is js ks : List Item) (at : ℕ) → IsLastAt is_stored_entry is at → js ≡ take at is → ks ≡ before_blanks (take at js) ++ drop at js
    → items_of buffer ks ≡ popped (items_of buffer is)
popped_at buffer is js ks at l cut left =
    let before : take at is ≡ l.before = ap (take at) l.is ∙ ap (λ n. take n (l.before ++ l.found ∷ l.behind)) (sym l.place) ∙ take_front l.before (l.found ∷ l.behind) in
    let all : take at l.before ≡ l.before = ap (λ n. take n l.before) (sym l.place) ∙ front_all l.before in
    let none : drop at l.before ≡ [] = ap (λ n. drop n l.before) (sym l.place) ∙ nothing_behind l.before in
    ap (items_of buffer) (left ∙ ap (λ xs. before_blanks (take at xs) ++ drop at xs) (cut ∙ before) ∙ (λ i. before_blanks (all i) ++ none i) ∙ append-nil (before_blanks l.before))
    ∙ blanks_shown buffer l.before
    ∙ rw (last_entry_cut buffer is at l, popped) refl
  where
    front_all : (is : List Item) → take (length is) is ≡ is
    front_all [] = refl
    front_all (i ∷ is) = ap (λ t. i ∷ t) (front_all is)

    nothing_behind : (is : List Item) → drop (length is) is ≡ []
    nothing_behind [] = refl
    nothing_behind (i ∷ is) = nothing_behind is

pub popped_entry_at : (buffer : List ℕ) (is : List Item) (at : ℕ) (l : IsLastAt is_stored_entry is at) → popped_entry (items_of buffer is) ≡ key_and_meaning (item_of buffer l.found)
popped_entry_at buffer is at l = rw (last_entry_cut buffer is at l, popped_entry) refl

-- where there is none
pub popped_none : (buffer : List ℕ) (is : List Item) → list_any is_stored_entry is ≡ false → popped (items_of buffer is) ≡ []
popped_none buffer is none = rw (cut_none is_entry (items_of buffer is) (any_entry_shown buffer is ∙ none), popped) refl

pub popped_entry_none : (buffer : List ℕ) (is : List Item) → list_any is_stored_entry is ≡ false → popped_entry (items_of buffer is) ≡ None
popped_entry_none buffer is none = rw (cut_none is_entry (items_of buffer is) (any_entry_shown buffer is ∙ none), popped_entry) refl

-- something is told of an entry
entry_is_told : (buffer : List ℕ) (i : Item) → is_stored_entry i ≡ true → key_and_meaning (item_of buffer i) ≡ None → ⊥
entry_is_told buffer (items.Blanks run) passes none = cc
entry_is_told buffer (items.LineEnds run) passes none = cc
entry_is_told buffer (items.Comment tag text) passes none = cc
entry_is_told buffer (items.Entry e) passes none = cc

-- where the place of an entry is found, it is told
pub some_popped : (buffer : List ℕ) (is : List Item) (at : ℕ) → IsLastAt is_stored_entry is at → popped_entry (items_of buffer is) ≡ None → ⊥
some_popped buffer is at l none = entry_is_told buffer l.found l.passes (sym (popped_entry_at buffer is at l) ∙ none)

pub popped_within : (is js ks : List Item) (at : ℕ) → js ≡ take at is → ks ≡ before_blanks (take at js) ++ drop at js → StayWithin is ks
popped_within is js ks at cut left limit all =
    let front = subst (AreItemsWithin limit) (sym cut) (taken_all limit is at all) in
    subst (AreItemsWithin limit) (sym left) (all_both (ItemFits limit) (before_blanks (take at js)) (drop at js)
    (blanks_all limit (take at js) (taken_all limit js at front)) (dropped_all limit js at front))
