-- Items at several places that go at once.
use Rattle.std.proofs.Common.{◌≡◌, ℕ, zero, suc, ◌+◌, ◌<◌, ◌==◌, Bool, true, false, List, [], ◌∷◌, ◌++◌, length, map, take, drop, refl, ap, sym, subst, ◌∙◌, append_assoc, arith}
use Rattle.std.specs.Prelude.{if◌then◌else◌}
use Rattle.gitconf_text.specs.Part.{Item}
use Rattle.gitconf_items.specs.declared.items.Item as items
use Rattle.gitconf_state.specs.Editors.{deleted_at}
use Rattle.gitconf_state.specs.Edits.{DeleteAt, apply, change_items}
use Rattle.gitconf_state.specs.State.{HasItems, SectionState, State}
use Rattle.gitconf_state.proofs.Edits.Keep.{apply_items}
use Rattle.gitconf_items.specs.Items.{items_of}
use Rattle.gitconf_body.specs.Taken.{StayWithin}
use Rattle.gitconf_body.proofs.ValuesAt.{deleted_shown, deleted_within}
use Rattle.gitconf_views.specs.Alone.{with_items}
use Rattle.gitconf_store.specs.Several.{all_deleted}
use Rattle.gitconf_sections.specs.LeavingOut.{Ascend, without_all}
use Rattle.gitconf_store.specs.LeavingOut.{AreIn}

-- The run that ends with the last place, from the first one of it on.
pub record IsRunBack (id : ℕ) (rest before : List (ℕ × ℕ)) (first last : ℕ) : Type 0 where
  pub run : List (ℕ × ℕ)
  pub all : rest ++ (id, first) ∷ run ≡ before ++ (id, last) ∷ []
  pub ascend : Ascend (first + 1) run
  pub are_in : AreIn id run

pub begun : (id : ℕ) (before : List (ℕ × ℕ)) (last : ℕ) → IsRunBack id before before last last
begun id before last = record { run = []; all = refl; ascend = tt; are_in = tt }

pub one_more : (id : ℕ) (rest front before : List (ℕ × ℕ)) (p : ℕ × ℕ) (first last : ℕ) → rest ≡ front ++ p ∷ [] → p.0 ≡ id → p.1 < first
    → IsRunBack id rest before first last → IsRunBack id front before p.1 last
one_more id rest front before p first last is named less r = record {
  run = (id, first) ∷ r.run;
  all = ap (λ n. front ++ (n, p.1) ∷ (id, first) ∷ r.run) (sym named) ∙ sym (append_assoc front (p ∷ []) ((id, first) ∷ r.run))
      ∙ ap (λ xs. xs ++ (id, first) ∷ r.run) (sym is) ∙ r.all;
  ascend = (omega (arith, less), r.ascend);
  are_in = (refl, r.are_in);
}

behind : {A : Type 0} (xs ys : List A) → drop (length xs) (xs ++ ys) ≡ ys
behind [] ys = refl
behind (x ∷ xs) ys = behind xs ys

there : (id : ℕ) (rest before : List (ℕ × ℕ)) (first last : ℕ) (r : IsRunBack id rest before first last)
    → drop (length rest) (before ++ (id, last) ∷ []) ≡ (id, first) ∷ r.run
there id rest before first last r = ap (drop (length rest)) (sym r.all) ∙ behind rest ((id, first) ∷ r.run)

pub run_ascends : (id : ℕ) (rest before : List (ℕ × ℕ)) (first last : ℕ) → IsRunBack id rest before first last
    → Ascend 0 (drop (length rest) (before ++ (id, last) ∷ []))
run_ascends id rest before first last r = subst (Ascend 0) (sym (there id rest before first last r)) (omega arith, r.ascend)

pub run_is_in : (id : ℕ) (rest before : List (ℕ × ℕ)) (first last : ℕ) → IsRunBack id rest before first last
    → AreIn id (drop (length rest) (before ++ (id, last) ∷ []))
run_is_in id rest before first last r = subst (AreIn id) (sym (there id rest before first last r)) (refl, r.are_in)

-- A section is changed once, and once more.
abbrev chosen : (id : ℕ) → (List Item → List Item) → SectionState → SectionState
chosen id change s = if s.number == id then with_items change s else s

changed_twice : (id : ℕ) (first next : List Item → List Item) (s : SectionState) → chosen id next (chosen id first s) ≡ chosen id (λ items. next (first items)) s
changed_twice id first next s = go (s.number == id) refl
  where
    go : (b : Bool) → (s.number == id) ≡ b → chosen id next (chosen id first s) ≡ chosen id (λ items. next (first items)) s
    go true is = rw is (rw is refl)
    go false is = rw is (rw is refl)

all_twice : (id : ℕ) (first next : List Item → List Item) (ss : List SectionState) → map (chosen id next) (map (chosen id first) ss) ≡ map (chosen id (λ items. next (first items))) ss
all_twice id first next [] = refl
all_twice id first next (s ∷ ss) = λ i. changed_twice id first next s i ∷ all_twice id first next ss i

unchanged : (id : ℕ) (ss : List SectionState) → map (chosen id (λ items. items)) ss ≡ ss
unchanged id [] = refl
unchanged id (s ∷ ss) = λ i. go (s.number == id) i ∷ unchanged id ss i
  where
    go : (b : Bool) → (if b then with_items (λ items. items) s else s) ≡ s
    go true = refl
    go false = refl

-- Deletions in one section are one change of its items.
pub run_deleted : (id : ℕ) (places : List (ℕ × ℕ)) (state : State) → AreIn id places → all_deleted places state ≡ change_items id (without_all places) state
run_deleted id [] state are = λ i. record { front = state.front; meta = state.meta; next = state.next; used = state.used; sections = sym (unchanged id state.sections) i }
run_deleted id (p ∷ places) state are =
    ap (apply (DeleteAt p.0 p.1)) (run_deleted id places state are.1)
    ∙ ap (λ n. change_items n (deleted_at p.1) (change_items id (without_all places) state)) are.0
    ∙ (λ i. record { front = state.front; meta = state.meta; next = state.next; used = state.used; sections = all_twice id (without_all places) (deleted_at p.1) state.sections i })

deleted_keep : (places : List (ℕ × ℕ)) (state : State) → HasItems state → HasItems (all_deleted places state)
deleted_keep [] state has = has
deleted_keep (p ∷ places) state has = apply_items (DeleteAt p.0 p.1) (all_deleted places state) tt (deleted_keep places state has)

pub run_keeps : (id : ℕ) (places : List (ℕ × ℕ)) (state : State) → AreIn id places → HasItems state → HasItems (change_items id (without_all places) state)
run_keeps id places state are has = subst HasItems (run_deleted id places state are) (deleted_keep places state has)

-- The items, as they are stored, and what they say.
pub left_shown : (buffer : List ℕ) (places : List (ℕ × ℕ)) (is : List items.Item) → items_of buffer (without_all places is) ≡ without_all places (items_of buffer is)
left_shown buffer [] is = refl
left_shown buffer (p ∷ places) is =
    deleted_shown (without_all places is) (without_all (p ∷ places) is) p.1 refl buffer ∙ ap (deleted_at p.1) (left_shown buffer places is)

pub left_within : (places : List (ℕ × ℕ)) (is : List items.Item) → StayWithin is (without_all places is)
left_within [] is limit all = all
left_within (p ∷ places) is limit all = deleted_within (without_all places is) (without_all (p ∷ places) is) p.1 refl limit (left_within places is limit all)

-- those of the last run, and the others
pub in_two : (places : List (ℕ × ℕ)) (at : ℕ) (state : State) → all_deleted (take at places) (all_deleted (drop at places) state) ≡ all_deleted places state
in_two places zero state = refl
in_two [] (suc at) state = refl
in_two (p ∷ places) (suc at) state = ap (apply (DeleteAt p.0 p.1)) (in_two places at state)

pub ruleset leaving = (in_two)
