-- The entries of a key that are meant: where they are, and which have marks.
use Rattle.std.proofs.Common.{◌≡◌, ◌+◌, ◌-◌, ◌==◌, ◌&&◌, ◌||◌, ℕ, Bool, true, false, List, [], ◌∷◌, ◌++◌, length, map, filter, take, drop, Option, Some, None, Result, Ok, Err, refl, subst, sym, ap, ◌∙◌, arith}
use Rattle.std.specs.Prelude.{OnOk, if◌then◌else◌, option_map, unwrap_or}
use Rattle.std.specs.List.{last_or, list_all, list_any}
use Rattle.std.proofs.lemmas.List.{length-append, length-map}
use Rattle.gitconf_state.specs.Edits.{RemoveMarked, apply, apply_all, numbered}
use Rattle.gitconf_state.specs.Editors.{removed_marked}
use Rattle.gitconf_state.specs.State.{SectionState, State, with_items}
use Rattle.gitconf_state.specs.Edit.{Spacing}
use Rattle.gitconf_store.proofs.Places.Numbering.{numbered_has}
use Rattle.gitconf_store.specs.Edited.{has_number}
use Rattle.gix_config.specs.SectionEditors.{IsOfNumber, edited, editor_at, number_of, told}
use Rattle.gix_config.specs.declared.file.section_mut.SectionMut.{SectionMut}
use Rattle.gix_config.specs.declared.file.section_mut.making.Error.{Error as NoEditor}
use Rattle.gix_config.specs.declared.file.section_mut.making.Error.TheVariants.{NonePasses}
use Rattle.gixcfg_core.specs.declared.trouble.Trouble.{Trouble}
use Rattle.gixcfg_core.specs.Patterns.{meant_by}
use Rattle.gixcfg_commands.specs.Meant.{marks_with, plain_holder, removals}
use Rattle.gixcfg_commands.specs.declared.meant.Holder.{Holder}

-- how many were added
pub count_behind : {A B : Type 0} (f : A → B) (old new : List A) (added : List B) → map f new ≡ map f old ++ added → length new - length old ≡ length added
count_behind f old new added is =
    let same : length new ≡ length old + length added
    = sym (length-map new f) ∙ ap length is ∙ length-append (map f old) added ∙ ap (λ n. n + length added) (length-map old f) in
    omega (arith, same)

-- no marks of no values, and none where there are no marks
pub none_with : (m : Bool) (values : List (Option (List ℕ))) (marks : List Bool) → values ≡ [] → marks_with m values marks ≡ []
none_with m [] marks none = refl
none_with m (v ∷ values) marks none = absurd (cc)

pub none_left : (m : Bool) (values : List (Option (List ℕ))) (marks : List Bool) → marks ≡ [] → marks_with m values marks ≡ []
none_left m [] marks none = refl
none_left m (v ∷ values) [] none = refl
none_left m (v ∷ values) (mark ∷ marks) none = absurd (cc)

-- marks of texts, where no bytes stand for a value that is missing, are those of entries
pub with_same : (m : Bool) (test : List ℕ → Bool) (values : List (Option (List ℕ))) → marks_with m values (map (λ v. test (unwrap_or v [])) values) ≡ map (meant_by test m) values
with_same m test [] = refl
with_same m test (None ∷ values) = ap (λ marks. m ∷ marks) (with_same m test values)
with_same m test (Some value ∷ values) = ap (λ marks. test value ∷ marks) (with_same m test values)

-- an edit of a section's items leaves all numbers
numbers_kept : (n m : ℕ) (name : List ℕ) (marks : List Bool) (ss : List SectionState)
    → list_any (λ s. s.number == n) (map (λ s. if s.number == m then with_items (removed_marked name marks) s else s) ss) ≡ list_any (λ s. s.number == n) ss
numbers_kept n m name marks [] = refl
numbers_kept n m name marks (s ∷ ss) = go (s.number == m) refl (numbers_kept n m name marks ss)
  where
    go : (b : Bool) → (s.number == m) ≡ b
        → list_any (λ s. s.number == n) (map (λ s. if s.number == m then with_items (removed_marked name marks) s else s) ss) ≡ list_any (λ s. s.number == n) ss
        → list_any (λ s. s.number == n) (map (λ s. if s.number == m then with_items (removed_marked name marks) s else s) (s ∷ ss)) ≡ list_any (λ s. s.number == n) (s ∷ ss)
    go true e later = rw e (ap (λ any. (s.number == n) || any) later)
    go false e later = rw e (ap (λ any. (s.number == n) || any) later)

pub number_kept : (n m : ℕ) (name : List ℕ) (marks : List Bool) (file : State) → has_number n (apply (RemoveMarked m name marks) file) ≡ has_number n file
number_kept n m name marks file = numbers_kept n m name marks file.sections

-- so sections stand that stood
pub still_stand : (m : ℕ) (name : List ℕ) (marks : List Bool) (file new : State) (holders : List (ℕ × ℕ)) → new ≡ apply (RemoveMarked m name marks) file
    → list_all (λ h. has_number h.0 file) holders ≡ true → list_all (λ h. has_number h.0 new) holders ≡ true
still_stand m name marks file new [] is all = refl
still_stand m name marks file new (h ∷ holders) is all = go (has_number h.0 file) refl all (λ rest. still_stand m name marks file new holders is rest)
  where
    go : (b : Bool) → has_number h.0 file ≡ b → (has_number h.0 file && list_all (λ h. has_number h.0 file) holders) ≡ true
        → (list_all (λ h. has_number h.0 file) holders ≡ true → list_all (λ h. has_number h.0 new) holders ≡ true) → list_all (λ h. has_number h.0 new) (h ∷ holders) ≡ true
    go true e rest later =
        let here : has_number h.0 new ≡ true = ap (has_number h.0) is ∙ number_kept h.0 m name marks file ∙ e in
        let more : list_all (λ h. has_number h.0 file) holders ≡ true = sym (ap (λ b. b && list_all (λ h. has_number h.0 file) holders) e) ∙ rest in
        (λ i. here i && later more i)
    go false e rest later = absurd (let no : false ≡ true = sym (ap (λ b. b && list_all (λ h. has_number h.0 file) holders) e) ∙ rest in cc)

-- one of the removals that are left is done
pub step_removed : (name : List ℕ) (marks own behind : List Bool) (h : Holder) (left next : List Holder) (file new total : State) → left ≡ h ∷ next → own ≡ take h.count marks
    → behind ≡ drop h.count marks → new ≡ apply (RemoveMarked h.id name own) file → apply_all (removals name marks (map plain_holder left)) file ≡ total
    → apply_all (removals name behind (map plain_holder next)) new ≡ total
step_removed name marks own behind h left next file new total first front back done all =
    let same : new ≡ apply (RemoveMarked h.id name (take h.count marks)) file = done ∙ ap (λ ms. apply (RemoveMarked h.id name ms) file) front in
    (λ i. apply_all (removals name (back i) (map plain_holder next)) (same i)) ∙ ap (λ hs. apply_all (removals name marks (map plain_holder hs)) file) (sym first) ∙ all

-- and its section stands, and so do the others
and_parts : (a b : Bool) → (a && b) ≡ true → (a ≡ true) × (b ≡ true)
and_parts true b is = (refl, is)
and_parts false b is = absurd (cc)

pub next_stand : (name : List ℕ) (own : List Bool) (h : Holder) (left next : List Holder) (file new : State) → left ≡ h ∷ next → new ≡ apply (RemoveMarked h.id name own) file
    → list_all (λ g. has_number g.0 file) (map plain_holder left) ≡ true → list_all (λ g. has_number g.0 new) (map plain_holder next) ≡ true
next_stand name own h left next file new first done all =
    let these : list_all (λ g. has_number g.0 file) (map plain_holder (h ∷ next)) ≡ true = sym (ap (λ hs. list_all (λ g. has_number g.0 file) (map plain_holder hs)) first) ∙ all in
    still_stand h.id name own file new (map plain_holder next) done (and_parts (has_number h.id file) (list_all (λ g. has_number g.0 file) (map plain_holder next)) these).1

-- where a section has a number, there is one of that number
last_some : (s : SectionState) (ss : List SectionState) → last_or (Some s) ss ≡ None → ⊥
last_some s [] none = absurd (cc)
last_some s (t ∷ ss) none = last_some t ss none

none_has : (n : ℕ) (ss : List SectionState) → last_or None (filter (λ s. s.number == n) ss) ≡ None → list_any (λ s. s.number == n) ss ≡ false
none_has n [] none = refl
none_has n (s ∷ ss) none = go (s.number == n) refl none (λ rest. none_has n ss rest)
  where
    go : (b : Bool) → (s.number == n) ≡ b → last_or None (filter (λ t. t.number == n) (s ∷ ss)) ≡ None
        → (last_or None (filter (λ t. t.number == n) ss) ≡ None → list_any (λ t. t.number == n) ss ≡ false) → list_any (λ t. t.number == n) (s ∷ ss) ≡ false
    go true e none later = absurd (last_some s (filter (λ t. t.number == n) ss) (rw e at none))
    go false e none later = rw e (later (rw e at none))

pub none_numbered : (n : ℕ) (file : State) → has_number n file ≡ true → numbered n file ≡ None → ⊥
none_numbered n file stands none = absurd (let no = none_has n file.sections none in cc (no, stands))

pub none_passes : {T A : Type 0} (shown : T → A) (give : SectionState → A) (n : ℕ) (file : State) (result : Result T NoEditor) → IsOfNumber shown give n file result → result ≡ Err NonePasses
    → numbered n file ≡ None
none_passes shown give n file result is none = subst (λ r. IsOfNumber shown give n file r) none is

-- the editor of the section of a number has that number
pub found_number : (n : ℕ) (file : State) (e : SectionMut Spacing) → option_map (editor_at file) (numbered n file) ≡ Some (told e) → number_of e ≡ n
found_number n file e is = go (numbered n file) refl is
  where
    go : (o : Option SectionState) → numbered n file ≡ o → option_map (editor_at file) o ≡ Some (told e) → number_of e ≡ n
    go None same none = absurd (cc)
    go (Some s) same found = let these : editor_at file s ≡ told e = cc in sym (ap (λ t. t.0) these) ∙ numbered_has n file s (sym same)

-- what it removes is removed from the file
pub removed_told : (n : ℕ) (name : List ℕ) (marks : List Bool) (file : State) (before : SectionMut Spacing) (after : State) (result : Result (Unit {0}) Trouble) → number_of before ≡ n
    → edited before ≡ file → OnOk result (after ≡ apply (RemoveMarked (number_of before) name marks) (edited before)) → OnOk result (after ≡ apply (RemoveMarked n name marks) file)
removed_told n name marks file before after (Ok _) same here is = is ∙ (λ i. apply (RemoveMarked (same i) name marks) (here i))
removed_told n name marks file before after (Err trouble) same here is = tt
