-- Edits give no number twice, and those of editors change one section.
use Rattle.std.proofs.lemmas.Bool.{eqb-true}
use Rattle.std.proofs.Common.{◌≡◌, ℕ, ◌+◌, ◌<◌, Bool, true, false, not, List, [], ◌∷◌, ◌++◌, length, Option, Some, None, refl, ap, sym, subst, ◌∙◌, append_assoc, append-nil, arith}
use Rattle.std.specs.Prelude.{◌==◌, map, filter, if◌then◌else◌}
use Rattle.std.specs.List.{list_any, AllByRecursion}
use Rattle.gitconf_text.specs.Part.{Item}
use Rattle.gitconf_state.specs.State.{SectionState, State, AreNumbered}
use Rattle.gitconf_state.specs.LineEnds.{file_line_end}
use Rattle.gitconf_state.specs.Edit.{update_last, new_section, is_target, section_with, set_raw_value}
use Rattle.gitconf_sources.specs.Metadata.{Meta}
use Rattle.gitconf_state.proofs.Edits.Lists.{update_last_holds}
use Rattle.gitconf_state.specs.Edits.{change_numbered, renamed, with_trust, picked, without_numbered, held_behind_last, numbered_from, Edit, SetRawValue, Push, PushAfterLast, PushLineEnd, SetValue, Remove, RemoveMarked, Pop, WriteAt, DeleteAt, Rename, RenameAll, NewSection, PushSection, RemoveSection, RemoveNumbered, Append, SetTrust, SetMeta, apply, apply_all, edited_number, IsOneChanged}

-- sections that are changed keep their numbers
apart_mapped : (number : ℕ) (change : SectionState → SectionState) → ((s : SectionState) → (change s).number ≡ s.number) → (sections : List SectionState) → AllByRecursion (λ t. (t.number == number) ≡ false) sections
    → AllByRecursion (λ t. (t.number == number) ≡ false) (map change sections)
apart_mapped number change keeps [] all = all
apart_mapped number change keeps (s ∷ sections) all = (ap (λ n. n == number) (keeps s) ∙ all.0, apart_mapped number change keeps sections all.1)

mapped : (next : ℕ) (change : SectionState → SectionState) → ((s : SectionState) → (change s).number ≡ s.number) → (sections : List SectionState) → AreNumbered next sections → AreNumbered next (map change sections)
mapped next change keeps [] all = all
mapped next change keeps (s ∷ sections) all = (
  subst (λ n. n < next) (sym (keeps s)) all.0,
  subst (λ n. AllByRecursion (λ t. (t.number == n) ≡ false) (map change sections)) (sym (keeps s)) (apart_mapped s.number change keeps sections all.1),
  mapped next change keeps sections all.2,
)

-- some of them
apart_filtered : (number : ℕ) (test : SectionState → Bool) (sections : List SectionState) → AllByRecursion (λ t. (t.number == number) ≡ false) sections
    → AllByRecursion (λ t. (t.number == number) ≡ false) (filter test sections)
apart_filtered number test [] all = all
apart_filtered number test (s ∷ sections) all = go (test s) refl (apart_filtered number test sections all.1)
  where
    go : (t : Bool) → test s ≡ t → AllByRecursion (λ t. (t.number == number) ≡ false) (filter test sections) → AllByRecursion (λ t. (t.number == number) ≡ false) (filter test (s ∷ sections))
    go true e later = rw (e, filter) (all.0, later)
    go false e later = rw (e, filter) later

filtered : (next : ℕ) (test : SectionState → Bool) (sections : List SectionState) → AreNumbered next sections → AreNumbered next (filter test sections)
filtered next test [] all = all
filtered next test (s ∷ sections) all = go (test s) refl (filtered next test sections all.2)
  where
    go : (t : Bool) → test s ≡ t → AreNumbered next (filter test sections) → AreNumbered next (filter test (s ∷ sections))
    go true e later = rw (e, filter) (all.0, apart_filtered s.number test sections all.1, later)
    go false e later = rw (e, filter) later

-- a section more after all others, under the next number
below_apart : (number next : ℕ) → number < next → (next == number) ≡ false
below_apart number next below = go (next == number) refl
  where
    go : (t : Bool) → (next == number) ≡ t → t ≡ false
    go true e = let same = eqb-true next number e in absurd (omega arith)
    go false e = refl

apart_pushed : (number : ℕ) (sections : List SectionState) (t : SectionState) → AllByRecursion (λ t. (t.number == number) ≡ false) sections → (t.number == number) ≡ false
    → AllByRecursion (λ t. (t.number == number) ≡ false) (sections ++ t ∷ [])
apart_pushed number [] t all one = (one, tt)
apart_pushed number (s ∷ sections) t all one = (all.0, apart_pushed number sections t all.1 one)

pushed_last : (next : ℕ) (sections : List SectionState) (t : SectionState) → AreNumbered next sections → t.number ≡ next → AreNumbered (next + 1) (sections ++ t ∷ [])
pushed_last next [] t all is = (omega arith, tt, tt)
pushed_last next (s ∷ sections) t all is = (
  (let below = all.0 in omega arith),
  apart_pushed s.number sections t all.1 (ap (λ n. n == s.number) is ∙ below_apart s.number next all.0),
  pushed_last next sections t all.2 is,
)

-- many
pushed_all : (next : ℕ) (sections others : List SectionState) → AreNumbered next sections → AreNumbered (next + length others) (sections ++ numbered_from next others)
pushed_all next sections [] all =
    let same : next ≡ next + length {A = SectionState} [] = omega arith in
    subst (λ n. AreNumbered n (sections ++ [])) same (subst (λ ss. AreNumbered next ss) (sym (append-nil sections)) all)
pushed_all next sections (o ∷ others) all =
    let t : SectionState = record { number = next; header = o.header; meta = o.meta; items = o.items; held = o.held } in
    let later = pushed_all (next + 1) (sections ++ t ∷ []) others (pushed_last next sections t all refl) in
    let same : next + 1 + length others ≡ next + length (o ∷ others) = omega arith in
    subst (λ n. AreNumbered n (sections ++ t ∷ numbered_from (next + 1) others)) same
    (subst (λ ss. AreNumbered (next + 1 + length others) ss) (append_assoc sections (t ∷ []) (numbered_from (next + 1) others)) later)

-- the last one gets held items
apart_behind_last : (number : ℕ) (line_end : List ℕ) (others : List Item) (sections : List SectionState) → AllByRecursion (λ t. (t.number == number) ≡ false) sections
    → AllByRecursion (λ t. (t.number == number) ≡ false) (held_behind_last line_end others sections)
apart_behind_last number line_end others [] all = all
apart_behind_last number line_end others (s ∷ []) all = all
apart_behind_last number line_end others (s ∷ t ∷ sections) all = (all.0, apart_behind_last number line_end others (t ∷ sections) all.1)

pub behind_last : (next : ℕ) (line_end : List ℕ) (others : List Item) (sections : List SectionState) → AreNumbered next sections → AreNumbered next (held_behind_last line_end others sections)
behind_last next line_end others [] all = all
behind_last next line_end others (s ∷ []) all = all
behind_last next line_end others (s ∷ t ∷ sections) all = (all.0, apart_behind_last s.number line_end others (t ∷ sections) all.1, behind_last next line_end others (t ∷ sections) all.2)

-- the last that passes is changed
apart_updated : (number : ℕ) (test : SectionState → Bool) (change : SectionState → SectionState) → ((s : SectionState) → (change s).number ≡ s.number) → (sections : List SectionState)
    → AllByRecursion (λ t. (t.number == number) ≡ false) sections → AllByRecursion (λ t. (t.number == number) ≡ false) (update_last test change sections)
apart_updated number test change keeps sections all = update_last_holds test change (λ t. (t.number == number) ≡ false) (λ s one. ap (λ n. n == number) (keeps s) ∙ one) sections all

updated : (next : ℕ) (test : SectionState → Bool) (change : SectionState → SectionState) → ((s : SectionState) → (change s).number ≡ s.number) → (sections : List SectionState) → AreNumbered next sections
    → AreNumbered next (update_last test change sections)
updated next test change keeps [] all = all
updated next test change keeps (s ∷ sections) all = go (list_any test sections) refl (updated next test change keeps sections all.2)
  where
    here : (t : Bool) → AreNumbered next (elim t as (λ _. List SectionState) [ true ↦ change s ∷ sections | false ↦ s ∷ sections ])
    here true = (subst (λ n. n < next) (sym (keeps s)) all.0, subst (λ n. AllByRecursion (λ t. (t.number == n) ≡ false) sections) (sym (keeps s)) all.1, all.2)
    here false = all

    go : (t : Bool) → list_any test sections ≡ t → AreNumbered next (update_last test change sections) → AreNumbered next (update_last test change (s ∷ sections))
    go true e later = rw (e, update_last) (all.0, apart_updated s.number test change keeps sections all.1, later)
    go false e later = rw (e, update_last) (here (test s))

-- a choice between a section and one of the same number
chosen_number : (t : Bool) (s r : SectionState) → r.number ≡ s.number → (if t then r else s).number ≡ s.number
chosen_number true s r is = is
chosen_number false s r is = refl

change_numbers : (number : ℕ) (change : SectionState → SectionState) → ((s : SectionState) → (change s).number ≡ s.number) → (state : State) → AreNumbered state.next state.sections
    → AreNumbered state.next (change_numbered number change state).sections
change_numbers number change keeps state all =
    mapped state.next (λ s. if s.number == number then change s else s) (λ s. chosen_number (s.number == number) s (change s) (keeps s)) state.sections all

raw_numbers : (name : List ℕ) (subsection : Option (List ℕ)) (key : List ℕ) (keeps : Meta → Bool) (value : List ℕ) (state : State) → AreNumbered state.next state.sections
    → AreNumbered (set_raw_value name subsection key keeps value state).next (set_raw_value name subsection key keeps value state).sections
raw_numbers name subsection key keeps value state all = go (list_any (is_target name subsection keeps) state.sections) refl
  where
    go : (t : Bool) → list_any (is_target name subsection keeps) state.sections ≡ t
        → AreNumbered (set_raw_value name subsection key keeps value state).next (set_raw_value name subsection key keeps value state).sections
    go true e = rw (e, set_raw_value) (updated state.next (is_target name subsection keeps) (section_with (file_line_end state) key value) (λ s. refl) state.sections all)
    go false e = rw (e, set_raw_value) (pushed_last state.next state.sections (section_with (file_line_end state) key value (new_section name subsection state)) all refl)

-- An edit gives no number twice.
pub apply_numbers : (edit : Edit) (state : State) → AreNumbered state.next state.sections → AreNumbered (apply edit state).next (apply edit state).sections
apply_numbers (SetRawValue name subsection key keeps value) state all = raw_numbers name subsection key keeps value state all
apply_numbers (Push number editor key value comment) state all = change_numbers number _ (λ s. refl) state all
apply_numbers (PushAfterLast number editor key value) state all = change_numbers number _ (λ s. refl) state all
apply_numbers (PushLineEnd number editor) state all = change_numbers number _ (λ s. refl) state all
apply_numbers (SetValue number editor key value) state all = change_numbers number _ (λ s. refl) state all
apply_numbers (Remove number key) state all = change_numbers number _ (λ s. refl) state all
apply_numbers (RemoveMarked number key marks) state all = change_numbers number _ (λ s. refl) state all
apply_numbers (Pop number) state all = change_numbers number _ (λ s. refl) state all
apply_numbers (WriteAt number editor place instead key value) state all = change_numbers number _ (λ s. refl) state all
apply_numbers (DeleteAt number place) state all = change_numbers number _ (λ s. refl) state all
apply_numbers (Rename number name subsection) state all = change_numbers number (renamed name subsection) (λ s. refl) state all
apply_numbers (RenameAll name subsection keeps new_name new_subsection) state all =
    mapped state.next (λ s. if is_target name subsection keeps s then renamed new_name new_subsection s else s)
    (λ s. chosen_number (is_target name subsection keeps s) s (renamed new_name new_subsection s) refl) state.sections all
apply_numbers (NewSection name subsection) state all = pushed_last state.next state.sections _ all refl
apply_numbers (PushSection d) state all = pushed_last state.next state.sections _ all refl
apply_numbers (RemoveSection name subsection keeps) state all = go (picked name subsection keeps state)
  where
    go : (o : Option ℕ) → AreNumbered (elim o as (λ _. State) [ None ↦ state | Some number ↦ without_numbered number state ]).next
        (elim o as (λ _. State) [ None ↦ state | Some number ↦ without_numbered number state ]).sections
    go None = all
    go (Some number) = filtered state.next (λ s. not (s.number == number)) state.sections all
apply_numbers (RemoveNumbered number) state all = filtered state.next (λ s. not (s.number == number)) state.sections all
apply_numbers (Append other) state all =
    pushed_all state.next (held_behind_last (file_line_end state) other.front state.sections) other.sections (behind_last state.next (file_line_end state) other.front state.sections all)
apply_numbers (SetTrust number trust) state all = change_numbers number (with_trust trust) (λ s. refl) state all
apply_numbers (SetMeta meta) state all = all

pub apply_all_numbers : (edits : List Edit) (state : State) → AreNumbered state.next state.sections → AreNumbered (apply_all edits state).next (apply_all edits state).sections
apply_all_numbers [] state all = all
apply_all_numbers (edit ∷ edits) state all = apply_all_numbers edits (apply edit state) (apply_numbers edit state all)

-- what a filter makes of one more
filter_dropped : {A : Type 0} (test : A → Bool) (x : A) (xs : List A) → test x ≡ false → filter test (x ∷ xs) ≡ filter test xs
filter_dropped test x xs is = rw (is, filter) refl

filter_kept : {A : Type 0} (test : A → Bool) (x : A) (xs : List A) → test x ≡ true → filter test (x ∷ xs) ≡ x ∷ filter test xs
filter_kept test x xs is = rw (is, filter) refl

-- Sections of other numbers stay.
others_stay : (number : ℕ) (change : SectionState → SectionState) → ((s : SectionState) → (change s).number ≡ s.number) → (sections : List SectionState)
    → filter (λ s. not (s.number == number)) (map (λ s. if s.number == number then change s else s) sections) ≡ filter (λ s. not (s.number == number)) sections
others_stay number change keeps [] = refl
others_stay number change keeps (s ∷ sections) = go (s.number == number) refl (others_stay number change keeps sections)
  where
    other : SectionState → Bool
    other t = not (t.number == number)

    chosen : SectionState → SectionState
    chosen t = if t.number == number then change t else t

    number_stays : (chosen s).number ≡ s.number
    number_stays = chosen_number (s.number == number) s (change s) (keeps s)

    go : (t : Bool) → (s.number == number) ≡ t → filter other (map chosen sections) ≡ filter other sections → filter other (chosen s ∷ map chosen sections) ≡ filter other (s ∷ sections)
    go true e later =
        filter_dropped other (chosen s) (map chosen sections) (ap (λ n. not (n == number)) number_stays ∙ ap not e) ∙ later ∙ sym (filter_dropped other s sections (ap not e))
    go false e later =
        let same : chosen s ≡ s = rw (e, chosen) refl in
        filter_kept other (chosen s) (map chosen sections) (ap (λ n. not (n == number)) number_stays ∙ ap not e)
        ∙ (λ i. same i ∷ later i) ∙ sym (filter_kept other s sections (ap not e))

numbers_stay : (number : ℕ) (change : SectionState → SectionState) → ((s : SectionState) → (change s).number ≡ s.number) → (sections : List SectionState)
    → map (λ s. s.number) (map (λ s. if s.number == number then change s else s) sections) ≡ map (λ s. s.number) sections
numbers_stay number change keeps [] = refl
numbers_stay number change keeps (s ∷ sections) =
    let rest = numbers_stay number change keeps sections in
    λ i. chosen_number (s.number == number) s (change s) (keeps s) i ∷ rest i

one_changed : (number : ℕ) (change : SectionState → SectionState) → ((s : SectionState) → (change s).number ≡ s.number) → (state : State) → IsOneChanged number state (change_numbered number change state)
one_changed number change keeps state = record {
  front = refl;
  meta_stays = refl;
  next_stays = refl;
  used_stays = refl;
  numbers = numbers_stay number change keeps state.sections;
  others = others_stay number change keeps state.sections;
}

-- An editor's edit changes its section alone.
pub edited_one : (edit : Edit) (number : ℕ) (state : State) → edited_number edit ≡ Some number → IsOneChanged number state (apply edit state)
edited_one (SetRawValue name subsection key keeps value) number state is = absurd (cc)
edited_one (Push n editor key value comment) number state is = let same : n ≡ number = cc in rw same (one_changed number _ (λ s. refl) state)
edited_one (PushAfterLast n editor key value) number state is = let same : n ≡ number = cc in rw same (one_changed number _ (λ s. refl) state)
edited_one (PushLineEnd n editor) number state is = let same : n ≡ number = cc in rw same (one_changed number _ (λ s. refl) state)
edited_one (SetValue n editor key value) number state is = let same : n ≡ number = cc in rw same (one_changed number _ (λ s. refl) state)
edited_one (Remove n key) number state is = let same : n ≡ number = cc in rw same (one_changed number _ (λ s. refl) state)
edited_one (RemoveMarked n key marks) number state is = let same : n ≡ number = cc in rw same (one_changed number _ (λ s. refl) state)
edited_one (Pop n) number state is = let same : n ≡ number = cc in rw same (one_changed number _ (λ s. refl) state)
edited_one (WriteAt n editor place instead key value) number state is = let same : n ≡ number = cc in rw same (one_changed number _ (λ s. refl) state)
edited_one (DeleteAt n place) number state is = let same : n ≡ number = cc in rw same (one_changed number _ (λ s. refl) state)
edited_one (Rename n name subsection) number state is = let same : n ≡ number = cc in rw same (one_changed number (renamed name subsection) (λ s. refl) state)
edited_one (RenameAll name subsection keeps new_name new_subsection) number state is = absurd (cc)
edited_one (NewSection name subsection) number state is = absurd (cc)
edited_one (PushSection d) number state is = absurd (cc)
edited_one (RemoveSection name subsection keeps) number state is = absurd (cc)
edited_one (RemoveNumbered n) number state is = absurd (cc)
edited_one (Append other) number state is = absurd (cc)
edited_one (SetTrust n trust) number state is = let same : n ≡ number = cc in rw same (one_changed number (with_trust trust) (λ s. refl) state)
edited_one (SetMeta meta) number state is = absurd (cc)
