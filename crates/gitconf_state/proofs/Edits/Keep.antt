-- Edits leave a state that has items, and clean ones a clean state.
use Rattle.std.proofs.Common.{◌≡◌, ℕ, ◌+◌, Bool, true, false, not, List, [], ◌∷◌, ◌++◌, Option, Some, None, refl, ◌∙◌, sym}
use Rattle.std.specs.Prelude.{◌==◌, ◌&&◌, ◌||◌, map, filter, if◌then◌else◌}
use Rattle.std.specs.List.{list_all, list_any, AllByRecursion}
use Rattle.gitconf_text.specs.Names.{is_made_name, is_value_name, is_valid_or_none}
use Rattle.gitconf_text.specs.Part.{Item, BlanksItem, LineEndsItem, CommentItem, EntryItem}
use Rattle.gitconf_text.proofs.Tests.{both_true}
use Rattle.gitconf_text.proofs.Lists.{all_push}
use Rattle.gitconf_sources.specs.Metadata.{Meta}
use Rattle.gitconf_state.specs.State.{SectionState, State, is_item, entries_of, HasSectionItems, HasItems, is_entry}
use Rattle.gitconf_state.specs.LineEnds.{file_line_end, ends_line}
use Rattle.gitconf_state.specs.Clean.{is_nameless, has_blanks, IsCleanSection, IsClean, stand_apart}
use Rattle.gitconf_state.specs.Edit.{made_header, new_section, is_target, section_with, set_raw_value}
use Rattle.gitconf_state.specs.Editors.{pushed, pushed_after_last, line_end_pushed, value_set, removed, removed_marked, popped, written_at, deleted_at}
use Rattle.gitconf_state.specs.Edits.{change_numbered, change_items, renamed, with_trust, picked, without_numbered, begins_with, between, joined, held_behind_last, numbered_from, appended, Edit, SetRawValue, Push, PushAfterLast, PushLineEnd, SetValue, Remove, RemoveMarked, Pop, WriteAt, DeleteAt, Rename, RenameAll, NewSection, PushSection, RemoveSection, RemoveNumbered, Append, SetTrust, SetMeta, apply, apply_all, finds_or_makes, IsEdit, IsCleanEdit, AreEdits, AreCleanEdits}
use Rattle.gitconf_state.specs.Writing.{Open, Closed, after, stand_apart_behind, may_stand_behind}
use Rattle.gitconf_state.proofs.Loading.Filters.{both_hold}
use Rattle.gitconf_state.proofs.Loading.Clean.{stand_anywhere}
use Rattle.gitconf_state.proofs.Edits.Lists.{update_last_holds}
use Rattle.gitconf_state.proofs.Edits.Items.{section_with_is, file_line_end_is, new_section_is, may_be_made, made_header_is, section_with_clean, one_line_end, all_append}
use Rattle.gitconf_state.proofs.Edits.EditorItems.{pushed_is, pushed_after_last_is, pushed_after_last_blank, line_end_pushed_is, value_set_is, written_at_is, removed_all, removed_marked_all, popped_all, deleted_all, pushed_blank, line_end_pushed_blank, value_set_blank, written_at_blank}
use Rattle.gitconf_state.proofs.Printing.Written.{names_apart}

-- what holds of each section holds of those that are changed, and of some of them
holds_mapped : {A : Type 0} (P : A → Type 0) (change : A → A) → ((x : A) → P x → P (change x)) → (xs : List A) → AllByRecursion P xs → AllByRecursion P (map change xs)
holds_mapped P change holds [] all = all
holds_mapped P change holds (x ∷ xs) all = (holds x all.0, holds_mapped P change holds xs all.1)

holds_filtered : {A : Type 0} (P : A → Type 0) (test : A → Bool) (xs : List A) → AllByRecursion P xs → AllByRecursion P (filter test xs)
holds_filtered P test [] all = all
holds_filtered P test (x ∷ xs) all = go (test x) refl (holds_filtered P test xs all.1)
  where
    go : (t : Bool) → test x ≡ t → AllByRecursion P (filter test xs) → AllByRecursion P (filter test (x ∷ xs))
    go true e later = rw (e, filter) (all.0, later)
    go false e later = rw (e, filter) later

pub holds_appended : {A : Type 0} (P : A → Type 0) (xs ys : List A) → AllByRecursion P xs → AllByRecursion P ys → AllByRecursion P (xs ++ ys)
holds_appended P [] ys first second = second
holds_appended P (x ∷ xs) ys first second = (first.0, holds_appended P xs ys first.1 second)

-- one of the two is chosen
holds_chosen : {A : Type 0} (P : A → Type 0) (t : Bool) (x y : A) → P x → P y → P (if t then x else y)
holds_chosen P true x y first second = first
holds_chosen P false x y first second = second

-- The section of a number is changed.
numbered_holds : (P : SectionState → Type 0) (number : ℕ) (change : SectionState → SectionState) → ((s : SectionState) → P s → P (change s)) → (state : State)
    → AllByRecursion P state.sections → AllByRecursion P (change_numbered number change state).sections
numbered_holds P number change holds state all =
    holds_mapped P (λ s. if s.number == number then change s else s) (λ s one. holds_chosen P (s.number == number) (change s) s (holds s one) one) state.sections all

numbered_items : (number : ℕ) (change : SectionState → SectionState) → ((s : SectionState) → HasSectionItems s → HasSectionItems (change s)) → (state : State) → HasItems state → HasItems (change_numbered number change state)
numbered_items number change holds state has = record { front = has.front; sections = numbered_holds HasSectionItems number change holds state has.sections }

numbered_clean : (number : ℕ) (change : SectionState → SectionState) → ((s : SectionState) → IsCleanSection s → IsCleanSection (change s)) → (state : State) → IsClean state → IsClean (change_numbered number change state)
numbered_clean number change holds state clean = record { sections = numbered_holds IsCleanSection number change holds state clean.sections; blanks = clean.blanks; names = clean.names }

-- Its items are.
items_items : (number : ℕ) (change : List Item → List Item) → ((items : List Item) → list_all is_item items ≡ true → list_all is_item (change items) ≡ true) → (state : State) → HasItems state
    → HasItems (change_items number change state)
items_items number change holds state has = numbered_items number _ (λ s one. record { header = one.header; items = holds s.items one.items; held = one.held }) state has

items_clean : (number : ℕ) (change : List Item → List Item) → ((items : List Item) → list_all has_blanks items ≡ true → list_all has_blanks (change items) ≡ true) → (state : State) → IsClean state
    → IsClean (change_items number change state)
items_clean number change holds state clean =
    numbered_clean number _ (λ s one. record { named = one.named; blanks = holds s.items one.blanks; held_blanks = one.held_blanks; held = one.held }) state clean

-- a section with a header that is made
renamed_is : (name : List ℕ) (subsection : Option (List ℕ)) → (is_made_name name && is_valid_or_none subsection) ≡ true → (s : SectionState) → HasSectionItems s → HasSectionItems (renamed name subsection s)
renamed_is name subsection may s one =
    let b = both_true (is_made_name name) (is_valid_or_none subsection) may in
    record { header = made_header_is name subsection b.0 b.1; items = one.items; held = one.held }

renamed_clean : (name : List ℕ) (subsection : Option (List ℕ)) → is_nameless (made_header name subsection) ≡ false → (s : SectionState) → IsCleanSection s → IsCleanSection (renamed name subsection s)
renamed_clean name subsection named s one = record { named = named; blanks = one.blanks; held_blanks = one.held_blanks; held = one.held }

-- Items after items.
between_passes : (p : Item → Bool) (line_end : List ℕ) (items others : List Item) → p (LineEndsItem line_end) ≡ true → list_all p (between line_end items others) ≡ true
between_passes p line_end [] others closes = refl
between_passes p line_end (i ∷ items) others closes = go (ends_line line_end (i ∷ items) || begins_with line_end others)
  where
    go : (t : Bool) → list_all p (if t then [] else LineEndsItem line_end ∷ []) ≡ true
    go true = refl
    go false = rw closes refl

pub joined_passes : (p : Item → Bool) (line_end : List ℕ) (items others : List Item) → p (LineEndsItem line_end) ≡ true → list_all p items ≡ true → list_all p others ≡ true
    → list_all p (joined line_end items others) ≡ true
joined_passes p line_end items others closes first second =
    all_append p items (between line_end items others ++ others) first (all_append p (between line_end items others) others (between_passes p line_end items others closes) second)

-- the last section has what is held after it
pub behind_last_holds : (P : SectionState → Type 0) (line_end : List ℕ) (others : List Item)
    → ((s : SectionState) → P s → P (record { number = s.number; header = s.header; meta = s.meta; items = s.items; held = joined line_end s.held others }))
    → (sections : List SectionState) → AllByRecursion P sections → AllByRecursion P (held_behind_last line_end others sections)
behind_last_holds P line_end others holds [] all = all
behind_last_holds P line_end others holds (s ∷ []) all = (holds s all.0, tt)
behind_last_holds P line_end others holds (s ∷ t ∷ sections) all = (all.0, behind_last_holds P line_end others holds (t ∷ sections) all.1)

-- numbers change nothing else
pub numbered_from_items : (first : ℕ) (sections : List SectionState) → AllByRecursion HasSectionItems sections → AllByRecursion HasSectionItems (numbered_from first sections)
numbered_from_items first [] all = all
numbered_from_items first (s ∷ sections) all = (record { header = all.0.header; items = all.0.items; held = all.0.held }, numbered_from_items (first + 1) sections all.1)

pub numbered_from_clean : (first : ℕ) (sections : List SectionState) → AllByRecursion IsCleanSection sections → AllByRecursion IsCleanSection (numbered_from first sections)
numbered_from_clean first [] all = all
numbered_from_clean first (s ∷ sections) all =
    (record { named = all.0.named; blanks = all.0.blanks; held_blanks = all.0.held_blanks; held = all.0.held }, numbered_from_clean (first + 1) sections all.1)

-- items without an entry
pub without_entries : (items : List Item) → entries_of items ≡ [] → list_all (λ i. not (is_entry i)) items ≡ true
without_entries [] none = refl
without_entries (BlanksItem run ∷ items) none = without_entries items none
without_entries (LineEndsItem run ∷ items) none = without_entries items none
without_entries (CommentItem tag text ∷ items) none = without_entries items none
without_entries (EntryItem e ∷ items) none = absurd (cc)

-- what is apart still does with items without an entry after it
apart_behind : (before : Open) (items others : List Item) → stand_apart_behind before items ≡ true → entries_of others ≡ [] → stand_apart_behind before (items ++ others) ≡ true
apart_behind before [] others apart none = stand_anywhere before others none
apart_behind before (i ∷ items) others apart none =
    let b = both_true (may_stand_behind before i) (stand_apart_behind (after before i) items) apart in
    both_hold (may_stand_behind before i) (stand_apart_behind (after before i) (items ++ others)) b.0 (apart_behind (after before i) items others b.1 none)

between_no_entries : (line_end : List ℕ) (items others : List Item) → entries_of others ≡ [] → entries_of (between line_end items others ++ others) ≡ []
between_no_entries line_end [] others none = none
between_no_entries line_end (i ∷ items) others none = go (ends_line line_end (i ∷ items) || begins_with line_end others)
  where
    go : (t : Bool) → entries_of ((if t then [] else LineEndsItem line_end ∷ []) ++ others) ≡ []
    go true = none
    go false = none

-- A value that is set by names.
raw_items : (name : List ℕ) (subsection : Option (List ℕ)) (key : List ℕ) (keeps : Meta → Bool) (value : List ℕ) (state : State) → is_value_name key ≡ true → finds_or_makes name subsection keeps state ≡ true
    → HasItems state → HasItems (set_raw_value name subsection key keeps value state)
raw_items name subsection key keeps value state named may has = go (list_any (is_target name subsection keeps) state.sections) refl
  where
    go : (t : Bool) → list_any (is_target name subsection keeps) state.sections ≡ t → HasItems (set_raw_value name subsection key keeps value state)
    go true e = rw (e, set_raw_value) (record {
      front = has.front;
      sections = update_last_holds (is_target name subsection keeps) (section_with (file_line_end state) key value) HasSectionItems
          (λ s one. section_with_is (file_line_end state) key value s named (file_line_end_is state) one) state.sections has.sections;
    })
    go false e =
        let made = may_be_made name subsection keeps state may e in
        rw (e, set_raw_value) (record {
          front = has.front;
          sections = all_push HasSectionItems state.sections (section_with (file_line_end state) key value (new_section name subsection state)) has.sections
              (section_with_is (file_line_end state) key value (new_section name subsection state) named (file_line_end_is state) (new_section_is name subsection state made.0 made.1));
        })

raw_clean : (name : List ℕ) (subsection : Option (List ℕ)) (key : List ℕ) (keeps : Meta → Bool) (value : List ℕ) (state : State) → is_nameless (made_header name subsection) ≡ false → IsClean state
    → IsClean (set_raw_value name subsection key keeps value state)
raw_clean name subsection key keeps value state is clean = go (list_any (is_target name subsection keeps) state.sections) refl
  where
    go : (t : Bool) → list_any (is_target name subsection keeps) state.sections ≡ t → IsClean (set_raw_value name subsection key keeps value state)
    go true e = rw (e, set_raw_value) (record {
      sections = update_last_holds (is_target name subsection keeps) (section_with (file_line_end state) key value) IsCleanSection
          (λ s one. section_with_clean (file_line_end state) key value s one) state.sections clean.sections;
      blanks = clean.blanks;
      names = clean.names;
    })
    go false e = rw (e, set_raw_value) (record {
      sections = all_push IsCleanSection state.sections (section_with (file_line_end state) key value (new_section name subsection state)) clean.sections
          (section_with_clean (file_line_end state) key value (new_section name subsection state) (record { named = is; blanks = refl; held_blanks = refl; held = refl }));
      blanks = clean.blanks;
      names = clean.names;
    })

-- A section that is removed.
without_items : (number : ℕ) (state : State) → HasItems state → HasItems (without_numbered number state)
without_items number state has = record { front = has.front; sections = holds_filtered HasSectionItems (λ s. not (s.number == number)) state.sections has.sections }

without_clean : (number : ℕ) (state : State) → IsClean state → IsClean (without_numbered number state)
without_clean number state clean =
    record { sections = holds_filtered IsCleanSection (λ s. not (s.number == number)) state.sections clean.sections; blanks = clean.blanks; names = clean.names }

-- A file that is appended.
appended_items : (other state : State) → HasItems other → HasItems state → HasItems (appended other state)
appended_items other state more has = record {
  front = front state.sections;
  sections = holds_appended HasSectionItems (held_behind_last (file_line_end state) other.front state.sections) (numbered_from state.next other.sections)
      (behind_last_holds HasSectionItems (file_line_end state) other.front
      (λ s one. record { header = one.header; items = one.items; held = joined_passes is_item (file_line_end state) s.held other.front closes one.held more.front }) state.sections has.sections)
      (numbered_from_items state.next other.sections more.sections);
}
  where
    closes : is_item (LineEndsItem (file_line_end state)) ≡ true
    closes = one_line_end (file_line_end state) (file_line_end_is state)

    front : (sections : List SectionState) → list_all is_item (elim sections as (λ _. List Item) [ [] ↦ joined (file_line_end state) state.front other.front | s ∷ ss ↦ state.front ]) ≡ true
    front [] = joined_passes is_item (file_line_end state) state.front other.front closes has.front more.front
    front (s ∷ ss) = has.front

appended_clean : (other state : State) → IsClean other → entries_of other.front ≡ [] → IsClean state → IsClean (appended other state)
appended_clean other state more none clean = record {
  sections = holds_appended IsCleanSection (held_behind_last (file_line_end state) other.front state.sections) (numbered_from state.next other.sections)
      (behind_last_holds IsCleanSection (file_line_end state) other.front
      (λ s one. record {
        named = one.named;
        blanks = one.blanks;
        held_blanks = joined_passes has_blanks (file_line_end state) s.held other.front refl one.held_blanks more.blanks;
        held = joined_passes (λ i. not (is_entry i)) (file_line_end state) s.held other.front refl one.held (without_entries other.front none);
      }) state.sections clean.sections)
      (numbered_from_clean state.next other.sections more.sections);
  blanks = blanks state.sections;
  names = names state.sections;
}
  where
    blanks : (sections : List SectionState) → list_all has_blanks (elim sections as (λ _. List Item) [ [] ↦ joined (file_line_end state) state.front other.front | s ∷ ss ↦ state.front ]) ≡ true
    blanks [] = joined_passes has_blanks (file_line_end state) state.front other.front refl clean.blanks more.blanks
    blanks (s ∷ ss) = clean.blanks

    names : (sections : List SectionState) → stand_apart [] (elim sections as (λ _. List Item) [ [] ↦ joined (file_line_end state) state.front other.front | s ∷ ss ↦ state.front ]) ≡ true
    names [] = names_apart (joined (file_line_end state) state.front other.front)
        ∙ apart_behind Closed state.front (between (file_line_end state) state.front other.front ++ other.front) (sym (names_apart state.front) ∙ clean.names)
        (between_no_entries (file_line_end state) state.front other.front none)
    names (s ∷ ss) = clean.names

-- An edit leaves a state with items.
pub apply_items : (edit : Edit) (state : State) → IsEdit edit state → HasItems state → HasItems (apply edit state)
apply_items (SetRawValue name subsection key keeps value) state is has =
    let b = both_true (is_value_name key) (finds_or_makes name subsection keeps state) is in
    raw_items name subsection key keeps value state b.0 b.1 has
apply_items (Push number editor key value comment) state is has = items_items number (pushed editor key value comment) (λ items all. pushed_is editor key value comment items is.0 is.1 all) state has
apply_items (PushAfterLast number editor key value) state is has = items_items number (pushed_after_last editor key value) (λ items all. pushed_after_last_is editor key value items is.0 is.1 all) state has
apply_items (PushLineEnd number editor) state is has = items_items number (line_end_pushed editor) (λ items all. line_end_pushed_is editor items is all) state has
apply_items (SetValue number editor key value) state is has = items_items number (value_set editor key value) (λ items all. value_set_is editor key value items is.0 is.1 all) state has
apply_items (Remove number key) state is has = items_items number (removed key) (λ items all. removed_all is_item key items all) state has
apply_items (RemoveMarked number key marks) state is has = items_items number (removed_marked key marks) (λ items all. removed_marked_all is_item key marks items all) state has
apply_items (Pop number) state is has = items_items number popped (λ items all. popped_all is_item items all) state has
apply_items (WriteAt number editor place instead key value) state is has =
    items_items number (written_at editor place instead key value) (λ items all. written_at_is editor place instead key value items is.0 is.1 all) state has
apply_items (DeleteAt number place) state is has = items_items number (deleted_at place) (λ items all. deleted_all is_item place items all) state has
apply_items (Rename number name subsection) state is has = numbered_items number (renamed name subsection) (renamed_is name subsection is) state has
apply_items (RenameAll name subsection keeps new_name new_subsection) state is has = record {
  front = has.front;
  sections = holds_mapped HasSectionItems (λ s. if is_target name subsection keeps s then renamed new_name new_subsection s else s)
      (λ s one. holds_chosen HasSectionItems (is_target name subsection keeps s) (renamed new_name new_subsection s) s (renamed_is new_name new_subsection is s one) one) state.sections has.sections;
}
apply_items (NewSection name subsection) state is has =
    let b = both_true (is_made_name name) (is_valid_or_none subsection) is in
    let made = new_section_is name subsection state b.0 b.1 in
    record { front = has.front; sections = all_push HasSectionItems state.sections _ has.sections (record { header = made.header; items = made.items; held = made.held }) }
apply_items (PushSection d) state is has =
    record { front = has.front; sections = all_push HasSectionItems state.sections _ has.sections (record { header = is.header; items = is.items; held = is.held }) }
apply_items (RemoveSection name subsection keeps) state is has = go (picked name subsection keeps state) refl
  where
    go : (o : Option ℕ) → picked name subsection keeps state ≡ o → HasItems (elim o as (λ _. State) [ None ↦ state | Some number ↦ without_numbered number state ])
    go None e = has
    go (Some number) e = without_items number state has
apply_items (RemoveNumbered number) state is has = without_items number state has
apply_items (Append other) state is has = appended_items other state is has
apply_items (SetTrust number trust) state is has = numbered_items number (with_trust trust) (λ s one. record { header = one.header; items = one.items; held = one.held }) state has
apply_items (SetMeta meta) state is has = record { front = has.front; sections = has.sections }

-- An edit leaves a clean state.
pub apply_clean : (edit : Edit) (state : State) → IsCleanEdit edit → IsClean state → IsClean (apply edit state)
apply_clean (SetRawValue name subsection key keeps value) state is clean = raw_clean name subsection key keeps value state is clean
apply_clean (Push number editor key value comment) state is clean = items_clean number (pushed editor key value comment) (λ items all. pushed_blank editor key value comment items is all) state clean
apply_clean (PushAfterLast number editor key value) state is clean = items_clean number (pushed_after_last editor key value) (λ items all. pushed_after_last_blank editor key value items is all) state clean
apply_clean (PushLineEnd number editor) state is clean = items_clean number (line_end_pushed editor) (λ items all. line_end_pushed_blank editor items all) state clean
apply_clean (SetValue number editor key value) state is clean = items_clean number (value_set editor key value) (λ items all. value_set_blank editor key value items is all) state clean
apply_clean (Remove number key) state is clean = items_clean number (removed key) (λ items all. removed_all has_blanks key items all) state clean
apply_clean (RemoveMarked number key marks) state is clean = items_clean number (removed_marked key marks) (λ items all. removed_marked_all has_blanks key marks items all) state clean
apply_clean (Pop number) state is clean = items_clean number popped (λ items all. popped_all has_blanks items all) state clean
apply_clean (WriteAt number editor place instead key value) state is clean =
    items_clean number (written_at editor place instead key value) (λ items all. written_at_blank editor place instead key value items all) state clean
apply_clean (DeleteAt number place) state is clean = items_clean number (deleted_at place) (λ items all. deleted_all has_blanks place items all) state clean
apply_clean (Rename number name subsection) state is clean = numbered_clean number (renamed name subsection) (renamed_clean name subsection is) state clean
apply_clean (RenameAll name subsection keeps new_name new_subsection) state is clean = record {
  sections = holds_mapped IsCleanSection (λ s. if is_target name subsection keeps s then renamed new_name new_subsection s else s)
      (λ s one. holds_chosen IsCleanSection (is_target name subsection keeps s) (renamed new_name new_subsection s) s (renamed_clean new_name new_subsection is s one) one) state.sections clean.sections;
  blanks = clean.blanks;
  names = clean.names;
}
apply_clean (NewSection name subsection) state is clean = record {
  sections = all_push IsCleanSection state.sections _ clean.sections (record { named = is; blanks = refl; held_blanks = refl; held = refl });
  blanks = clean.blanks;
  names = clean.names;
}
apply_clean (PushSection d) state is clean = record {
  sections = all_push IsCleanSection state.sections _ clean.sections (record { named = is.named; blanks = is.blanks; held_blanks = is.held_blanks; held = is.held });
  blanks = clean.blanks;
  names = clean.names;
}
apply_clean (RemoveSection name subsection keeps) state is clean = go (picked name subsection keeps state) refl
  where
    go : (o : Option ℕ) → picked name subsection keeps state ≡ o → IsClean (elim o as (λ _. State) [ None ↦ state | Some number ↦ without_numbered number state ])
    go None e = clean
    go (Some number) e = without_clean number state clean
apply_clean (RemoveNumbered number) state is clean = without_clean number state clean
apply_clean (Append other) state is clean = appended_clean other state is.0 is.1 clean
apply_clean (SetTrust number trust) state is clean =
    numbered_clean number (with_trust trust) (λ s one. record { named = one.named; blanks = one.blanks; held_blanks = one.held_blanks; held = one.held }) state clean
apply_clean (SetMeta meta) state is clean = record { sections = clean.sections; blanks = clean.blanks; names = clean.names }

-- Edits, one after the other, leave a state with items.
pub apply_all_items : (edits : List Edit) (state : State) → AreEdits edits state → HasItems state → HasItems (apply_all edits state)
apply_all_items [] state all has = has
apply_all_items (edit ∷ edits) state all has = apply_all_items edits (apply edit state) all.1 (apply_items edit state all.0 has)

-- and a clean one
pub apply_all_clean : (edits : List Edit) (state : State) → AreCleanEdits edits → IsClean state → IsClean (apply_all edits state)
apply_all_clean [] state all clean = clean
apply_all_clean (edit ∷ edits) state all clean = apply_all_clean edits (apply edit state) all.1 (apply_clean edit state all.0 clean)
