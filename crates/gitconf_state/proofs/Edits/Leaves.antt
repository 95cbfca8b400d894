-- What edits leave: what sections say of the keys that an edit is not about.
use Rattle.std.proofs.Common.{◌≡◌, ◌⊎◌, ℕ, ◌+◌, Bool, true, false, not, List, [], ◌∷◌, ◌++◌, Option, Some, None, refl, ap, sym, ◌∙◌, append-nil, inl, inr}
use Rattle.std.specs.Prelude.{◌==◌, ◌&&◌, ◌||◌, filter, map, flat_map, if◌then◌else◌}
use Rattle.std.specs.Option.{option_eq}
use Rattle.std.specs.List.{list_any}
use Rattle.std.specs.Str.{bytes_eq}
use Rattle.std.specs.Cmp.Lexicographic.{bytes_decides}
use Rattle.std.proofs.lemmas.Bool.{or_parts}
use Rattle.std.proofs.lemmas.Grind.{flat_map-append}
use Rattle.gitconf_text.specs.Bytes.{fold}
use Rattle.gitconf_text.specs.Header.{subsection_of}
use Rattle.gitconf_text.specs.Names.{is_made_name, is_same_name, is_valid_or_none, is_value_name}
use Rattle.gitconf_text.specs.Part.{Item}
use Rattle.gitconf_text.proofs.Tests.{both_true, refuted}
use Rattle.gitconf_state.specs.State.{SectionState, State}
use Rattle.gitconf_state.specs.LineEnds.{file_line_end}
use Rattle.gitconf_state.specs.Lookup.{is_named, listing, listed, Said, said}
use Rattle.gitconf_state.specs.Edit.{made_header, new_section, is_target}
use Rattle.gitconf_state.specs.Editors.{pushed, pushed_after_last, line_end_pushed, value_set, removed, removed_marked, popped, written_at, deleted_at}
use Rattle.gitconf_state.specs.Edits.{change_numbered, change_items, renamed, with_trust, picked, without_numbered, held_behind_last, numbered_from, Edit, SetRawValue, Push, PushAfterLast, PushLineEnd, SetValue, Remove, RemoveMarked, Pop, WriteAt, DeleteAt, Rename, RenameAll, NewSection, PushSection, RemoveSection, RemoveNumbered, Append, SetTrust, SetMeta, apply, finds_or_makes, IsEdit, is_same_section, is_there, is_last_of, is_one_at, is_about}
use Rattle.gitconf_state.proofs.Edits.Values.{of_key, same_name, made_name, made_subsection, same_subsection}
use Rattle.gitconf_state.proofs.Edits.Others.{other_key, nothing_given, same_said, nothing_said, unnamed_said, named_once, set_value_leaves_keys, set_value_leaves_sections}
use Rattle.gitconf_state.proofs.Edits.KeyEntries.{added, pushed_leaves, pushed_after_last_leaves, value_set_leaves, removed_leaves, removed_marked_leaves, popped_leaves, deleted_leaves, written_leaves}
use Rattle.gitconf_state.proofs.Listings.{says, said_is}

-- of two tests the second fails where the first passes
second_fails : (a b : Bool) → a ≡ true → (a && b) ≡ false → b ≡ false
second_fails true b passes fails = fails
second_fails false b passes fails = absurd (cc)

-- the first fails where the second passes
first_fails : (a : Bool) → (a && true) ≡ false → a ≡ false
first_fails true fails = absurd (cc)
first_fails false fails = refl

-- sections that are changed: each that passes no test says what it did
mapped_said : {A B : Type 0} (give : A → List B) (test : A → Bool) (change : A → A) → ((x : A) → test x ≡ false → give (change x) ≡ give x)
    → (xs : List A) → list_any test xs ≡ false → flat_map give (map change xs) ≡ flat_map give xs
mapped_said give test change same [] none = refl
mapped_said give test change same (x ∷ xs) none =
    let n = or_parts (test x) (list_any test xs) none in
    ap (λ bs. bs ++ flat_map give (map change xs)) (same x n.0) ∙ ap (λ bs. give x ++ bs) (mapped_said give test change same xs n.1)

-- sections that are removed, which say nothing
kept_said : {A B : Type 0} (give : A → List B) (test keep : A → Bool) → ((x : A) → test x ≡ false → keep x ≡ false → give x ≡ [])
    → (xs : List A) → list_any test xs ≡ false → flat_map give (filter keep xs) ≡ flat_map give xs
kept_said give test keep nothing [] none = refl
kept_said give test keep nothing (x ∷ xs) none =
    let n = or_parts (test x) (list_any test xs) none in
    go (keep x) refl n.0 (kept_said give test keep nothing xs n.1)
  where
    go : (t : Bool) → keep x ≡ t → test x ≡ false → flat_map give (filter keep xs) ≡ flat_map give xs → flat_map give (filter keep (x ∷ xs)) ≡ flat_map give (x ∷ xs)
    go true e fails later = rw e (ap (λ bs. give x ++ bs) later)
    go false e fails later = rw e (later ∙ ap (λ bs. bs ++ flat_map give xs) (sym (nothing x fails e)))

-- no element passes a test that none does
none_passes : {A : Type 0} (xs : List A) → list_any (λ (x : A). false) xs ≡ false
none_passes [] = refl
none_passes (x ∷ xs) = none_passes xs

-- names and subsections that differ
differ_so : (name : List ℕ) (subsection : Option (List ℕ)) (other : List ℕ) (other_subsection : Option (List ℕ)) → is_same_section name subsection other other_subsection ≡ false
    → (is_same_name name other ≡ false) ⊎ (subsection ≡ other_subsection → ⊥)
differ_so name subsection other other_subsection differ = go (is_same_name other name) refl
  where
    go : (t : Bool) → is_same_name other name ≡ t → (is_same_name name other ≡ false) ⊎ (subsection ≡ other_subsection → ⊥)
    go true e = inr (λ same.
        let fails = second_fails (is_same_name other name) (option_eq bytes_eq subsection other_subsection) e differ in
        let holds = ap (λ s. option_eq bytes_eq s other_subsection) same ∙ same_subsection other_subsection in
        absurd (let h = sym holds ∙ fails in cc))
    go false e = inl (refuted (is_same_name name other) (λ same.
        let turned = (bytes_decides (fold other) (fold name)).1 (sym ((bytes_decides (fold name) (fold other)).0 same)) in cc))

module _ (name : List ℕ) (subsection : Option (List ℕ)) (key : List ℕ) where
  abbrev say : SectionState → List Said
  say = says name subsection key

  -- what is said of a state by its sections
  by_sections : (one other : List SectionState) → flat_map say one ≡ flat_map say other → said name subsection key (map listing one) ≡ said name subsection key (map listing other)
  by_sections one other same = said_is name subsection key one ∙ same ∙ sym (said_is name subsection key other)

  -- the items of a section are changed, and the entries of the key stay
  items_changed : (number : ℕ) (change : List Item → List Item) (test : List Item → Bool) → ((items : List Item) → test items ≡ false → of_key key (change items) ≡ of_key key items)
      → (state : State) → is_there number name subsection test state ≡ false → said name subsection key (listed (change_items number change state)) ≡ said name subsection key (listed state)
  items_changed number change test stays state none = by_sections (map changed state.sections) state.sections (mapped_said say there changed one state.sections none)
    where
      there : SectionState → Bool
      there s = s.number == number && (is_named name subsection (listing s) && test s.items)

      with : SectionState → SectionState
      with s = record { number = s.number; header = s.header; meta = s.meta; items = change s.items; held = s.held }

      changed : SectionState → SectionState
      changed s = if s.number == number then with s else s

      one : (s : SectionState) → there s ≡ false → say (changed s) ≡ say s
      one s none = go (s.number == number) refl (is_named name subsection (listing s)) refl
        where
          go : (t : Bool) → (s.number == number) ≡ t → (n : Bool) → is_named name subsection (listing s) ≡ n → say (changed s) ≡ say s
          go false e n f = rw e refl
          go true e false f = rw e (unnamed_said name subsection key (with s) f ∙ sym (unnamed_said name subsection key s f))
          go true e true f =
              let fails = second_fails (is_named name subsection (listing s)) (test s.items) f (second_fails (s.number == number) (is_named name subsection (listing s) && test s.items) e none) in
              rw e (same_said name subsection key s (change s.items) (stays s.items fails))

  -- a section that does not have the name and subsection, nor gets it, is changed
  section_changed : (number : ℕ) (change : SectionState → SectionState) → ((s : SectionState) → is_named name subsection (listing s) ≡ false → is_named name subsection (listing (change s)) ≡ false)
      → (state : State) → is_there number name subsection (λ items. true) state ≡ false
      → said name subsection key (listed (change_numbered number change state)) ≡ said name subsection key (listed state)
  section_changed number change stays state none = by_sections (map changed state.sections) state.sections (mapped_said say there changed one state.sections none)
    where
      there : SectionState → Bool
      there s = s.number == number && (is_named name subsection (listing s) && true)

      changed : SectionState → SectionState
      changed s = if s.number == number then change s else s

      one : (s : SectionState) → there s ≡ false → say (changed s) ≡ say s
      one s none = go (s.number == number) refl
        where
          go : (t : Bool) → (s.number == number) ≡ t → say (changed s) ≡ say s
          go false e = rw e refl
          go true e =
              let fails = first_fails (is_named name subsection (listing s)) (second_fails (s.number == number) (is_named name subsection (listing s) && true) e none) in
              rw e (unnamed_said name subsection key (change s) (stays s fails) ∙ sym (unnamed_said name subsection key s fails))

  -- a section is removed
  section_removed : (number : ℕ) (state : State) → is_there number name subsection (λ items. true) state ≡ false
      → said name subsection key (listed (without_numbered number state)) ≡ said name subsection key (listed state)
  section_removed number state none =
      by_sections (filter (λ s. not (s.number == number)) state.sections) state.sections (kept_said say (λ s. s.number == number && (is_named name subsection (listing s) && true)) (λ s. not (s.number == number)) one state.sections none)
    where
      one : (s : SectionState) → (s.number == number && (is_named name subsection (listing s) && true)) ≡ false → not (s.number == number) ≡ false → say s ≡ []
      one s none out = go (s.number == number) refl
        where
          go : (t : Bool) → (s.number == number) ≡ t → say s ≡ []
          go false e = absurd (let h = rw e at out in cc)
          go true e = unnamed_said name subsection key s (first_fails (is_named name subsection (listing s)) (second_fails (s.number == number) (is_named name subsection (listing s) && true) e none))

  -- a header that is made for another section has another name
  made_apart : (new_name : List ℕ) (new_subsection : Option (List ℕ)) → is_valid_or_none new_subsection ≡ true → is_same_section new_name new_subsection name subsection ≡ false
      → (s : SectionState) → is_named name subsection (listing (renamed new_name new_subsection s)) ≡ false
  made_apart new_name new_subsection valid differ s =
      ap (λ n. is_same_name name n && option_eq bytes_eq (subsection_of (made_header new_name new_subsection)) subsection) (made_name new_name new_subsection)
      ∙ ap (λ t. is_same_name name new_name && option_eq bytes_eq t subsection) (made_subsection new_name new_subsection valid)
      ∙ differ

  -- sections under other numbers, with what is held after the last one
  renumbered : (first : ℕ) (sections : List SectionState) → list_any (λ s. is_named name subsection (listing s)) sections ≡ false → flat_map say (numbered_from first sections) ≡ []
  renumbered first [] none = refl
  renumbered first (s ∷ sections) none =
      let n = or_parts (is_named name subsection (listing s)) (list_any (λ s. is_named name subsection (listing s)) sections) none in
      ap (λ bs. bs ++ flat_map say (numbered_from (first + 1) sections)) (unnamed_said name subsection key (record { number = first; header = s.header; meta = s.meta; items = s.items; held = s.held }) n.0) ∙ renumbered (first + 1) sections n.1

  held_said : (line_end : List ℕ) (others : List Item) (sections : List SectionState) → flat_map say (held_behind_last line_end others sections) ≡ flat_map say sections
  held_said line_end others [] = refl
  held_said line_end others (s ∷ []) = refl
  held_said line_end others (s ∷ t ∷ sections) = ap (λ bs. say s ++ bs) (held_said line_end others (t ∷ sections))

  -- an entry's name is that of one key
  apart : (edited : List ℕ) → is_same_name edited key ≡ false → (other : List ℕ) → is_same_name edited other ≡ true → is_same_name key other ≡ false
  apart edited differ other same = other_key edited key other differ same

  turned : (edited : List ℕ) → is_same_name edited key ≡ false → is_same_name key edited ≡ false
  turned edited differ = other_key edited key edited differ (same_name edited)

  -- Each edit leaves what is said of a key that it is not about.
  pub leaves : (edit : Edit) (state : State) → IsEdit edit state → is_about edit name subsection key state ≡ false → said name subsection key (listed (apply edit state)) ≡ said name subsection key (listed state)
  leaves (SetRawValue edited edited_subsection edited_key keeps value) state is not_about = go (is_same_name edited_key key) refl
    where
      sections : (one other : List SectionState) → filter (λ s. is_named name subsection (listing s)) one ≡ filter (λ s. is_named name subsection (listing s)) other
          → said name subsection key (map listing one) ≡ said name subsection key (map listing other)
      sections one other same = by_named one ∙ ap (λ ss. flat_map (λ s. say s) ss) same ∙ sym (by_named other)
        where
          by_named : (ss : List SectionState) → said name subsection key (map listing ss) ≡ flat_map (λ s. say s) (filter (λ s. is_named name subsection (listing s)) ss)
          by_named ss = said_is name subsection key ss ∙ sym (kept_said say (λ s. false) (λ s. is_named name subsection (listing s)) (λ s never out. unnamed_said name subsection key s out) ss (none_passes ss))

      go : (t : Bool) → is_same_name edited_key key ≡ t → said name subsection key (listed (apply (SetRawValue edited edited_subsection edited_key keeps value) state)) ≡ said name subsection key (listed state)
      go false e = set_value_leaves_keys edited edited_subsection edited_key keeps value state name subsection key e
      go true e =
          let may = (both_true (is_value_name edited_key) (finds_or_makes edited edited_subsection keeps state) is).1 in
          let differ = second_fails (is_same_name edited_key key) (is_same_section edited edited_subsection name subsection) e not_about in
          sections (apply (SetRawValue edited edited_subsection edited_key keeps value) state).sections state.sections
          (set_value_leaves_sections edited edited_subsection edited_key keeps value state name subsection may (differ_so edited edited_subsection name subsection differ))
  leaves (Push number editor edited value comment) state is not_about =
      items_changed number (pushed editor edited value comment) (λ items. is_same_name edited key) (λ items differ. pushed_leaves key edited editor value comment items (turned edited differ)) state not_about
  leaves (PushAfterLast number editor edited value) state is not_about =
      items_changed number (pushed_after_last editor edited value) (λ items. is_same_name edited key) (λ items differ. pushed_after_last_leaves key edited editor value items (turned edited differ)) state not_about
  leaves (PushLineEnd number editor) state is not_about =
      by_sections (apply (PushLineEnd number editor) state).sections state.sections (mapped_said say (λ s. false) _ (λ s never. one s) state.sections (none_passes state.sections))
    where
      one : (s : SectionState) → say (if s.number == number then record { number = s.number; header = s.header; meta = s.meta; items = line_end_pushed editor s.items; held = s.held } else s) ≡ say s
      one s = go (s.number == number)
        where
          go : (t : Bool) → say (if t then record { number = s.number; header = s.header; meta = s.meta; items = line_end_pushed editor s.items; held = s.held } else s) ≡ say s
          go true = same_said name subsection key s (line_end_pushed editor s.items) (added key s.items _ refl)
          go false = refl
  leaves (SetValue number editor edited value) state is not_about =
      items_changed number (value_set editor edited value) (λ items. is_same_name edited key) (λ items differ. value_set_leaves key edited editor value items (turned edited differ) (apart edited differ)) state not_about
  leaves (Remove number edited) state is not_about =
      items_changed number (removed edited) (λ items. is_same_name edited key) (λ items differ. removed_leaves edited key (apart edited differ) items) state not_about
  leaves (RemoveMarked number edited marks) state is not_about =
      items_changed number (removed_marked edited marks) (λ items. is_same_name edited key) (λ items differ. removed_marked_leaves edited key (apart edited differ) marks items) state not_about
  leaves (Pop number) state is not_about = items_changed number popped (is_last_of key) (popped_leaves key) state not_about
  leaves (WriteAt number editor place instead edited value) state is not_about =
      items_changed number (written_at editor place instead edited value) (λ items. is_same_name edited key || is_one_at place key items)
      (λ items neither. let n = or_parts (is_same_name edited key) (is_one_at place key items) neither in written_leaves editor place instead edited key value items (turned edited n.0) n.1) state not_about
  leaves (DeleteAt number place) state is not_about = items_changed number (deleted_at place) (is_one_at place key) (deleted_leaves place key) state not_about
  leaves (Rename number new_name new_subsection) state is not_about =
      let n = or_parts (is_same_section new_name new_subsection name subsection) (is_there number name subsection (λ items. true) state) not_about in
      section_changed number (renamed new_name new_subsection) (λ s out. made_apart new_name new_subsection (both_true (is_made_name new_name) (is_valid_or_none new_subsection) is).1 n.0 s) state n.1
  leaves (RenameAll edited edited_subsection keeps new_name new_subsection) state is not_about =
      by_sections (apply (RenameAll edited edited_subsection keeps new_name new_subsection) state).sections state.sections (mapped_said say (λ s. false) _ (λ s never. one s) state.sections (none_passes state.sections))
    where
      one : (s : SectionState) → say (if is_target edited edited_subsection keeps s then renamed new_name new_subsection s else s) ≡ say s
      one s = go (is_target edited edited_subsection keeps s) refl
        where
          n : (is_same_section new_name new_subsection name subsection ≡ false) × (is_same_section edited edited_subsection name subsection ≡ false)
          n = or_parts (is_same_section new_name new_subsection name subsection) (is_same_section edited edited_subsection name subsection) not_about

          go : (t : Bool) → is_target edited edited_subsection keeps s ≡ t → say (if t then renamed new_name new_subsection s else s) ≡ say s
          go false e = refl
          go true e =
              let named = (both_true (is_named edited edited_subsection (listing s)) (keeps s.meta) e).0 in
              let valid = (both_true (is_made_name new_name) (is_valid_or_none new_subsection) is).1 in
              unnamed_said name subsection key (renamed new_name new_subsection s) (made_apart new_name new_subsection valid n.0 s)
              ∙ sym (unnamed_said name subsection key s (named_once edited name edited_subsection subsection s (differ_so edited edited_subsection name subsection n.1) named))
  leaves (NewSection new_name new_subsection) state is not_about =
      let made = record (new_section new_name new_subsection state) { number = state.next } in
      by_sections (apply (NewSection new_name new_subsection) state).sections state.sections (nothing_given say state.sections made (nothing_said name subsection key made refl))
  leaves (PushSection detached) state is not_about =
      let put = record detached.section { number = state.next } in
      by_sections (apply (PushSection detached) state).sections state.sections (nothing_given say state.sections put (unnamed_said name subsection key put not_about))
  leaves (RemoveSection edited edited_subsection keeps) state is not_about = go (picked edited edited_subsection keeps state) not_about
    where
      go : (o : Option ℕ) → elim o as (λ _. Bool) [ None ↦ false | Some number ↦ is_there number name subsection (λ items. true) state ] ≡ false
          → said name subsection key (listed (elim o as (λ _. State) [ None ↦ state | Some number ↦ without_numbered number state ])) ≡ said name subsection key (listed state)
      go None none = refl
      go (Some number) none = section_removed number state none
  leaves (RemoveNumbered number) state is not_about = section_removed number state not_about
  leaves (Append other) state is not_about =
      by_sections (apply (Append other) state).sections state.sections
      (flat_map-append say (held_behind_last (file_line_end state) other.front state.sections) (numbered_from state.next other.sections)
      ∙ ap (λ bs. flat_map say (held_behind_last (file_line_end state) other.front state.sections) ++ bs) (renumbered state.next other.sections not_about)
      ∙ append-nil (flat_map say (held_behind_last (file_line_end state) other.front state.sections))
      ∙ held_said (file_line_end state) other.front state.sections)
  leaves (SetTrust number trust) state is not_about = section_changed number (with_trust trust) (λ s out. out) state not_about
  leaves (SetMeta meta) state is not_about = refl
