-- A value that is set leaves the items of a state, and blanks that are spaces and tabs.
use Rattle.std.proofs.Common.{◌≡◌, ℕ, Bool, true, false, not, List, [], ◌∷◌, ◌++◌, Option, Some, None, refl, ap, sym, ◌∙◌, append-nil, inl, inr}
use Rattle.std.specs.Prelude.{◌==◌, ◌&&◌, ◌||◌, flat_map}
use Rattle.std.specs.List.{last_or, list_all, list_any}
use Rattle.std.proofs.lemmas.List.Folds.{list_all-append}
use Rattle.std.proofs.lemmas.Bool.{or_parts}
use Rattle.gitconf_text.specs.Bytes.{is_blank, is_name_byte, is_header_byte}
use Rattle.gitconf_text.specs.Text.{begins, ends, is_line_end}
use Rattle.gitconf_text.specs.Unit.{is_white, units_of}
use Rattle.gitconf_text.specs.Value.{escaped, are_paired}
use Rattle.gitconf_text.specs.Names.{is_made_name, is_value_name, is_valid_subsection, is_valid_or_none}
use Rattle.gitconf_text.specs.Part.{Assigned, Entry, Item, BlanksItem, LineEndsItem, CommentItem, EntryItem}
use Rattle.gitconf_text.specs.Token.{item_tokens}
use Rattle.gitconf_text.proofs.ValuesEscaped.{written_fits}
use Rattle.gitconf_items.proofs.Subsections.{reads_back}
use Rattle.gitconf_text.proofs.ByteLaws.{name_byte_header}
use Rattle.gitconf_text.proofs.Tests.{both_true, false_not}
use Rattle.gitconf_text.proofs.ByteLaws.{line_end_is}
use Rattle.gitconf_sources.specs.Metadata.{Meta}
use Rattle.gitconf_state.specs.State.{SectionState, State, is_value, is_assigned, is_item, is_header, HasSectionItems, is_entry}
use Rattle.gitconf_state.specs.LineEnds.{file_line_end}
use Rattle.gitconf_state.specs.Clean.{has_blanks, IsCleanSection}
use Rattle.gitconf_state.specs.Edit.{is_entry_of, Spacing, blanks_of, before_entry, separator_blanks, spacing_of, assigned_value, with_value, new_entry, set_value, made_header, new_section, is_target, section_with}
use Rattle.gitconf_state.specs.Editors.{value_set}
use Rattle.gitconf_state.specs.Edits.{finds_or_makes}
use Rattle.gitconf_state.proofs.Loading.Filters.{both_hold}
use Rattle.gitconf_state.proofs.Printing.InsertingLineEnds.{is_told_line_end}
use Rattle.gitconf_state.proofs.Edits.Lists.{update_last_all}

-- a text that is one value
value_is : (text : List ℕ) → begins is_blank text ≡ false → are_paired false (units_of text) ≡ true → ends is_white text ≡ false
    → is_value (record { pieces = []; last = text }) ≡ true
value_is text front units end = rw (front, units, end) refl

-- What was written is a value.
pub written_is : (value : List ℕ) → is_value (record { pieces = []; last = escaped value }) ≡ true
written_is value =
    let fits = written_fits value [] (inl refl) in
    value_is (escaped value) (ap (begins is_blank) (sym (append-nil (escaped value))) ∙ fits.front) fits.units fits.end.0

-- an entry whose value was written
pub entry_is : (name blanks behind value : List ℕ) → is_value_name name ≡ true → list_all is_blank blanks ≡ true → list_all is_blank behind ≡ true
    → is_item (EntryItem (record { name = name; blanks = blanks; assigned = assigned_value behind value })) ≡ true
entry_is name blanks behind value named before spaced = rw (named, before) (both_hold (list_all is_blank behind) (is_value (record { pieces = []; last = escaped value })) spaced (written_is value))

-- what an entry of a state is
pub record EntryParts (e : Entry) : Type 0 where
  pub name : is_value_name e.name ≡ true
  pub blanks : list_all is_blank e.blanks ≡ true
  pub assigned : is_assigned e.assigned ≡ true

pub entry_parts : (e : Entry) → is_item (EntryItem e) ≡ true → EntryParts e
entry_parts e is =
    let a = both_true (is_value_name e.name && list_all is_blank e.blanks) (is_assigned e.assigned) is in
    let b = both_true (is_value_name e.name) (list_all is_blank e.blanks) a.0 in
    record { name = b.0; blanks = b.1; assigned = a.1 }

-- blanks before and after `=` are spaces and tabs
pub record FitsSpacing (first second : List ℕ) : Type 0 where
  pub before : list_all is_blank first ≡ true
  pub behind : list_all is_blank second ≡ true

separator_fits : (items : List Item) → list_all is_item items ≡ true → FitsSpacing (separator_blanks items).0 (separator_blanks items).1
separator_fits [] all = record { before = refl; behind = refl }
separator_fits (BlanksItem run ∷ items) all = separator_fits items all
separator_fits (LineEndsItem run ∷ items) all = separator_fits items (both_true (is_item (LineEndsItem run)) (list_all is_item items) all).1
separator_fits (CommentItem tag text ∷ items) all = separator_fits items (both_true (is_item (CommentItem tag text)) (list_all is_item items) all).1
separator_fits (EntryItem e ∷ items) all =
    let b = both_true (is_item (EntryItem e)) (list_all is_item items) all in
    go e.assigned refl (entry_parts e b.0) (separator_fits items b.1)
  where
    go : (o : Option Assigned) → e.assigned ≡ o → EntryParts e → FitsSpacing (separator_blanks items).0 (separator_blanks items).1
        → FitsSpacing (separator_blanks (EntryItem e ∷ items)).0 (separator_blanks (EntryItem e ∷ items)).1
    go None is parts later = rw is later
    go (Some a) is parts later =
        let h : (list_all is_blank a.blanks && is_value a.value) ≡ true = ap is_assigned (sym is) ∙ parts.assigned in
        rw is (record { before = parts.blanks; behind = (both_true (list_all is_blank a.blanks) (is_value a.value) h).0 })

-- so are those that a body has
pub spacing_fits : (items : List Item) → list_all is_item items ≡ true → FitsSpacing (spacing_of items).before (spacing_of items).behind
spacing_fits items all = go (list_any is_entry items) refl
  where
    go : (t : Bool) → list_any is_entry items ≡ t → FitsSpacing (spacing_of items).before (spacing_of items).behind
    go true e = rw (e, spacing_of) (separator_fits items all)
    go false e = rw (e, spacing_of) (record { before = refl; behind = refl })

-- an entry with another value is an item of a state
pub with_value_is : (spacing : Spacing) (value : List ℕ) (i : Item) → FitsSpacing spacing.before spacing.behind → is_item i ≡ true → is_item (with_value spacing value i) ≡ true
with_value_is spacing value (BlanksItem run) fits is = is
with_value_is spacing value (LineEndsItem run) fits is = is
with_value_is spacing value (CommentItem tag text) fits is = is
with_value_is spacing value (EntryItem e) fits is = go e.assigned refl (entry_parts e is)
  where
    go : (o : Option Assigned) → e.assigned ≡ o → EntryParts e → is_item (with_value spacing value (EntryItem e)) ≡ true
    go None at parts = rw at (entry_is e.name spacing.before spacing.behind value parts.name fits.before fits.behind)
    go (Some a) at parts =
        let h : (list_all is_blank a.blanks && is_value a.value) ≡ true = ap is_assigned (sym at) ∙ parts.assigned in
        rw at (entry_is e.name e.blanks a.blanks value parts.name parts.blanks (both_true (list_all is_blank a.blanks) (is_value a.value) h).0)

-- one line ending is a run of line endings
pub one_line_end : (line_end : List ℕ) → is_line_end line_end ≡ true → is_item (LineEndsItem line_end) ≡ true
one_line_end line_end is = elim (line_end_is line_end is) [ inl e ↦ rw e refl | inr e ↦ rw e refl ]

-- a new entry is items of a state
pub new_entry_is : (spacing : Spacing) (line_end key value : List ℕ) → FitsSpacing spacing.before spacing.behind → is_value_name key ≡ true → is_line_end line_end ≡ true
    → list_all is_item (new_entry spacing line_end key value) ≡ true
new_entry_is spacing line_end key value fits named closes = go spacing.leading refl
  where
    go : (o : Option (List ℕ)) → spacing.leading ≡ o → list_all is_item (new_entry spacing line_end key value) ≡ true
    go None e = rw e (rw (entry_is key spacing.before spacing.behind value named fits.before fits.behind, one_line_end line_end closes) refl)
    go (Some run) e = rw e (rw (entry_is key spacing.before spacing.behind value named fits.before fits.behind, one_line_end line_end closes) refl)

-- two lists that pass, one after the other
pub all_append : {A : Type 0} (p : A → Bool) (xs ys : List A) → list_all p xs ≡ true → list_all p ys ≡ true → list_all p (xs ++ ys) ≡ true
all_append p xs ys first second = list_all-append p xs ys ∙ both_hold (list_all p xs) (list_all p ys) first second

-- A body with the value is items of a state.
pub set_value_is : (line_end key value : List ℕ) (items : List Item) → is_value_name key ≡ true → is_line_end line_end ≡ true → list_all is_item items ≡ true
    → list_all is_item (set_value line_end key value items) ≡ true
set_value_is line_end key value items named closes all = go (list_any (is_entry_of key) items) refl
  where
    go : (t : Bool) → list_any (is_entry_of key) items ≡ t → list_all is_item (set_value line_end key value items) ≡ true
    go true e = rw (e, value_set) (update_last_all (is_entry_of key) (with_value (spacing_of items) value) is_item (λ i is. with_value_is (spacing_of items) value i (spacing_fits items all) is) items all)
    go false e = rw (e, value_set) (all_append is_item items (new_entry (spacing_of items) line_end key value) all (new_entry_is (spacing_of items) line_end key value (spacing_fits items all) named closes))

-- the bytes of a name may be in a header
names_stand : (name : List ℕ) → list_all is_name_byte name ≡ true → list_all is_header_byte name ≡ true
names_stand [] all = refl
names_stand (b ∷ name) all =
    let h = both_true (is_name_byte b) (list_all is_name_byte name) all in
    both_hold (is_header_byte b) (list_all is_header_byte name) (name_byte_header b h.0) (names_stand name h.1)

-- a valid subsection has no LF
pub valid_no_feed : (bytes : List ℕ) → is_valid_subsection bytes ≡ true → list_all (λ b. not (b == 10)) bytes ≡ true
valid_no_feed [] all = refl
valid_no_feed (b ∷ bytes) all =
    let h = both_true (not (b == 10 || b == 0)) (is_valid_subsection bytes) all in
    let n = (or_parts (b == 10) (b == 0) (false_not (b == 10 || b == 0) h.0)).0 in
    both_hold (not (b == 10)) (list_all (λ b. not (b == 10)) bytes) (rw n refl) (valid_no_feed bytes h.1)

-- A header that is made of such names is one of a state.
pub made_header_is : (name : List ℕ) (subsection : Option (List ℕ)) → is_made_name name ≡ true → is_valid_or_none subsection ≡ true → is_header (made_header name subsection) ≡ true
made_header_is name None made valid = made
made_header_is name (Some s) made valid = rw (names_stand name made, (reads_back s (valid_no_feed s valid)).fits) refl

-- a section with the value has items of a state
pub section_with_is : (line_end key value : List ℕ) (s : SectionState) → is_value_name key ≡ true → is_line_end line_end ≡ true → HasSectionItems s
    → HasSectionItems (section_with line_end key value s)
section_with_is line_end key value s named closes has =
    record { header = has.header; items = set_value_is line_end key value s.items named closes has.items; held = has.held }

-- the file's line ending is one
pub file_line_end_is : (state : State) → is_line_end (file_line_end state) ≡ true
file_line_end_is state = is_told_line_end (flat_map item_tokens (state.front ++ flat_map (λ s. s.items) state.sections))

-- a new section has
pub new_section_is : (name : List ℕ) (subsection : Option (List ℕ)) (state : State) → is_made_name name ≡ true → is_valid_or_none subsection ≡ true → HasSectionItems (new_section name subsection state)
new_section_is name subsection state made valid =
    record { header = made_header_is name subsection made valid; items = rw (one_line_end (file_line_end state) (file_line_end_is state)) refl; held = refl }

-- if none is, the names are such as a header may have
pub may_be_made : (name : List ℕ) (subsection : Option (List ℕ)) (keeps : Meta → Bool) (state : State) → finds_or_makes name subsection keeps state ≡ true
    → list_any (is_target name subsection keeps) state.sections ≡ false → (is_made_name name ≡ true) × (is_valid_or_none subsection ≡ true)
may_be_made name subsection keeps state may none =
    both_true (is_made_name name) (is_valid_or_none subsection) (let h : finds_or_makes name subsection keeps state ≡ true = may in rw (none, finds_or_makes) at h)

-- blanks, if there are any, are spaces and tabs
abbrev pub are_blanks : Option (List ℕ) → Bool
are_blanks None = true
are_blanks (Some run) = list_all is_blank run

leading_blank : (o : Option Item) (items : List Item) → are_blanks (blanks_of o) ≡ true → list_all has_blanks items ≡ true
    → are_blanks (blanks_of (last_or o (before_entry items))) ≡ true
leading_blank o [] is all = is
leading_blank o (BlanksItem run ∷ items) is all =
    let b = both_true (list_all is_blank run) (list_all has_blanks items) all in
    leading_blank (Some (BlanksItem run)) items b.0 b.1
leading_blank o (LineEndsItem run ∷ items) is all = leading_blank (Some (LineEndsItem run)) items refl all
leading_blank o (CommentItem tag text ∷ items) is all = leading_blank (Some (CommentItem tag text)) items refl all
leading_blank o (EntryItem e ∷ items) is all = is

-- so are those before a key
pub spacing_blank : (items : List Item) → list_all has_blanks items ≡ true → are_blanks (spacing_of items).leading ≡ true
spacing_blank items all = go (list_any is_entry items) refl
  where
    go : (t : Bool) → list_any is_entry items ≡ t → are_blanks (spacing_of items).leading ≡ true
    go true e = rw (e, spacing_of) (leading_blank None items refl all)
    go false e = rw (e, spacing_of) refl

-- those of a new entry
new_entry_blank : (spacing : Spacing) (line_end key value : List ℕ) → are_blanks spacing.leading ≡ true → list_all has_blanks (new_entry spacing line_end key value) ≡ true
new_entry_blank spacing line_end key value is = go spacing.leading refl
  where
    go : (o : Option (List ℕ)) → spacing.leading ≡ o → list_all has_blanks (new_entry spacing line_end key value) ≡ true
    go None e = rw e refl
    go (Some run) e = rw e (both_hold (list_all is_blank run) true (ap are_blanks (sym e) ∙ is) refl)

-- another value changes no blanks that stand alone
pub with_value_blank : (spacing : Spacing) (value : List ℕ) (i : Item) → has_blanks i ≡ true → has_blanks (with_value spacing value i) ≡ true
with_value_blank spacing value (BlanksItem run) is = is
with_value_blank spacing value (LineEndsItem run) is = is
with_value_blank spacing value (CommentItem tag text) is = is
with_value_blank spacing value (EntryItem e) is = go e.assigned refl
  where
    go : (o : Option Assigned) → e.assigned ≡ o → has_blanks (with_value spacing value (EntryItem e)) ≡ true
    go None at = rw at refl
    go (Some a) at = rw at refl

-- In a body with the value blanks are spaces and tabs, where they were.
pub set_value_blank : (line_end key value : List ℕ) (items : List Item) → list_all has_blanks items ≡ true → list_all has_blanks (set_value line_end key value items) ≡ true
set_value_blank line_end key value items all = go (list_any (is_entry_of key) items) refl
  where
    go : (t : Bool) → list_any (is_entry_of key) items ≡ t → list_all has_blanks (set_value line_end key value items) ≡ true
    go true e = rw (e, value_set) (update_last_all (is_entry_of key) (with_value (spacing_of items) value) has_blanks (with_value_blank (spacing_of items) value) items all)
    go false e = rw (e, value_set) (all_append has_blanks items (new_entry (spacing_of items) line_end key value) all (new_entry_blank (spacing_of items) line_end key value (spacing_blank items all)))

-- a section with the value is clean
pub section_with_clean : (line_end key value : List ℕ) (s : SectionState) → IsCleanSection s → IsCleanSection (section_with line_end key value s)
section_with_clean line_end key value s clean =
    record { named = clean.named; blanks = set_value_blank line_end key value s.items clean.blanks; held_blanks = clean.held_blanks; held = clean.held }
