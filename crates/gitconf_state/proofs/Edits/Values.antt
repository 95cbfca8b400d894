-- A value that was set is the one that is found.
use Rattle.std.proofs.Common.{◌≡◌, ℕ, Bool, true, false, List, [], ◌∷◌, ◌++◌, Option, Some, None, refl, ap, sym, ◌∙◌, append_assoc}
use Rattle.std.specs.Prelude.{◌&&◌, filter, map}
use Rattle.std.specs.Option.{option_eq, option_map}
use Rattle.std.specs.List.{list_any, last_or, filter_map}
use Rattle.std.specs.Str.{bytes_eq}
use Rattle.std.specs.Cmp.Lexicographic.{bytes_decides}
use Rattle.std.proofs.lemmas.Bool.{or_parts}
use Rattle.gitconf_text.specs.Bytes.{fold}
use Rattle.gitconf_text.specs.Value.{plain, escaped}
use Rattle.gitconf_text.specs.Header.{name_of, subsection_of}
use Rattle.gitconf_text.specs.Names.{is_same_name, is_valid_or_none}
use Rattle.gitconf_text.specs.Part.{Assigned, Entry, Item, BlanksItem, LineEndsItem, CommentItem, EntryItem}
use Rattle.gitconf_text.specs.Document.{DocumentEntry, document_entry}
use Rattle.gitconf_text.proofs.ValuesEscaped.{plain-escaped}
use Rattle.gitconf_sources.specs.Metadata.{Meta}
use Rattle.gitconf_items.proofs.Subsections.{reads_back}
use Rattle.gitconf_state.specs.State.{SectionState, State, entries_of}
use Rattle.gitconf_state.specs.LineEnds.{file_line_end}
use Rattle.gitconf_state.specs.Lookup.{is_named, named, listing, listed, entries_of_key, deciding, last_value}
use Rattle.gitconf_state.specs.Edit.{is_entry_of, Spacing, spacing_of, assigned_value, with_value, leading_item, set_value, made_header, new_section, is_target, section_with, set_raw_value}
use Rattle.gitconf_state.specs.Edits.{finds_or_makes}
use Rattle.gitconf_state.proofs.Loading.Filters.{both_hold}
use Rattle.gitconf_state.proofs.Edits.Lists.{last_at, last_given, filter_both, filter-mapped, given-mapped}
use Rattle.gitconf_state.proofs.Listings.{last_value_is}
use Rattle.gitconf_state.proofs.Edits.Items.{valid_no_feed, may_be_made}
use Rattle.gitconf_state.proofs.Edits.Places.{set_value_at, set_value_new, set_raw_value_at, set_raw_value_new}

-- a name is the same as itself
pub same_name : (name : List ℕ) → is_same_name name name ≡ true
same_name name = (bytes_decides (fold name) (fold name)).1 refl

-- the entries of a key that items have
abbrev pub of_key : (key : List ℕ) → List Item → List DocumentEntry
of_key key items = filter (λ e. is_same_name key e.name) (entries_of items)

-- items without an entry of the key
pub of_key-none : (key : List ℕ) (items : List Item) → list_any (is_entry_of key) items ≡ false → of_key key items ≡ []
of_key-none key [] none = refl
of_key-none key (BlanksItem run ∷ items) none = of_key-none key items none
of_key-none key (LineEndsItem run ∷ items) none = of_key-none key items none
of_key-none key (CommentItem tag text ∷ items) none = of_key-none key items none
of_key-none key (EntryItem e ∷ items) none =
    let n = or_parts (is_same_name key e.name) (list_any (is_entry_of key) items) none in
    rw n.0 (of_key-none key items n.1)

-- the last entry of the key that items have
pub of_key-last : (key : List ℕ) (o : Option DocumentEntry) (before : List Item) (e : Entry) (behind : List Item) → is_same_name key e.name ≡ true
    → list_any (is_entry_of key) behind ≡ false → last_or o (of_key key (before ++ EntryItem e ∷ behind)) ≡ Some (document_entry e)
of_key-last key o [] e behind same none = rw same (ap (last_or (Some (document_entry e))) (of_key-none key behind none))
of_key-last key o (BlanksItem run ∷ before) e behind same none = of_key-last key o before e behind same none
of_key-last key o (LineEndsItem run ∷ before) e behind same none = of_key-last key o before e behind same none
of_key-last key o (CommentItem tag text ∷ before) e behind same none = of_key-last key o before e behind same none
of_key-last key o (EntryItem d ∷ before) e behind same none = go (is_same_name key d.name) refl (λ p. of_key-last key p before e behind same none)
  where
    go : (t : Bool) → is_same_name key d.name ≡ t → ((p : Option DocumentEntry) → last_or p (of_key key (before ++ EntryItem e ∷ behind)) ≡ Some (document_entry e))
        → last_or o (of_key key (EntryItem d ∷ (before ++ EntryItem e ∷ behind))) ≡ Some (document_entry e)
    go true is later = rw is (later (Some (document_entry d)))
    go false is later = rw is (later o)

-- an entry of this name whose value is what was written
pub record Written (name value : List ℕ) (i : Item) : Type 0 where
  pub entry : Entry
  pub is : i ≡ EntryItem entry
  pub same_name : entry.name ≡ name
  pub assigned : option_map (λ (a : Assigned). a.value) entry.assigned ≡ Some (record { pieces = []; last = escaped value })
  pub raw : (document_entry entry).raw ≡ Some (escaped value)

pub with_value_written : (spacing : Spacing) (value : List ℕ) (e : Entry) → Written e.name value (with_value spacing value (EntryItem e))
with_value_written spacing value e = go e.assigned refl
  where
    go : (o : Option Assigned) → e.assigned ≡ o → Written e.name value (with_value spacing value (EntryItem e))
    go None at = record {
      entry = record { name = e.name; blanks = spacing.before; assigned = assigned_value spacing.behind value };
      is = rw (at, with_value) refl;
      same_name = refl;
      assigned = refl;
      raw = refl;
    }
    go (Some a) at = record {
      entry = record { name = e.name; blanks = e.blanks; assigned = assigned_value a.blanks value };
      is = rw (at, with_value) refl;
      same_name = refl;
      assigned = refl;
      raw = refl;
    }

-- The key's last entry keeps its name, and has the value.
pub set_value_entry : (line_end key value : List ℕ) (items before : List Item) (e : Entry) (behind : List Item) → items ≡ before ++ EntryItem e ∷ behind
    → is_same_name key e.name ≡ true → list_any (is_entry_of key) behind ≡ false
    → (d : Entry) × (d.name ≡ e.name) × (option_map (λ (a : Assigned). a.value) d.assigned ≡ Some (record { pieces = []; last = escaped value }))
    × (set_value line_end key value items ≡ before ++ EntryItem d ∷ behind)
set_value_entry line_end key value items before e behind is same none =
    let w = with_value_written (spacing_of items) value e in
    (w.entry, w.same_name, w.assigned, set_value_at line_end key value items before (EntryItem e) behind is same none ∙ ap (λ i. before ++ i ∷ behind) w.is)

-- what decides in items, as in a section
abbrev pub decides : (key : List ℕ) → List Item → Option (List ℕ)
decides key items = deciding (of_key key items)

-- the last entry decides
decides-last : (key value : List ℕ) (before : List Item) (e : Entry) (behind : List Item) → is_same_name key e.name ≡ true → (document_entry e).raw ≡ Some (escaped value)
    → list_any (is_entry_of key) behind ≡ false → decides key (before ++ EntryItem e ∷ behind) ≡ Some (escaped value)
decides-last key value before e behind same raw none = found (last_or None (of_key key (before ++ EntryItem e ∷ behind))) (of_key-last key None before e behind same none)
  where
    found : (o : Option DocumentEntry) → o ≡ Some (document_entry e) → elim o as (λ _. Option (List ℕ)) [ None ↦ None | Some e ↦ e.raw ] ≡ Some (escaped value)
    found o is = rw is raw

-- an entry of the key is an entry
pub entry_of_key : (key : List ℕ) (i : Item) → is_entry_of key i ≡ true → (e : Entry) × (i ≡ EntryItem e) × (is_same_name key e.name ≡ true)
entry_of_key key (BlanksItem run) is = absurd (cc)
entry_of_key key (LineEndsItem run) is = absurd (cc)
entry_of_key key (CommentItem tag text) is = absurd (cc)
entry_of_key key (EntryItem e) is = (e, refl, is)

-- What was set decides in its body.
pub set_value_decides : (line_end key value : List ℕ) (items : List Item) → decides key (set_value line_end key value items) ≡ Some (escaped value)
set_value_decides line_end key value items = go (list_any (is_entry_of key) items) refl
  where
    changed : (before : List Item) (i : Item) (behind : List Item) → items ≡ before ++ i ∷ behind → is_entry_of key i ≡ true → list_any (is_entry_of key) behind ≡ false
        → (e : Entry) → i ≡ EntryItem e → is_same_name key e.name ≡ true → decides key (set_value line_end key value items) ≡ Some (escaped value)
    changed before i behind is passes none e at same =
        let w = with_value_written (spacing_of items) value e in
        let placed : set_value line_end key value items ≡ before ++ EntryItem w.entry ∷ behind =
        set_value_at line_end key value items before i behind is passes none
        ∙ ap (λ i. before ++ with_value (spacing_of items) value i ∷ behind) at ∙ ap (λ i. before ++ i ∷ behind) w.is in
        ap (decides key) placed ∙ decides-last key value before w.entry behind (ap (is_same_name key) w.same_name ∙ same) w.raw none

    added : (o : Option (List ℕ)) → (spacing_of items).leading ≡ o → list_any (is_entry_of key) items ≡ false → decides key (set_value line_end key value items) ≡ Some (escaped value)
    added o at none =
        let e : Entry = record { name = key; blanks = (spacing_of items).before; assigned = assigned_value (spacing_of items).behind value } in
        let placed : set_value line_end key value items ≡ (items ++ leading_item (spacing_of items).leading) ++ EntryItem e ∷ LineEndsItem line_end ∷ [] =
        set_value_new line_end key value items none ∙ sym (append_assoc items (leading_item (spacing_of items).leading) (EntryItem e ∷ LineEndsItem line_end ∷ [])) in
        ap (decides key) placed ∙ decides-last key value (items ++ leading_item (spacing_of items).leading) e (LineEndsItem line_end ∷ []) (same_name key) refl refl

    go : (t : Bool) → list_any (is_entry_of key) items ≡ t → decides key (set_value line_end key value items) ≡ Some (escaped value)
    go true some =
        let l = last_at (is_entry_of key) items some in
        let e = entry_of_key key l.found l.passes in
        changed l.before l.found l.behind l.is l.passes l.none e.0 e.1 e.2
    go false none = added (spacing_of items).leading refl none

-- a header that is made has the subsection
pub made_subsection : (name : List ℕ) (subsection : Option (List ℕ)) → is_valid_or_none subsection ≡ true → subsection_of (made_header name subsection) ≡ subsection
made_subsection name None valid = refl
made_subsection name (Some s) valid = ap (λ t. Some t) (reads_back s (valid_no_feed s valid)).same

pub made_name : (name : List ℕ) (subsection : Option (List ℕ)) → name_of (made_header name subsection) ≡ name
made_name name None = refl
made_name name (Some s) = refl

pub same_subsection : (subsection : Option (List ℕ)) → option_eq bytes_eq subsection subsection ≡ true
same_subsection None = refl
same_subsection (Some s) = (bytes_decides s s).1 refl

-- a new section is one of its name
pub new_section_named : (name : List ℕ) (subsection : Option (List ℕ)) (state : State) → is_valid_or_none subsection ≡ true
    → is_named name subsection (listing (new_section name subsection state)) ≡ true
new_section_named name subsection state valid =
    both_hold (is_same_name name (name_of (made_header name subsection))) (option_eq bytes_eq (subsection_of (made_header name subsection)) subsection)
    (ap (is_same_name name) (made_name name subsection) ∙ same_name name)
    (ap (λ s. option_eq bytes_eq s subsection) (made_subsection name subsection valid) ∙ same_subsection subsection)

-- where the last target has the value, it is found
found_last : (name : List ℕ) (subsection : Option (List ℕ)) (key : List ℕ) (keeps : Meta → Bool) (value : List ℕ) (state : State)
    (line_end : List ℕ) (before : List SectionState) (s : SectionState) (behind : List SectionState) → state.sections ≡ before ++ section_with line_end key value s ∷ behind
    → is_target name subsection keeps s ≡ true → list_any (is_target name subsection keeps) behind ≡ false
    → last_value name subsection key keeps (listed state) ≡ Some value
found_last name subsection key keeps value state line_end before s behind is target none =
    last_value_is name subsection key keeps (listed state)
    ∙ ap (λ ss. option_map plain (last_or None (filter_map (λ s. deciding (entries_of_key key s)) ss))) both
    ∙ ap (λ raws. option_map plain (last_or None raws)) (given-mapped (λ s. deciding (entries_of_key key s)) listing (filter (is_target name subsection keeps) state.sections))
    ∙ ap (λ sections. option_map plain (last_or None (filter_map decides_in (filter (is_target name subsection keeps) sections)))) is
    ∙ ap (option_map plain) (last_given (is_target name subsection keeps) decides_in None before (section_with line_end key value s) behind (escaped value) target none
    (set_value_decides line_end key value s.items))
    ∙ ap (λ t. Some t) (plain-escaped value)
  where
    decides_in : SectionState → Option (List ℕ)
    decides_in s = deciding (entries_of_key key (listing s))

    both : filter (λ s. keeps s.meta) (named name subsection (listed state)) ≡ map listing (filter (is_target name subsection keeps) state.sections)
    both = filter_both (is_named name subsection) (λ s. keeps s.meta) (listed state) ∙ filter-mapped (λ s. is_named name subsection s && keeps s.meta) listing state.sections

-- A value that was set is found with the same filter.
pub set_value_is_found : (name : List ℕ) (subsection : Option (List ℕ)) (key : List ℕ) (keeps : Meta → Bool) (value : List ℕ) (state : State)
    → finds_or_makes name subsection keeps state ≡ true → keeps state.meta ≡ true
    → last_value name subsection key keeps (listed (set_raw_value name subsection key keeps value state)) ≡ Some value
set_value_is_found name subsection key keeps value state may kept = go (list_any (is_target name subsection keeps) state.sections) refl
  where
    go : (t : Bool) → list_any (is_target name subsection keeps) state.sections ≡ t → last_value name subsection key keeps (listed (set_raw_value name subsection key keeps value state)) ≡ Some value
    go true some =
        let l = last_at (is_target name subsection keeps) state.sections some in
        found_last name subsection key keeps value (set_raw_value name subsection key keeps value state) (file_line_end state) l.before l.found l.behind
        (ap (λ state. state.sections) (set_raw_value_at name subsection key keeps value state l.before l.found l.behind l.is l.passes l.none)) l.passes l.none
    go false none =
        found_last name subsection key keeps value (set_raw_value name subsection key keeps value state) (file_line_end state) state.sections (new_section name subsection state) []
        (ap (λ state. state.sections) (set_raw_value_new name subsection key keeps value state none))
        (both_hold (is_named name subsection (listing (new_section name subsection state))) (keeps state.meta) (new_section_named name subsection state (may_be_made name subsection keeps state may none).1) kept) refl
