-- What decides among the entries of a key that a walk meets is what lookups find.
use Rattle.std.proofs.Common.{◌≡◌, ℕ, Bool, true, false, List, [], ◌∷◌, ◌++◌, Option, Some, None, map, refl, ap, sym, ◌∙◌}
use Rattle.std.specs.Prelude.{if◌then◌else◌, filter, flat_map}
use Rattle.std.specs.List.{cons_option, fold, last_or, filter_map}
use Rattle.std.specs.Option.{option_map}
use Rattle.gitconf_sources.specs.Key.{Key}
use Rattle.gitconf_text.specs.Document.{DocumentEntry, document_entry, gathered}
use Rattle.gitconf_text.specs.Header.{name_of, subsection_of}
use Rattle.gitconf_text.specs.Names.{is_same_name}
use Rattle.gitconf_text.specs.Part.{BlanksItem, LineEndsItem, CommentItem, EntryItem, Part, ItemPart, HeaderPart}
use Rattle.gitconf_text.specs.Value.{plain}
use Rattle.gitconf_state.specs.Lookup.{Listed, all_values, deciding, entries_of_key, is_named, last_value, listed, listing, meaning, named, said_by}
use Rattle.gitconf_state.specs.State.{SectionState, State, document_of, section_document}
use Rattle.gitconf_state.proofs.Listings.{last_value_is}
use Rattle.gitconf_parse.specs.Lookup.{listed_section, value_of_key, values_of_key}
use Rattle.gitconf_parse.specs.Met.{Deciding, Standing, decide, decided, is_meant, met_in, met_meaning}
use Rattle.gitconf_parse.specs.Walk.{first_standing}

filter_all : {A : Type 0} (xs : List A) → filter (λ _. true) xs ≡ xs
filter_all [] = refl
filter_all (x ∷ xs) = ap (λ ys. x ∷ ys) (filter_all xs)

-- the sections of a key
abbrev of_section : Key → List Listed → List Listed
of_section key sections = named key.section key.subsection sections

-- what decides in each section of a key in which something does
abbrev pub found_in : Key → List Listed → List (List ℕ)
found_in key sections = filter_map (λ s. deciding (entries_of_key key.name s)) (of_section key sections)

-- the entries of a key
abbrev pub entries_in : Key → List Listed → List DocumentEntry
entries_in key sections = flat_map (entries_of_key key.name) (of_section key sections)

last_is : (key : Key) (sections : List Listed) → last_value key.section key.subsection key.name (λ _. true) sections ≡ option_map plain (last_or None (found_in key sections))
last_is key sections =
    last_value_is key.section key.subsection key.name (λ _. true) sections
    ∙ ap (λ kept. option_map plain (last_or None (filter_map (λ s. deciding (entries_of_key key.name s)) kept))) (filter_all (of_section key sections))

said_entries : (name : List ℕ) (sections : List Listed) → flat_map (λ s. s.entries) (flat_map (said_by name) sections) ≡ flat_map (entries_of_key name) sections
said_entries name [] = refl
said_entries name (s ∷ sections) = go (entries_of_key name s) refl (said_entries name sections)
  where
    go : (es : List DocumentEntry) → entries_of_key name s ≡ es → flat_map (λ s. s.entries) (flat_map (said_by name) sections) ≡ flat_map (entries_of_key name) sections
        → flat_map (λ s. s.entries) (flat_map (said_by name) (s ∷ sections)) ≡ flat_map (entries_of_key name) (s ∷ sections)
    go [] e later = rw e later
    go (x ∷ es) e later = rw e (ap (λ more. (x ∷ es) ++ more) later)

all_are : (key : Key) (sections : List Listed) → all_values key.section key.subsection key.name (λ _. true) sections ≡ map meaning (entries_in key sections)
all_are key sections =
    ap (λ said. map meaning (flat_map (λ s. s.entries) said)) (filter_all (flat_map (said_by key.name) (of_section key sections)))
    ∙ ap (map meaning) (said_entries key.name (of_section key sections))

-- the last value after these entries of a section, one of which is the key's last one there
abbrev over : (base now : Option (List ℕ)) → List DocumentEntry → Option (List ℕ)
over base now [] = now
over base now (e ∷ entries) = elim (deciding (e ∷ entries)) [ None ↦ base | Some raw ↦ Some raw ]

-- the entries of the key among those that follow in the section at hand
abbrev here : Key → Standing → List DocumentEntry → List DocumentEntry
here key s entries = if s.meant then filter (λ e. is_same_name key.name e.name) entries else []

-- what decides after them
abbrev after_entries : Key → Standing → Deciding → List DocumentEntry → Option (List ℕ)
after_entries key s d entries = over (if s.anew then d.1 else d.0) d.1 (here key s entries)

none_here : (key : Key) (s : Standing) → here key s [] ≡ []
none_here key s = go s.meant refl
  where
    go : (t : Bool) → s.meant ≡ t → here key s [] ≡ []
    go true e = rw e refl
    go false e = rw e refl

-- what decides in one more section
over_section : (now : Option (List ℕ)) (es : List DocumentEntry) (more : List (List ℕ)) → last_or (over now now es) more ≡ last_or now (cons_option (deciding es) more)
over_section now [] more = refl
over_section now (e ∷ es) more = by (deciding (e ∷ es))
  where
    by : (d : Option (List ℕ)) → last_or (elim d [ None ↦ now | Some raw ↦ Some raw ]) more ≡ last_or now (cons_option d more)
    by None = refl
    by (Some raw) = refl

-- one more entry of the key
over_entry : (base now : Option (List ℕ)) (e : DocumentEntry) (es : List DocumentEntry)
    → over base (elim e.raw [ None ↦ base | Some raw ↦ Some raw ]) es ≡ over base now (e ∷ es)
over_entry base now e [] = refl
over_entry base now e (f ∷ es) = refl

pub decided_ends : (key : Key) (parts : List Part) (s : Standing) (d : Deciding)
    → (fold decide d (met_in key s parts)).1 ≡ last_or (after_entries key s d (gathered parts).front) (found_in key (map listed_section (gathered parts).sections))
decided_ends key [] s d = rw (none_here key s) refl
decided_ends key (HeaderPart h ∷ parts) s d =
    decided_ends key parts (record { meant = is_meant key h; anew = true }) d ∙ section (is_meant key h) refl
  where
    front : List DocumentEntry
    front = (gathered parts).front

    more : List Listed
    more = map listed_section (gathered parts).sections

    section : (t : Bool) → is_meant key h ≡ t
        → last_or (after_entries key (record { meant = is_meant key h; anew = true }) d front) (found_in key more)
        ≡ last_or (after_entries key s d []) (found_in key (listed_section (record { name = name_of h; subsection = subsection_of h; entries = front }) ∷ more))
    section true e = rw (e, none_here key s) (over_section d.1 (filter (λ e. is_same_name key.name e.name) front) (found_in key more))
    section false e = rw (e, none_here key s) refl
decided_ends key (ItemPart (BlanksItem run) ∷ parts) s d = decided_ends key parts s d
decided_ends key (ItemPart (LineEndsItem run) ∷ parts) s d = decided_ends key parts s d
decided_ends key (ItemPart (CommentItem tag text) ∷ parts) s d = decided_ends key parts s d
decided_ends key (ItemPart (EntryItem e) ∷ parts) s d = go s.meant (is_same_name key.name e.name) refl refl (decided_ends key parts)
  where
    front : List DocumentEntry
    front = (gathered parts).front

    more : List (List ℕ)
    more = found_in key (map listed_section (gathered parts).sections)

    Later : Type 0
    Later = (s : Standing) (d : Deciding) → (fold decide d (met_in key s parts)).1 ≡ last_or (after_entries key s d front) more

    go : (t same : Bool) → s.meant ≡ t → is_same_name key.name e.name ≡ same → Later
        → (fold decide d (met_in key s (ItemPart (EntryItem e) ∷ parts))).1 ≡ last_or (after_entries key s d (document_entry e ∷ front)) more
    go false same not_meant is later = let l = later s d in rw not_meant (rw not_meant at l)
    go true false meant is later = let l = later s d in rw (meant, is) (rw meant at l)
    go true true meant is later =
        rw (meant, is) (later (record { meant = true; anew = false }) (decide d (record { anew = s.anew; raw = (document_entry e).raw }))
        ∙ ap (λ o. last_or o more) (over_entry (if s.anew then d.1 else d.0) d.1 (document_entry e) (filter (λ e. is_same_name key.name e.name) front)))

-- the meanings of all that is met are those of the entries of the key
pub meanings_met : (key : Key) (parts : List Part) (s : Standing)
    → map met_meaning (met_in key s parts) ≡ map meaning (here key s (gathered parts).front ++ entries_in key (map listed_section (gathered parts).sections))
meanings_met key [] s = rw (none_here key s) refl
meanings_met key (HeaderPart h ∷ parts) s = meanings_met key parts (record { meant = is_meant key h; anew = true }) ∙ section (is_meant key h) refl
  where
    front : List DocumentEntry
    front = (gathered parts).front

    more : List Listed
    more = map listed_section (gathered parts).sections

    section : (t : Bool) → is_meant key h ≡ t
        → map meaning (here key (record { meant = is_meant key h; anew = true }) front ++ entries_in key more)
        ≡ map meaning (here key s [] ++ entries_in key (listed_section (record { name = name_of h; subsection = subsection_of h; entries = front }) ∷ more))
    section true e = rw (e, none_here key s) refl
    section false e = rw (e, none_here key s) refl
meanings_met key (ItemPart (BlanksItem run) ∷ parts) s = meanings_met key parts s
meanings_met key (ItemPart (LineEndsItem run) ∷ parts) s = meanings_met key parts s
meanings_met key (ItemPart (CommentItem tag text) ∷ parts) s = meanings_met key parts s
meanings_met key (ItemPart (EntryItem e) ∷ parts) s = go s.meant (is_same_name key.name e.name) refl refl (meanings_met key parts)
  where
    front : List DocumentEntry
    front = (gathered parts).front

    more : List DocumentEntry
    more = entries_in key (map listed_section (gathered parts).sections)

    Later : Type 0
    Later = (s : Standing) → map met_meaning (met_in key s parts) ≡ map meaning (here key s front ++ more)

    go : (t same : Bool) → s.meant ≡ t → is_same_name key.name e.name ≡ same → Later
        → map met_meaning (met_in key s (ItemPart (EntryItem e) ∷ parts)) ≡ map meaning (here key s (document_entry e ∷ front) ++ more)
    go false same not_meant is later = let l = later s in rw not_meant (rw not_meant at l)
    go true false meant is later = let l = later s in rw (meant, is) (rw meant at l)
    go true true meant is later = rw (meant, is) (ap (λ t. meaning (document_entry e) ∷ t) (later (record { meant = true; anew = false })))

pub value_met : (key : Key) (parts : List Part) → option_map plain (decided (met_in key first_standing parts)).1 ≡ value_of_key key (gathered parts)
value_met key parts = ap (option_map plain) (decided_ends key parts first_standing (None, None)) ∙ sym (last_is key (map listed_section (gathered parts).sections))

pub values_met : (key : Key) (parts : List Part) → map met_meaning (met_in key first_standing parts) ≡ values_of_key key (gathered parts)
values_met key parts = meanings_met key parts first_standing ∙ sym (all_are key (map listed_section (gathered parts).sections))

-- the same is found in a file with the document, wherever its sections come from
same_found : (key : Key) (sections : List SectionState) → found_in key (map listing sections) ≡ found_in key (map listed_section (map section_document sections))
same_found key [] = refl
same_found key (s ∷ sections) = go (is_named key.section key.subsection (listing s)) refl (same_found key sections)
  where
    go : (t : Bool) → is_named key.section key.subsection (listing s) ≡ t → found_in key (map listing sections) ≡ found_in key (map listed_section (map section_document sections))
        → found_in key (map listing (s ∷ sections)) ≡ found_in key (map listed_section (map section_document (s ∷ sections)))
    go true e later = rw e (ap (cons_option (deciding (entries_of_key key.name (listing s)))) later)
    go false e later = rw e later

same_entries : (key : Key) (sections : List SectionState) → entries_in key (map listing sections) ≡ entries_in key (map listed_section (map section_document sections))
same_entries key [] = refl
same_entries key (s ∷ sections) = go (is_named key.section key.subsection (listing s)) refl (same_entries key sections)
  where
    go : (t : Bool) → is_named key.section key.subsection (listing s) ≡ t → entries_in key (map listing sections) ≡ entries_in key (map listed_section (map section_document sections))
        → entries_in key (map listing (s ∷ sections)) ≡ entries_in key (map listed_section (map section_document (s ∷ sections)))
    go true e later = rw e (ap (λ more. entries_of_key key.name (listing s) ++ more) later)
    go false e later = rw e later

pub file_value : (key : Key) (state : State) → last_value key.section key.subsection key.name (λ _. true) (listed state) ≡ value_of_key key (document_of state)
file_value key state =
    last_is key (listed state) ∙ ap (λ raws. option_map plain (last_or None raws)) (same_found key state.sections)
    ∙ sym (last_is key (map listed_section (document_of state).sections))

pub file_values : (key : Key) (state : State) → all_values key.section key.subsection key.name (λ _. true) (listed state) ≡ values_of_key key (document_of state)
file_values key state =
    all_are key (listed state) ∙ ap (map meaning) (same_entries key state.sections) ∙ sym (all_are key (map listed_section (document_of state).sections))
