-- What settings of sections say of a key is what the sections say of it.
use Rattle.std.proofs.Common.{◌≡◌, ℕ, Bool, true, false, ◌&&◌, List, [], ◌∷◌, ◌++◌, map, Option, Some, None, refl, sym, ap, subst, ◌∙◌, append-nil}
use Rattle.std.specs.Prelude.{filter, flat_map, unwrap_or, if◌then◌else◌, ◌==◌}
use Rattle.std.specs.List.{AllByRecursion, cons_option, filter_map, last_or}
use Rattle.std.specs.Option.{option_eq, option_map}
use Rattle.std.specs.Str.{bytes_eq}
use Rattle.std.specs.Cmp.{nat_eq_equiv}
use Rattle.std.specs.Cmp.Lexicographic.{nat_list_eq_equiv, options_equiv}
use Rattle.std.proofs.lemmas.Grind.{flat_map-append}
use Rattle.std.proofs.lemmas.List.Elements.{filter-append}
use Rattle.gitconf_text.specs.Bytes.{fold}
use Rattle.gitconf_text.specs.Document.{DocumentEntry}
use Rattle.gitconf_text.specs.Header.{name_of, subsection_of}
use Rattle.gitconf_text.specs.Names.{is_same_name}
use Rattle.gitconf_text.specs.Value.{plain}
use Rattle.gitconf_sources.specs.Key.{Key}
use Rattle.gitconf_sources.specs.Metadata.{Meta}
use Rattle.gitconf_diff.specs.PlainSettings.{PlainSetting, found_in, goes_on, is_said, said_of, same_names, same_side, rank, values_of}
use Rattle.gitconf_diff.specs.declared.setting.Side.{Side}
use Rattle.gitconf_state.specs.Lookup.{Listed, Said, all_values, deciding, meaning, entries_of_key, is_named, last_value, listing, said, said_by}
use Rattle.gitconf_state.specs.Lookup as lookup
use Rattle.gitconf_state.specs.State.{AreNumbered, SectionState, entries_of}
use Rattle.gitconf_diff.specs.Settings.{section_settings, setting_of, settings_of}
use Rattle.gitconf_diff.specs.Differences.{answers_at, names_at}

-- the entries of a key in a section, if the section has the key's names
abbrev entries_at : Key → SectionState → List DocumentEntry
entries_at key s = if is_named key.section key.subsection (listing s) then entries_of_key key.name (listing s) else []

-- a setting has a key's names if its section has the key's and its entry too
is_at : (key : Key) (side : Side) (s : SectionState) (e : DocumentEntry) → is_said (names_at key) side (setting_of side s e) ≡ (is_named key.section key.subsection (listing s) && is_same_name key.name e.name)
is_at key side s e =
    ap (λ b. (bytes_eq (fold key.section) (fold (name_of s.header)) && (b && is_same_name key.name e.name)) && same_side side side) ((options_equiv nat_list_eq_equiv).symm key.subsection (subsection_of s.header))
    ∙ regrouped (is_same_name key.section (name_of s.header)) (option_eq bytes_eq (subsection_of s.header) key.subsection) (is_same_name key.name e.name) (same_side side side) (nat_eq_equiv.refl (rank side))
  where
    regrouped : (a b c d : Bool) → d ≡ true → ((a && (b && c)) && d) ≡ ((a && b) && c)
    regrouped true true true d e = e
    regrouped true true false d e = refl
    regrouped true false c d e = refl
    regrouped false b c d e = refl

said_entries : (key : Key) (side : Side) (s : SectionState) (b : Bool) → is_named key.section key.subsection (listing s) ≡ b → (entries : List DocumentEntry)
    → said_of (names_at key) side (map (setting_of side s) entries) ≡ map (setting_of side s) (if b then filter (λ e. is_same_name key.name e.name) entries else [])
said_entries key side s true named [] = refl
said_entries key side s false named [] = refl
said_entries key side s true named (e ∷ entries) = go (is_same_name key.name e.name) refl (said_entries key side s true named entries)
  where
    go : (c : Bool) → is_same_name key.name e.name ≡ c → said_of (names_at key) side (map (setting_of side s) entries) ≡ map (setting_of side s) (filter (λ e. is_same_name key.name e.name) entries)
        → said_of (names_at key) side (map (setting_of side s) (e ∷ entries)) ≡ map (setting_of side s) (filter (λ e. is_same_name key.name e.name) (e ∷ entries))
    go true is more =
        let here : is_said (names_at key) side (setting_of side s e) ≡ true = is_at key side s e ∙ (λ i. named i && is i) in
        rw (here, is) (ap (λ ts. setting_of side s e ∷ ts) more)
    go false is more =
        let here : is_said (names_at key) side (setting_of side s e) ≡ false = is_at key side s e ∙ (λ i. named i && is i) in
        rw (here, is) more
said_entries key side s false named (e ∷ entries) =
    let here : is_said (names_at key) side (setting_of side s e) ≡ false = is_at key side s e ∙ ap (λ b. b && is_same_name key.name e.name) named in
    rw here (said_entries key side s false named entries)

-- of one section, and of the sections behind it
said_section : (key : Key) (side : Side) (s : SectionState) → said_of (names_at key) side (section_settings side s) ≡ map (setting_of side s) (entries_at key s)
said_section key side s = said_entries key side s (is_named key.section key.subsection (listing s)) refl (entries_of s.items)

pub said_step : (key : Key) (side : Side) (s : SectionState) (sections : List SectionState)
    → said_of (names_at key) side (settings_of side (s ∷ sections)) ≡ map (setting_of side s) (entries_at key s) ++ said_of (names_at key) side (settings_of side sections)
said_step key side s sections =
    filter-append (is_said (names_at key) side) (section_settings side s) (settings_of side sections) ∙ ap (λ ts. ts ++ said_of (names_at key) side (settings_of side sections)) (said_section key side s)

-- what lookups go by: of one section, and of the sections behind it
abbrev pub said_listed : Key → List SectionState → List Said
said_listed key sections = said key.section key.subsection key.name (map listing sections)

listed_step : (key : Key) (s : SectionState) (sections : List SectionState) → said_listed key (s ∷ sections) ≡ lookup.said_of s.number s.meta (entries_at key s) ++ said_listed key sections
listed_step key s sections = go (is_named key.section key.subsection (listing s)) refl
  where
    go : (b : Bool) → is_named key.section key.subsection (listing s) ≡ b → said_listed key (s ∷ sections) ≡ lookup.said_of s.number s.meta (entries_at key s) ++ said_listed key sections
    go true named = rw named refl
    go false named = rw named refl

-- their entries
entries_said : (number : ℕ) (meta : Meta) (entries : List DocumentEntry) → flat_map (λ s. s.entries) (lookup.said_of number meta entries) ≡ entries
entries_said number meta [] = refl
entries_said number meta (e ∷ entries) = append-nil (e ∷ entries)

entries_step : (key : Key) (s : SectionState) (sections : List SectionState)
    → flat_map (λ s. s.entries) (said_listed key (s ∷ sections)) ≡ entries_at key s ++ flat_map (λ s. s.entries) (said_listed key sections)
entries_step key s sections =
    ap (flat_map (λ s. s.entries)) (listed_step key s sections) ∙ flat_map-append (λ (s : Said). s.entries) (lookup.said_of s.number s.meta (entries_at key s)) (said_listed key sections)
    ∙ ap (λ es. es ++ flat_map (λ s. s.entries) (said_listed key sections)) (entries_said s.number s.meta (entries_at key s))

map_append : {X Y : Type 0} (f : X → Y) (xs ys : List X) → map f (xs ++ ys) ≡ map f xs ++ map f ys
map_append f [] ys = refl
map_append f (x ∷ xs) ys = ap (λ zs. f x ∷ zs) (map_append f xs ys)

values_of_entries : (side : Side) (s : SectionState) (entries : List DocumentEntry) → values_of (map (setting_of side s) entries) ≡ map (λ e. option_map plain e.raw) entries
values_of_entries side s [] = refl
values_of_entries side s (e ∷ entries) = ap (λ vs. option_map plain e.raw ∷ vs) (values_of_entries side s entries)

-- the values that settings of a key have are those of its entries
pub values_said : (key : Key) (side : Side) (sections : List SectionState) → values_of (said_of (names_at key) side (settings_of side sections)) ≡ (answers_at key sections).values
values_said key side [] = refl
values_said key side (s ∷ sections) =
    ap values_of (said_step key side s sections) ∙ map_append (λ (t : PlainSetting). t.value) (map (setting_of side s) (entries_at key s)) (said_of (names_at key) side (settings_of side sections))
    ∙ (λ i. values_of_entries side s (entries_at key s) i ++ values_said key side sections i)
    ∙ sym (map_append (λ (e : DocumentEntry). option_map plain e.raw) (entries_at key s) (flat_map (λ s. s.entries) (said_listed key sections)))
    ∙ ap (map (λ (e : DocumentEntry). option_map plain e.raw)) (sym (entries_step key s sections))

-- the settings of other sections have other numbers
abbrev AreApart : ℕ → List PlainSetting → Type 0
AreApart number settings = AllByRecursion (λ t. (number == t.section) ≡ false) settings

apart_entries : (number : ℕ) (side : Side) (s : SectionState) → (s.number == number) ≡ false → (entries : List DocumentEntry) (settings : List PlainSetting) → AreApart number settings
    → AreApart number (map (setting_of side s) entries ++ settings)
apart_entries number side s other [] settings apart = apart
apart_entries number side s other (e ∷ entries) settings apart = (nat_eq_equiv.symm number s.number ∙ other, apart_entries number side s other entries settings apart)

apart_said : (key : Key) (side : Side) (number : ℕ) (sections : List SectionState) → AllByRecursion (λ t. (t.number == number) ≡ false) sections
    → AreApart number (said_of (names_at key) side (settings_of side sections))
apart_said key side number [] others = tt
apart_said key side number (s ∷ sections) others =
    subst (λ (ts : List PlainSetting). AreApart number ts) (sym (said_step key side s sections))
    (apart_entries number side s others.0 (entries_at key s) (said_of (names_at key) side (settings_of side sections)) (apart_said key side number sections others.1))

-- the last of two, if there is one
abbrev later : {A : Type 0} → Option A → Option A → Option A
later first second = elim second [ Some v ↦ Some v | None ↦ first ]

stops : (number : ℕ) (t : PlainSetting) → t.section ≡ number → (settings : List PlainSetting) → AreApart number settings → goes_on t settings ≡ false
stops number t is [] apart = refl
stops number t is (u ∷ settings) apart = ap (λ n. n == u.section) is ∙ apart.0

same_or_none : {A : Type 0} (o : Option A) → later None o ≡ o
same_or_none None = refl
same_or_none (Some v) = refl

-- what a lookup finds in a section's settings of a key and in those behind it
found_section : (side : Side) (s : SectionState) (entries : List DocumentEntry) (settings : List PlainSetting) → AreApart s.number settings
    → found_in (map (setting_of side s) entries ++ settings) ≡ later (option_map plain (deciding entries)) (found_in settings)
found_section side s [] settings apart = sym (same_or_none (found_in settings))
found_section side s (e ∷ []) settings apart =
    ap (λ b. later (if b then None else option_map plain e.raw) (found_in settings)) (stops s.number (setting_of side s e) refl settings apart) ∙ sym (ap (λ o. later o (found_in settings)) refl)
found_section side s (e ∷ f ∷ entries) settings apart =
    ap (λ b. later (if b then None else option_map plain e.raw) (found_in (map (setting_of side s) (f ∷ entries) ++ settings))) (nat_eq_equiv.refl s.number)
    ∙ same_or_none (found_in (map (setting_of side s) (f ∷ entries) ++ settings)) ∙ found_section side s (f ∷ entries) settings apart

last_later : {A : Type 0} (o : Option A) (xs : List A) → last_or o xs ≡ later o (last_or None xs)
last_later o [] = refl
last_later {A} o (x ∷ xs) = last_later (Some x) xs ∙ go (last_or None xs) ∙ ap (later o) (sym (last_later (Some x) xs))
  where
    go : (l : Option A) → later (Some x) l ≡ later o (later (Some x) l)
    go None = refl
    go (Some v) = refl

all_kept : {X : Type 0} (xs : List X) → filter (λ _. true) xs ≡ xs
all_kept [] = refl
all_kept (x ∷ xs) = ap (λ ys. x ∷ ys) (all_kept xs)

-- the raw text that a lookup takes, of one section's entries and of what is behind it
deciding_step : (number : ℕ) (meta : Meta) (entries : List DocumentEntry) (others : List Said)
    → last_or None (filter_map (λ s. deciding s.entries) (lookup.said_of number meta entries ++ others)) ≡ later (deciding entries) (last_or None (filter_map (λ s. deciding s.entries) others))
deciding_step number meta [] others = sym (same_or_none (last_or None (filter_map (λ s. deciding s.entries) others)))
deciding_step number meta (e ∷ entries) others = go (deciding (e ∷ entries)) refl
  where
    go : (o : Option (List ℕ)) → deciding (e ∷ entries) ≡ o
        → last_or None (filter_map (λ s. deciding s.entries) (lookup.said_of number meta (e ∷ entries) ++ others)) ≡ later (deciding (e ∷ entries)) (last_or None (filter_map (λ s. deciding s.entries) others))
    go None is = rw is (sym (same_or_none (last_or None (filter_map (λ s. deciding s.entries) others))))
    go (Some raw) is = rw is (last_later (Some raw) (filter_map (λ s. deciding s.entries) others))

plain_later : (o p : Option (List ℕ)) → option_map plain (later o p) ≡ later (option_map plain o) (option_map plain p)
plain_later o None = refl
plain_later o (Some v) = refl

-- the last value, without its filter
abbrev last_said : Key → List SectionState → Option (List ℕ)
last_said key sections = option_map plain (last_or None (filter_map (λ s. deciding s.entries) (said_listed key sections)))

unfiltered : (key : Key) (sections : List SectionState) → (answers_at key sections).last ≡ last_said key sections
unfiltered key sections = ap (λ ss. option_map plain (last_or None (filter_map (λ s. deciding s.entries) ss))) (all_kept (said_listed key sections))

-- the value that a lookup finds among settings of a key is the one that it finds in the sections
found_said_so : (key : Key) (side : Side) (next : ℕ) (sections : List SectionState) → AreNumbered next sections → found_in (said_of (names_at key) side (settings_of side sections)) ≡ last_said key sections
found_said_so key side next [] numbered = refl
found_said_so key side next (s ∷ sections) numbered =
    ap found_in (said_step key side s sections)
    ∙ found_section side s (entries_at key s) (said_of (names_at key) side (settings_of side sections)) (apart_said key side s.number sections numbered.1)
    ∙ ap (later (option_map plain (deciding (entries_at key s)))) (found_said_so key side next sections numbered.2)
    ∙ sym (plain_later (deciding (entries_at key s)) (last_or None (filter_map (λ s. deciding s.entries) (said_listed key sections))))
    ∙ ap (option_map plain) (sym (deciding_step s.number s.meta (entries_at key s) (said_listed key sections)))
    ∙ ap (λ ss. option_map plain (last_or None (filter_map (λ s. deciding s.entries) ss))) (sym (listed_step key s sections))

pub found_said : (key : Key) (side : Side) (next : ℕ) (sections : List SectionState) → AreNumbered next sections
    → found_in (said_of (names_at key) side (settings_of side sections)) ≡ (answers_at key sections).last
found_said key side next sections numbered = found_said_so key side next sections numbered ∙ sym (unfiltered key sections)

-- the settings of one file say nothing of the other
other_entries : (key : Key) (side other : Side) (s : SectionState) → same_side side other ≡ false → (entries : List DocumentEntry) (settings : List PlainSetting)
    → said_of (names_at key) side settings ≡ [] → said_of (names_at key) side (map (setting_of other s) entries ++ settings) ≡ []
other_entries key side of s apart [] settings none = none
other_entries key side of s apart (e ∷ entries) settings none =
    let here : is_said (names_at key) side (setting_of of s e) ≡ false
    = ap (λ b. same_names (names_at key) (setting_of of s e).names && b) apart ∙ never (same_names (names_at key) (setting_of of s e).names) in
    rw here (other_entries key side of s apart entries settings none)
  where
    never : (b : Bool) → (b && false) ≡ false
    never true = refl
    never false = refl

pub none_of_other : (key : Key) (side other : Side) → same_side side other ≡ false → (sections : List SectionState) → said_of (names_at key) side (settings_of other sections) ≡ []
none_of_other key side of apart [] = refl
none_of_other key side of apart (s ∷ sections) = other_entries key side of s apart (entries_of s.items) (settings_of of sections) (none_of_other key side of apart sections)

-- where a file says nothing of a key, lookups find nothing
nothing_left : {X : Type 0} (xs ys : List X) → xs ++ ys ≡ [] → (xs ≡ []) × (ys ≡ [])
nothing_left [] ys none = (refl, none)
nothing_left (x ∷ xs) ys none = absurd (cc)

nothing_mapped : {X Y : Type 0} (f : X → Y) (xs : List X) → map f xs ≡ [] → xs ≡ []
nothing_mapped f [] none = refl
nothing_mapped f (x ∷ xs) none = absurd (cc)

none_listed : (key : Key) (sections : List SectionState) → flat_map (λ s. s.entries) (said_listed key sections) ≡ [] → said_listed key sections ≡ []
none_listed key [] none = refl
none_listed key (s ∷ sections) none =
    let parts = nothing_left (entries_at key s) (flat_map (λ s. s.entries) (said_listed key sections)) (sym (entries_step key s sections) ∙ none) in
    listed_step key s sections ∙ (λ i. lookup.said_of s.number s.meta (parts.0 i) ++ none_listed key sections parts.1 i)

pub none_found : (key : Key) (sections : List SectionState) → (answers_at key sections).values ≡ [] → (answers_at key sections).last ≡ None
none_found key sections none =
    let none_said : said_listed key sections ≡ []
    = none_listed key sections (nothing_mapped (λ (e : DocumentEntry). option_map plain e.raw) (flat_map (λ s. s.entries) (said_listed key sections)) none) in
    unfiltered key sections ∙ ap (λ ss. option_map plain (last_or None (filter_map (λ s. deciding s.entries) ss))) none_said

-- all values, and what the last entry means, of what a file says of a key
means : (e : DocumentEntry) → meaning e ≡ unwrap_or (option_map plain e.raw) []
means e = go e.raw refl
  where
    go : (raw : Option (List ℕ)) → e.raw ≡ raw → meaning e ≡ unwrap_or (option_map plain e.raw) []
    go None is = rw is refl
    go (Some raw) is = rw is refl

all_mean : (entries : List DocumentEntry) → map meaning entries ≡ map (λ v. unwrap_or v []) (map (λ e. option_map plain e.raw) entries)
all_mean [] = refl
all_mean (e ∷ entries) = λ i. means e i ∷ all_mean entries i

pub all_said : (key : Key) (sections : List SectionState) → all_values key.section key.subsection key.name (λ _. true) (map listing sections) ≡ map (λ v. unwrap_or v []) (answers_at key sections).values
all_said key sections = ap (λ ss. map meaning (flat_map (λ s. s.entries) ss)) (all_kept (said_listed key sections)) ∙ all_mean (flat_map (λ s. s.entries) (said_listed key sections))

last_append : {X : Type 0} (o : Option X) (xs ys : List X) → last_or o (xs ++ ys) ≡ last_or (last_or o xs) ys
last_append o [] ys = refl
last_append o (x ∷ xs) ys = last_append (Some x) xs ys

last_mapped : {X Y : Type 0} (f : X → Y) (o : Option X) (xs : List X) → option_map f (last_or o xs) ≡ last_or (option_map f o) (map f xs)
last_mapped f o [] = refl
last_mapped f o (x ∷ xs) = last_mapped f (Some x) xs

is_last : (e : DocumentEntry) (entries : List DocumentEntry) → (f : DocumentEntry) × (last_or (Some e) entries ≡ Some f)
is_last e [] = (e, refl)
is_last e (f ∷ entries) = is_last f entries

last_from : (o l : Option DocumentEntry) (fs : List DocumentEntry) → (f : DocumentEntry) × (l ≡ Some f) → last_or o (cons_option l fs) ≡ last_or l fs
last_from o None fs some = absurd (let no : None ≡ Some some.0 = some.1 in cc)
last_from o (Some f) fs some = refl

last_of_lasts : (key : Key) (o : Option DocumentEntry) (sections : List SectionState)
    → last_or o (filter_map (λ s. last_or None s.entries) (said_listed key sections)) ≡ last_or o (flat_map (λ s. s.entries) (said_listed key sections))
last_of_lasts key o [] = refl
last_of_lasts key o (s ∷ sections) =
    ap (λ ss. last_or o (filter_map (λ s. last_or None s.entries) ss)) (listed_step key s sections) ∙ go (entries_at key s)
    ∙ last_of_lasts key (last_or o (entries_at key s)) sections
    ∙ sym (last_append o (entries_at key s) (flat_map (λ s. s.entries) (said_listed key sections))) ∙ ap (last_or o) (sym (entries_step key s sections))
  where
    go : (entries : List DocumentEntry) → last_or o (filter_map (λ s. last_or None s.entries) (lookup.said_of s.number s.meta entries ++ said_listed key sections))
        ≡ last_or (last_or o entries) (filter_map (λ s. last_or None s.entries) (said_listed key sections))
    go [] = refl
    go (e ∷ entries) = last_from o (last_or (Some e) entries) (filter_map (λ s. last_or None s.entries) (said_listed key sections)) (is_last e entries)

pub implicit_said : (key : Key) (sections : List SectionState)
    → option_map (λ e. option_map plain e.raw) (last_or None (filter_map (λ s. last_or None s.entries) (filter (λ _. true) (said_listed key sections)))) ≡ last_or None (answers_at key sections).values
implicit_said key sections =
    ap (λ ss. option_map (λ (e : DocumentEntry). option_map plain e.raw) (last_or None (filter_map (λ s. last_or None s.entries) ss))) (all_kept (said_listed key sections))
    ∙ ap (option_map (λ (e : DocumentEntry). option_map plain e.raw)) (last_of_lasts key None sections)
    ∙ last_mapped (λ (e : DocumentEntry). option_map plain e.raw) None (flat_map (λ s. s.entries) (said_listed key sections))
