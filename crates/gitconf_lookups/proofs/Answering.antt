-- What the places that were found say, by the sections of the state.
use Rattle.std.proofs.Common.{◌≡◌, ℕ, Bool, true, false, List, [], ◌∷◌, ◌++◌, map, Option, Some, None, Result, Ok, Err, refl, ap, sym, subst, ◌∙◌}
use Rattle.std.specs.Prelude.{◌≢◌, ◌==◌, filter, flat_map, if◌then◌else◌, length, IsErr}
use Rattle.std.specs.List.{cons_option, last_or, filter_map}
use Rattle.std.specs.Option.{option_map}
use Rattle.std.specs.declared.vec.Vec.{Vec}
use Rattle.std.proofs.lemmas.List.{map-append}
use Rattle.std.proofs.lemmas.List.Folds.{flat_map-map}
use Rattle.bstr.specs.declared.bstring.BString.{BString}
use Rattle.bstr.specs.Owned.{bstring_bytes}
use Rattle.gitconf_text.specs.Document.{DocumentEntry}
use Rattle.gitconf_text.specs.Value.{plain}
use Rattle.gitconf_sources.specs.Key.{Key}
use Rattle.gitconf_sources.specs.Metadata.{Meta}
use Rattle.gitconf_state.specs.Lookup.{Listed, Miss, SectionMissing, SubSectionMissing, KeyMissing, deciding, entries_of_key, is_named, listed, listing, meaning, named, said_by}
use Rattle.gitconf_state.specs.State.{SectionState, State}
use Rattle.gitconf_state.proofs.Listings.{last_value_is}
use Rattle.gitconf_lookups.specs.declared.found.Deciding.TheVariants as what
use Rattle.gitconf_lookups.specs.declared.found.Found.{Found}
use Rattle.gitconf_views.specs.declared.section.SectionRef.{SectionRef}
use Rattle.gitconf_lookups.specs.Finding.{AreFound, Place, all_places, decides, deciding_place, last_place, places_in}
use Rattle.gitconf_lookups.specs.Misses.{IsExisting, existing_or, missing}
use Rattle.gitconf_body.specs.Bodies.{IsFoundImplicit}
use Rattle.gitconf_lookups.specs.Lookups.{AreStrings, IsFound, IsImplicit, IsString, implicit_at, sections_named, sections_passing, shown_with, texts_of, if_any, value_at, value_in, values_at, values_in}

-- what is known of the last one is what is known of each
map_last : {A B C : Type 0} (g : B → C) (f : A → Option B) (h : A → Option C) → ((x : A) → option_map g (f x) ≡ h x) → (o : Option B) (xs : List A)
    → option_map g (last_or o (filter_map f xs)) ≡ last_or (option_map g o) (filter_map h xs)
map_last g f h same o [] = refl
map_last {A} {B} {C} g f h same o (x ∷ xs) = go (f x) refl (λ p. map_last g f h same p xs)
  where
    go : (m : Option B) → f x ≡ m → ((p : Option B) → option_map g (last_or p (filter_map f xs)) ≡ last_or (option_map g p) (filter_map h xs))
        → option_map g (last_or o (filter_map f (x ∷ xs))) ≡ last_or (option_map g o) (filter_map h (x ∷ xs))
    go None is later = let none : h x ≡ None = sym (same x) ∙ ap (option_map g) is in rw (is, none) (later o)
    go (Some y) is later = let some : h x ≡ Some (g y) = sym (same x) ∙ ap (option_map g) is in rw (is, some) (later (Some y))

-- what is given of the elements of a mapped list
filter_map_mapped : {A B C : Type 0} (f : B → Option C) (g : A → B) (xs : List A) → filter_map f (map g xs) ≡ filter_map (λ x. f (g x)) xs
filter_map_mapped f g [] = refl
filter_map_mapped f g (x ∷ xs) = ap (cons_option (f (g x))) (filter_map_mapped f g xs)

map_map : {A B C : Type 0} (f : B → C) (g : A → B) (xs : List A) → map f (map g xs) ≡ map (λ x. f (g x)) xs
map_map f g [] = refl
map_map f g (x ∷ xs) = ap (λ ys. f (g x) ∷ ys) (map_map f g xs)

map_flat : {A B C : Type 0} (f : B → C) (g : A → List B) (xs : List A) → map f (flat_map g xs) ≡ flat_map (λ x. map f (g x)) xs
map_flat f g [] = refl
map_flat f g (x ∷ xs) = map-append f (g x) (flat_map g xs) ∙ ap (λ ys. map f (g x) ++ ys) (map_flat f g xs)

-- the sections of a name that pass, as lookups see them
listed_passing : (name : List ℕ) (subsection : Option (List ℕ)) (keeps : Meta → Bool) (ss : List SectionState)
    → filter (λ s. keeps s.meta) (named name subsection (map listing ss)) ≡ map listing (filter (λ s. keeps s.meta) (filter (λ s. is_named name subsection (listing s)) ss))
listed_passing name subsection keeps [] = refl
listed_passing name subsection keeps (s ∷ ss) = go (is_named name subsection (listing s)) refl (keeps s.meta) refl (listed_passing name subsection keeps ss)
  where
    go : (b : Bool) → is_named name subsection (listing s) ≡ b → (k : Bool) → keeps s.meta ≡ k
        → filter (λ s. keeps s.meta) (named name subsection (map listing ss)) ≡ map listing (filter (λ s. keeps s.meta) (filter (λ s. is_named name subsection (listing s)) ss))
        → filter (λ s. keeps s.meta) (named name subsection (map listing (s ∷ ss)))
        ≡ map listing (filter (λ s. keeps s.meta) (filter (λ s. is_named name subsection (listing s)) (s ∷ ss)))
    go true is true kept later = rw (is, kept) (ap (λ ls. listing s ∷ ls) later)
    go true is false kept later = rw (is, kept) later
    go false is k kept later = rw is later

-- what is given of the entries of a key in the sections that say something of it is what is given of them in the sections
said_given : {B : Type 0} (d : List DocumentEntry → Option B) → d [] ≡ None → (key : List ℕ) (keeps : Meta → Bool) (sections : List Listed)
    → filter_map (λ s. d s.entries) (filter (λ s. keeps s.meta) (flat_map (said_by key) sections)) ≡ filter_map (λ s. d (entries_of_key key s)) (filter (λ s. keeps s.meta) sections)
said_given d nothing key keeps [] = refl
said_given {B} d nothing key keeps (s ∷ sections) = go (keeps s.meta) (entries_of_key key s) refl refl (said_given d nothing key keeps sections)
  where
    rest : List B
    rest = filter_map (λ s. d (entries_of_key key s)) (filter (λ s. keeps s.meta) sections)

    go : (t : Bool) (es : List DocumentEntry) → keeps s.meta ≡ t → entries_of_key key s ≡ es
        → filter_map (λ s. d s.entries) (filter (λ s. keeps s.meta) (flat_map (said_by key) sections)) ≡ rest
        → filter_map (λ s. d s.entries) (filter (λ s. keeps s.meta) (flat_map (said_by key) (s ∷ sections)))
        ≡ filter_map (λ s. d (entries_of_key key s)) (filter (λ s. keeps s.meta) (s ∷ sections))
    go false [] kept is later = rw (is, kept) later
    go true [] kept is later = rw (is, kept) (later ∙ ap (λ o. cons_option o rest) (sym (ap d is ∙ nothing)))
    go false (e ∷ es) kept is later = rw (is, kept) later
    go true (e ∷ es) kept is later = rw (is, kept) (ap (cons_option (d (e ∷ es))) later ∙ ap (λ o. cons_option o rest) (sym (ap d is)))

-- all of them
said_all : (key : List ℕ) (keeps : Meta → Bool) (sections : List Listed)
    → flat_map (λ s. s.entries) (filter (λ s. keeps s.meta) (flat_map (said_by key) sections)) ≡ flat_map (entries_of_key key) (filter (λ s. keeps s.meta) sections)
said_all key keeps [] = refl
said_all key keeps (s ∷ sections) = go (keeps s.meta) (entries_of_key key s) refl refl (said_all key keeps sections)
  where
    rest : List DocumentEntry
    rest = flat_map (entries_of_key key) (filter (λ s. keeps s.meta) sections)

    go : (t : Bool) (es : List DocumentEntry) → keeps s.meta ≡ t → entries_of_key key s ≡ es
        → flat_map (λ s. s.entries) (filter (λ s. keeps s.meta) (flat_map (said_by key) sections)) ≡ rest
        → flat_map (λ s. s.entries) (filter (λ s. keeps s.meta) (flat_map (said_by key) (s ∷ sections)))
        ≡ flat_map (entries_of_key key) (filter (λ s. keeps s.meta) (s ∷ sections))
    go false [] kept is later = rw (is, kept) later
    go true [] kept is later = rw (is, kept) (later ∙ ap (λ es. es ++ rest) (sym is))
    go false (e ∷ es) kept is later = rw (is, kept) later
    go true (e ∷ es) kept is later = rw (is, kept) (ap (λ more. (e ∷ es) ++ more) later ∙ ap (λ es. es ++ rest) (sym is))

-- the raw text of an entry; nothing if it has no value
abbrev raw_text : DocumentEntry → List ℕ
raw_text e = elim e.raw [ None ↦ [] | Some raw ↦ raw ]

means : (e : DocumentEntry) → plain (raw_text e) ≡ meaning e
means e = go e.raw
  where
    go : (raw : Option (List ℕ)) → plain (elim raw [ None ↦ [] | Some raw ↦ raw ]) ≡ elim raw [ None ↦ [] | Some raw ↦ plain raw ]
    go None = refl
    go (Some raw) = refl

-- the value that decides in a section
value_given : {B : Type 0} (tell : SectionState → List ℕ → B) (key : List ℕ) (s : SectionState)
    → option_map (λ (p : Place). tell p.0 (raw_text p.1)) (deciding_place what.Value key s) ≡ option_map (tell s) (deciding (entries_of_key key (listing s)))
value_given {B} tell key s = go (last_or None (entries_of_key key (listing s)))
  where
    here : (e : DocumentEntry) (raw : Option (List ℕ)) → e.raw ≡ raw
        → option_map (λ (p : Place). tell p.0 (raw_text p.1)) (option_map (λ (e : DocumentEntry). (s, e)) (if decides what.Value e then Some e else None)) ≡ option_map (tell s) e.raw
    here e None is = rw is refl
    here e (Some raw) is = rw is refl

    go : (o : Option DocumentEntry)
        → option_map (λ (p : Place). tell p.0 (raw_text p.1)) (option_map (λ (e : DocumentEntry). (s, e)) (elim o [ None ↦ None | Some e ↦ if decides what.Value e then Some e else None ]))
        ≡ option_map (tell s) (elim o [ None ↦ None | Some e ↦ e.raw ])
    go None = refl
    go (Some e) = here e e.raw refl

-- the entry that does
entry_given : (key : List ℕ) (s : SectionState)
    → option_map (λ (p : Place). option_map plain p.1.raw) (deciding_place what.Entry key s) ≡ option_map (λ e. option_map plain e.raw) (last_or None (entries_of_key key (listing s)))
entry_given key s = go (last_or None (entries_of_key key (listing s)))
  where
    go : (o : Option DocumentEntry)
        → option_map (λ (p : Place). option_map plain p.1.raw) (option_map (λ (e : DocumentEntry). (s, e)) (elim o [ None ↦ None | Some e ↦ if decides what.Entry e then Some e else None ]))
        ≡ option_map (λ e. option_map plain e.raw) o
    go None = refl
    go (Some e) = refl

option_map_map : {A B C : Type 0} (g : B → C) (f : A → B) (o : Option A) → option_map g (option_map f o) ≡ option_map (λ x. g (f x)) o
option_map_map g f None = refl
option_map_map g f (Some x) = refl

-- the last value
pub value_found : (key : Key) (keeps : Meta → Bool) (state : State)
    → option_map (λ (p : Place). meaning p.1) (last_place what.Value key.name keeps (sections_named key.section key.subsection state)) ≡ value_at key keeps state
value_found key keeps state =
    let sections = sections_passing key keeps state in
    let found = last_place what.Value key.name keeps (sections_named key.section key.subsection state) in
    (λ i. option_map (λ (p : Place). sym (means p.1) i) found)
    ∙ sym (option_map_map plain (λ (p : Place). raw_text p.1) found)
    ∙ ap (option_map plain)
    (map_last (λ (p : Place). raw_text p.1) (deciding_place what.Value key.name) (λ s. option_map (λ raw. raw) (deciding (entries_of_key key.name (listing s)))) (value_given (λ s raw. raw) key.name) None sections
    ∙ ap (last_or None) ((λ i. filter_map (λ s. unchanged (deciding (entries_of_key key.name (listing s))) i) sections)
    ∙ sym (filter_map_mapped (λ s. deciding (entries_of_key key.name s)) listing sections)
    ∙ ap (filter_map (λ s. deciding (entries_of_key key.name s))) (sym (listed_passing key.section key.subsection keeps state.sections))))
    ∙ sym (last_value_is key.section key.subsection key.name keeps (listed state))
  where
    unchanged : (o : Option (List ℕ)) → option_map (λ raw. raw) o ≡ o
    unchanged None = refl
    unchanged (Some x) = refl

-- and its section
pub value_in_found : (key : Key) (keeps : Meta → Bool) (state : State)
    → option_map (λ (p : Place). (meaning p.1, p.0)) (last_place what.Value key.name keeps (sections_named key.section key.subsection state)) ≡ value_in key keeps state
value_in_found key keeps state =
    let found = last_place what.Value key.name keeps (sections_named key.section key.subsection state) in
    (λ i. option_map (λ (p : Place). (sym (means p.1) i, p.0)) found)
    ∙ map_last (λ (p : Place). (plain (raw_text p.1), p.0)) (deciding_place what.Value key.name) (λ s. option_map (λ raw. (plain raw, s)) (deciding (entries_of_key key.name (listing s))))
    (value_given (λ s raw. (plain raw, s)) key.name) None (sections_passing key keeps state)

-- the last entry
pub implicit_found : (key : Key) (keeps : Meta → Bool) (state : State)
    → option_map (λ (p : Place). option_map plain p.1.raw) (last_place what.Entry key.name keeps (sections_named key.section key.subsection state)) ≡ implicit_at key keeps state
implicit_found key keeps state =
    let sections = sections_passing key keeps state in
    map_last (λ (p : Place). option_map plain p.1.raw) (deciding_place what.Entry key.name) (λ s. option_map (λ e. option_map plain e.raw) (last_or None (entries_of_key key.name (listing s)))) (entry_given key.name) None sections
    ∙ sym (map_last (λ (e : DocumentEntry). option_map plain e.raw) (λ s. last_or None (entries_of_key key.name (listing s)))
    (λ s. option_map (λ e. option_map plain e.raw) (last_or None (entries_of_key key.name (listing s)))) (λ s. refl) None sections)
    ∙ ap (λ es. option_map (λ (e : DocumentEntry). option_map plain e.raw) (last_or None es))
    (sym (filter_map_mapped (λ s. last_or None (entries_of_key key.name s)) listing sections)
    ∙ ap (filter_map (λ s. last_or None (entries_of_key key.name s))) (sym (listed_passing key.section key.subsection keeps state.sections))
    ∙ sym (said_given (last_or None) refl key.name keeps (named key.section key.subsection (listed state))))

-- what is known of all places
told_all : {C : Type 0} (tell : DocumentEntry → SectionState → C) (key : List ℕ) (ss : List SectionState)
    → map (λ (p : Place). tell p.1 p.0) (flat_map (places_in key) ss) ≡ flat_map (λ s. map (λ e. tell e s) (entries_of_key key (listing s))) ss
told_all tell key [] = refl
told_all tell key (s ∷ ss) =
    map-append (λ (p : Place). tell p.1 p.0) (places_in key s) (flat_map (places_in key) ss)
    ∙ (λ i. map_map (λ (p : Place). tell p.1 p.0) (λ (e : DocumentEntry). (s, e)) (entries_of_key key (listing s)) i ++ told_all tell key ss i)

-- all values, each with its section
pub values_in_found : (key : Key) (keeps : Meta → Bool) (state : State)
    → map (λ (p : Place). (meaning p.1, p.0)) (all_places key.name keeps (sections_named key.section key.subsection state)) ≡ values_in key keeps state
values_in_found key keeps state = told_all (λ e s. (meaning e, s)) key.name (sections_passing key keeps state)

-- all values
pub values_found : (key : Key) (keeps : Meta → Bool) (state : State)
    → map (λ (p : Place). meaning p.1) (all_places key.name keeps (sections_named key.section key.subsection state)) ≡ values_at key keeps state
values_found key keeps state =
    let sections = sections_passing key keeps state in
    told_all (λ e s. meaning e) key.name sections
    ∙ sym (map_flat meaning (λ s. entries_of_key key.name (listing s)) sections)
    ∙ ap (map meaning) (sym (flat_map-map (entries_of_key key.name) listing sections)
    ∙ ap (flat_map (entries_of_key key.name)) (sym (listed_passing key.section key.subsection keeps state.sections))
    ∙ sym (said_all key.name keeps (named key.section key.subsection (listed state))))

-- the last value of a key, told as it was found
pub reported_text : {E : Type 0} (key : Key) (keeps : Meta → Bool) (state : State) (found : Option Place) (result : Result (Option BString) E)
    → IsFound bstring_bytes result (option_map (λ (p : Place). meaning p.1) found)
    → found ≡ last_place what.Value key.name keeps (sections_named key.section key.subsection state) → IsString key keeps state result
reported_text key keeps state found result told is =
    subst (IsFound bstring_bytes result) (ap (option_map (λ (p : Place). meaning p.1)) is ∙ value_found key keeps state) told

-- with its section
pub text_with_section_told : {E : Type 0} (key : Key) (keeps : Meta → Bool) (state : State) (found : Option Place) (result : Result (Option (BString × SectionRef)) E)
    → IsFound shown_with result (option_map (λ (p : Place). (meaning p.1, p.0)) found)
    → found ≡ last_place what.Value key.name keeps (sections_named key.section key.subsection state) → IsFound shown_with result (value_in key keeps state)
text_with_section_told key keeps state found result told is =
    subst (IsFound shown_with result) (ap (option_map (λ (p : Place). (meaning p.1, p.0))) is ∙ value_in_found key keeps state) told

-- the last entry of a key, told as it was found
pub implicit_told : {E : Type 0} (key : Key) (keeps : Meta → Bool) (state : State) (found : Option Place) (result : Result (Option (Option BString)) E)
    → IsFoundImplicit result (option_map (λ (p : Place). option_map plain p.1.raw) found)
    → found ≡ last_place what.Entry key.name keeps (sections_named key.section key.subsection state) → IsImplicit key keeps state result
implicit_told key keeps state found result told is =
    subst (IsFoundImplicit result) (ap (option_map (λ (p : Place). option_map plain p.1.raw)) is ∙ implicit_found key keeps state) told

-- all values of a key, told as they were found
pub texts_told : {Z Y E F : Type 0} (key : Key) (keeps : Meta → Bool) (state : State) (found : Result (Vec Found Z) F) (result : Result (Option (Vec BString Y)) E)
    → ((places : List Place) → AreFound found places → IsFound texts_of result (if_any (map (λ (p : Place). meaning p.1) places)))
    → AreFound found (all_places key.name keeps (sections_named key.section key.subsection state)) → AreStrings key keeps state result
texts_told key keeps state found result told are =
    subst (IsFound texts_of result) (ap if_any (values_found key keeps state)) (told (all_places key.name keeps (sections_named key.section key.subsection state)) are)

-- each with its section
pub texts_with_sections_told : {Z Y E F : Type 0} (key : Key) (keeps : Meta → Bool) (state : State) (found : Result (Vec Found Z) F) (result : Result (Option (Vec (BString × SectionRef) Y)) E)
    → ((places : List Place) → AreFound found places → IsFound (λ (texts : Vec (BString × SectionRef) Y). map shown_with texts.items) result (if_any (map (λ (p : Place). (meaning p.1, p.0)) places)))
    → AreFound found (all_places key.name keeps (sections_named key.section key.subsection state))
    → IsFound (λ (texts : Vec (BString × SectionRef) Y). map shown_with texts.items) result (if_any (values_in key keeps state))
texts_with_sections_told {Y = Y} key keeps state found result told are =
    subst (IsFound (λ (texts : Vec (BString × SectionRef) Y). map shown_with texts.items) result) (ap if_any (values_in_found key keeps state))
    (told (all_places key.name keeps (sections_named key.section key.subsection state)) are)

-- what was found, as it is told by the lookups that refuse what is missing
pub existing_told : {T A E : Type 0} (shown : T → A) (found : Result (Option T) E) (value : Option A) (miss : Miss) → IsFound shown found value → IsExisting shown (existing_or (missing miss) found) value miss
existing_told shown (Ok (Some found)) value miss is = sym is
existing_told shown (Ok None) value SectionMissing is = (sym is, refl)
existing_told shown (Ok None) value SubSectionMissing is = (sym is, refl)
existing_told shown (Ok None) value KeyMissing is = (sym is, refl)
existing_told shown (Err refusal) value miss some = some

-- a refusal, only if there are some
pub refused_some : {T A B E : Type 0} (shown : T → List B) (result : Result (Option T) E) (tell : A → B) (xs : List A) → IsErr result → xs ≢ [] → IsFound shown result (if_any (map tell xs))
refused_some shown (Ok found) tell xs fault some = absurd (cc)
refused_some shown (Err refusal) tell [] fault some = absurd (some refl)
refused_some shown (Err refusal) tell (x ∷ xs) fault some = λ none. absurd (cc)

-- what is returned if there are some
pub some_told : {A B P : Type 0} (place : A → P) (tell : P → B) (xs : List A) (texts : List B) (places : List P)
    → (length xs == 0) ≡ false → texts ≡ map (λ x. tell (place x)) xs → map place xs ≡ places → Some texts ≡ if_any (map tell places)
some_told place tell [] texts places some told are = absurd (cc)
some_told place tell (x ∷ xs) texts places some told are =
    ap Some (told ∙ sym (map_map tell place (x ∷ xs))) ∙ ap (λ ps. if_any (map tell ps)) are
