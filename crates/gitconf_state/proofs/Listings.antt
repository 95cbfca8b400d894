-- What lookups find, by the sections of a state.
use Rattle.std.proofs.Common.{◌≡◌, ℕ, Bool, true, false, List, [], ◌∷◌, ◌++◌, Option, None, refl, ap, sym, ◌∙◌}
use Rattle.std.specs.Prelude.{filter, map, flat_map, if◌then◌else◌}
use Rattle.std.specs.Option.{option_map}
use Rattle.std.specs.List.{cons_option, last_or, filter_map}
use Rattle.gitconf_text.specs.Document.{Document, DocumentEntry}
use Rattle.gitconf_text.specs.Part.{Part}
use Rattle.gitconf_items.specs.TokenDocument.{keeps_meaning}
use Rattle.gitconf_text.specs.Value.{plain}
use Rattle.gitconf_sources.specs.Metadata.{Meta}
use Rattle.gitconf_state.specs.State.{SectionState, State, section_document}
use Rattle.gitconf_state.specs.Equality.{compared}
use Rattle.gitconf_state.specs.Loads.{IsFullLoad, IsLoad}
use Rattle.gitconf_state.proofs.Loading.Document.{full_document, lossy_document}
use Rattle.gitconf_state.specs.Lookup.{Listed, listing, listed, is_named, named, entries_of_key, Said, said_by, said, deciding, last_value}

-- what a section says of a key, if it has the name and subsection
abbrev pub says : (name : List ℕ) → (subsection : Option (List ℕ)) → (key : List ℕ) → SectionState → List Said
says name subsection key s = if is_named name subsection (listing s) then said_by key (listing s) else []

-- sections say what each of them does
pub said_is : (name : List ℕ) (subsection : Option (List ℕ)) (key : List ℕ) (sections : List SectionState)
    → said name subsection key (map listing sections) ≡ flat_map (says name subsection key) sections
said_is name subsection key [] = refl
said_is name subsection key (s ∷ sections) = go (is_named name subsection (listing s)) refl (said_is name subsection key sections)
  where
    go : (t : Bool) → is_named name subsection (listing s) ≡ t → said name subsection key (map listing sections) ≡ flat_map (says name subsection key) sections
        → said name subsection key (map listing (s ∷ sections)) ≡ flat_map (says name subsection key) (s ∷ sections)
    go true e later = rw e (ap (λ more. said_by key (listing s) ++ more) later)
    go false e later = rw e later

-- what decides in the sections that say something of a key is what decides in the sections
pub deciding_said : (key : List ℕ) (keeps : Meta → Bool) (sections : List Listed)
    → filter_map (λ s. deciding s.entries) (filter (λ s. keeps s.meta) (flat_map (said_by key) sections))
    ≡ filter_map (λ s. deciding (entries_of_key key s)) (filter (λ s. keeps s.meta) sections)
deciding_said key keeps [] = refl
deciding_said key keeps (s ∷ sections) = go (keeps s.meta) (entries_of_key key s) refl refl (deciding_said key keeps sections)
  where
    rest : List (List ℕ)
    rest = filter_map (λ s. deciding (entries_of_key key s)) (filter (λ s. keeps s.meta) sections)

    go : (t : Bool) (es : List DocumentEntry) → keeps s.meta ≡ t → entries_of_key key s ≡ es
        → filter_map (λ s. deciding s.entries) (filter (λ s. keeps s.meta) (flat_map (said_by key) sections)) ≡ rest
        → filter_map (λ s. deciding s.entries) (filter (λ s. keeps s.meta) (flat_map (said_by key) (s ∷ sections)))
        ≡ filter_map (λ s. deciding (entries_of_key key s)) (filter (λ s. keeps s.meta) (s ∷ sections))
    go false [] kept is later = rw (is, kept) later
    go true [] kept is later = rw (is, kept) (later ∙ ap (λ o. cons_option o rest) (sym (ap deciding is)))
    go false (e ∷ es) kept is later = rw (is, kept) later
    go true (e ∷ es) kept is later = rw (is, kept) (ap (cons_option (deciding (e ∷ es))) later ∙ ap (λ o. cons_option o rest) (sym (ap deciding is)))

-- the last value, by the sections of the name and subsection
pub last_value_is : (name : List ℕ) (subsection : Option (List ℕ)) (key : List ℕ) (keeps : Meta → Bool) (sections : List Listed)
    → last_value name subsection key keeps sections
    ≡ option_map plain (last_or None (filter_map (λ s. deciding (entries_of_key key s)) (filter (λ s. keeps s.meta) (named name subsection sections))))
last_value_is name subsection key keeps sections = ap (λ raws. option_map plain (last_or None raws)) (deciding_said key keeps (named name subsection sections))

-- sections that agree in their documents, numbers and metadata are listed alike
pub same_listed : (one other : List SectionState) → map section_document one ≡ map section_document other → map (λ s. s.number) one ≡ map (λ s. s.number) other
    → map (λ s. s.meta) one ≡ map (λ s. s.meta) other → map listing one ≡ map listing other
same_listed [] [] documents numbers metas = refl
same_listed [] (t ∷ ts) documents numbers metas = absurd (cc)
same_listed (s ∷ ss) [] documents numbers metas = absurd (cc)
same_listed (s ∷ ss) (t ∷ ts) documents numbers metas =
    let document : section_document s ≡ section_document t = cc in
    let number : s.number ≡ t.number = cc in
    let meta : s.meta ≡ t.meta = cc in
    let later : map listing ss ≡ map listing ts = same_listed ss ts (cc) (cc) (cc) in
    λ i. record { number = number i; meta = meta i; document = document i } ∷ later i

-- a lossy load as the full one
pub lossy_listed : (parts : List Part) (full lossy : State) → IsFullLoad parts full → IsLoad keeps_meaning parts lossy
    → map (λ s. s.number) lossy.sections ≡ map (λ s. s.number) full.sections → map (λ s. s.meta) lossy.sections ≡ map (λ s. s.meta) full.sections → listed lossy ≡ listed full
lossy_listed parts full lossy whole part numbers metas =
    same_listed lossy.sections full.sections (ap (λ (d : Document). d.sections) (lossy_document parts lossy part ∙ sym (full_document parts full whole))) numbers metas

-- and equal to states of the same documents
pub compared_so : (one other : List SectionState) → map section_document one ≡ map section_document other
    → map (λ s. compared (section_document s)) one ≡ map (λ s. compared (section_document s)) other
compared_so [] [] same = refl
compared_so [] (t ∷ ts) same = absurd (cc)
compared_so (s ∷ ss) [] same = absurd (cc)
compared_so (s ∷ ss) (t ∷ ts) same =
    let here : section_document s ≡ section_document t = cc in
    let later : map (λ s. compared (section_document s)) ss ≡ map (λ s. compared (section_document s)) ts = compared_so ss ts (cc) in
    λ i. compared (here i) ∷ later i
