-- A lossy expansion says what one does that keeps all.
use Rattle.std.proofs.Common.{◌≡◌, ◌⊎◌, ℕ, zero, suc, ◌+◌, if◌then◌else◌, Bool, true, false, List, [], ◌∷◌, ◌++◌, length, Option, Some, None, Result, Ok, Err, inl, inr, refl, sym, ap, subst, ◌∙◌}
use Rattle.std.specs.Prelude.{codes, filter, flat_map, map}
use Rattle.std.specs.List.{list_any, range_with_len, AllByRecursion}
use Rattle.std.specs.Option.{unwrap_or}
use Rattle.std.proofs.lemmas.List.{map-append}
use Rattle.gitconf_text.specs.Document.{unmarked, Document}
use Rattle.gitconf_text.specs.Part.{Item}
use Rattle.gitconf_sources.specs.Metadata.{Meta}
use Rattle.gitconf_glob.specs.Pattern.{matches}
use Rattle.gitconf_items.specs.TokenDocument.{keeps_meaning}
use Rattle.gitconf_read.proofs.OneDocument.{one_document}
use Rattle.gitconf_sources.specs.Reports.{FileReport, is_there}
use Rattle.gitconf_sources.specs.declared.fault.FileFault.{FileFault}
use Rattle.gitconf_includes.specs.Said.{NoRoom, Said, TooDeep}
use Rattle.gitconf_includes.specs.Conditions.{holds}
use Rattle.gitconf_includes.specs.Paths.{file_named}
use Rattle.gitconf_includes.specs.Rules.{Rules}
use Rattle.gitconf_state.specs.Edits.{held_behind_last, numbered_from}
use Rattle.gitconf_state.specs.Including.{has_room, spliced, visited, whole, with_sections}
use Rattle.gitconf_state.specs.LineEnds.{file_line_end}
use Rattle.gitconf_state.specs.Loads.{IsFullLoad, IsLoad}
use Rattle.gitconf_state.specs.Lookup.{entries_of_key, has_name, listing, meaning, Listed}
use Rattle.gitconf_state.specs.State.{document_of, section_document, SectionState, State}
use Rattle.gitconf_state.proofs.Listings.{same_listed}
use Rattle.gitconf_state.proofs.Loading.Document.{full_document, lossy_document}
use Rattle.gitconf_includes.specs.Expansion.{included_meta, Deeper, Ended, Expands, Follows, FollowsAll, Gives, IsFetched, IsJoined, IsLoaded, IsPutIn, On, Reached, Visits, Wanting}
use Rattle.gitconf_includes.specs.Inclusion.{followed, has_url, inclusion, inclusion_by, Includes, Inclusion, NoInclude}
use Rattle.gitconf_includes.specs.Laws.{asks_with, ParentsSayTheSame, SayTheSame}
use Rattle.gitconf_includes.proofs.States.{fetched_load}

-- lists that are listed alike

listed_first : (s t : SectionState) (ss ts : List SectionState) → map listing (s ∷ ss) ≡ map listing (t ∷ ts) → listing s ≡ listing t
listed_first s t ss ts same = cc

listed_behind : (s t : SectionState) (ss ts : List SectionState) → map listing (s ∷ ss) ≡ map listing (t ∷ ts) → map listing ss ≡ map listing ts
listed_behind s t ss ts same = cc

pub same_length : (ss ts : List SectionState) → map listing ss ≡ map listing ts → length ss ≡ length ts
same_length [] [] same = refl
same_length [] (t ∷ ts) same = absurd (cc)
same_length (s ∷ ss) [] same = absurd (cc)
same_length (s ∷ ss) (t ∷ ts) same = ap suc (same_length ss ts (listed_behind s t ss ts same))

pub same_numbered : (first : ℕ) (ss ts : List SectionState) → map listing ss ≡ map listing ts → map listing (numbered_from first ss) ≡ map listing (numbered_from first ts)
same_numbered first [] [] same = refl
same_numbered first [] (t ∷ ts) same = absurd (cc)
same_numbered first (s ∷ ss) [] same = absurd (cc)
same_numbered first (s ∷ ss) (t ∷ ts) same =
    let here = listed_first s t ss ts same in
    let later = same_numbered (first + 1) ss ts (listed_behind s t ss ts same) in
    λ i. record { number = first; meta = (here i).meta; document = (here i).document } ∷ later i

-- what is held after the last one is not asked
pub listed_held : (line_end : List ℕ) (front : List Item) (ss : List SectionState) → map listing (held_behind_last line_end front ss) ≡ map listing ss
listed_held line_end front [] = refl
listed_held line_end front (s ∷ []) = refl
listed_held line_end front (s ∷ t ∷ ss) = ap (λ l. listing s ∷ l) (listed_held line_end front (t ∷ ss))

documents_listed : (ss : List SectionState) → map section_document ss ≡ map (λ (l : Listed). l.document) (map listing ss)
documents_listed [] = refl
documents_listed (s ∷ ss) = ap (λ l. section_document s ∷ l) (documents_listed ss)

pub documents_alike : (one other : State) → SayTheSame one other → document_of one ≡ document_of other
documents_alike one other same =
    let documents = documents_listed one.sections ∙ ap (map (λ (l : Listed). l.document)) same.sections ∙ sym (documents_listed other.sections) in
    λ i. record { front = same.front i; sections = documents i }

-- the file as it is
whole_alike : (rest left : List SectionState) (done now : State) → map listing rest ≡ map listing left → SayTheSame done now → SayTheSame (whole done rest) (whole now left)
whole_alike rest left done now rests same = record {
  front = same.front;
  sections = map-append listing done.sections rest ∙ (λ i. same.sections i ++ rests i) ∙ sym (map-append listing now.sections left);
  next = same.next;
}

-- one section more was visited
visited_alike : (s t : SectionState) (done now : State) → listing s ≡ listing t → SayTheSame done now → SayTheSame (visited done s) (visited now t)
visited_alike s t done now sections same = whole_alike (s ∷ []) (t ∷ []) done now (ap (λ l. l ∷ []) sections) same

-- one file more is put in
spliced_alike : (full lossy : State) (rest left : List SectionState) (done now : State) → SayTheSame full lossy → SayTheSame done now → SayTheSame (spliced full rest done) (spliced lossy left now)
spliced_alike full lossy rest left done now others same = record {
  front = same.front;
  sections =
      map-append listing (held_behind_last (file_line_end (whole done rest)) full.front done.sections) (numbered_from done.next full.sections)
      ∙ (λ i. before i ++ behind i)
      ∙ sym (map-append listing (held_behind_last (file_line_end (whole now left)) lossy.front now.sections) (numbered_from now.next lossy.sections));
  next = λ i. same.next i + same_length full.sections lossy.sections others.sections i;
}
  where
    before : map listing (held_behind_last (file_line_end (whole done rest)) full.front done.sections) ≡ map listing (held_behind_last (file_line_end (whole now left)) lossy.front now.sections)
    before = listed_held (file_line_end (whole done rest)) full.front done.sections ∙ same.sections ∙ sym (listed_held (file_line_end (whole now left)) lossy.front now.sections)

    behind : map listing (numbered_from done.next full.sections) ≡ map listing (numbered_from now.next lossy.sections)
    behind = same_numbered done.next full.sections lossy.sections others.sections ∙ ap (λ n. map listing (numbered_from n lossy.sections)) same.next

-- what a section includes is told by what is listed of it
included_listed : Listed → Inclusion
included_listed l = inclusion_by l.document.name l.document.subsection (map meaning (entries_of_key (codes "path") l))

inclusion_alike : (s t : SectionState) → listing s ≡ listing t → inclusion s ≡ inclusion t
unfolding included_listed
inclusion_alike s t same = ap included_listed same

-- and so is whether it is followed
has_url_alike : (one other : State) → SayTheSame one other → has_url one ≡ has_url other
has_url_alike one other same =
    ap (λ (l : List Listed). λ (pattern : List ℕ). list_any (matches false pattern) (map meaning (flat_map (entries_of_key (codes "url")) (filter (has_name (codes "remote")) l)))) same.sections

followed_alike : (rules : Rules) (from : Meta) (one other : State) (inclusion : Inclusion) → SayTheSame one other → followed rules from one inclusion ≡ followed rules from other inclusion
followed_alike rules from one other NoInclude same = refl
followed_alike rules from one other (Includes None paths) same = refl
followed_alike rules from one other (Includes (Some condition) paths) same =
    ap (λ (h : List ℕ → Bool). elim (holds rules from h condition) as (λ _. Result (List (List ℕ)) Said) [ Err said ↦ Err said | Ok follows ↦ if follows then Ok paths else Ok [] ])
    (has_url_alike one other same)

-- files of one text that come from one place
numbers_alike : (one other : State) → length one.sections ≡ length other.sections → map (λ s. s.number) one.sections ≡ range_with_len 0 (length one.sections)
    → map (λ s. s.number) other.sections ≡ range_with_len 0 (length other.sections) → map (λ s. s.number) one.sections ≡ map (λ s. s.number) other.sections
numbers_alike one other lengths is too = is ∙ ap (range_with_len 0) lengths ∙ sym too

documents_length : (ss ts : List SectionState) → map section_document ss ≡ map section_document ts → length ss ≡ length ts
documents_length [] [] same = refl
documents_length [] (t ∷ ts) same = absurd (cc)
documents_length (s ∷ ss) [] same = absurd (cc)
documents_length (s ∷ ss) (t ∷ ts) same = ap suc (documents_length ss ts (cc))

metas_alike : (place : Meta) (ss ts : List SectionState) → length ss ≡ length ts → AllByRecursion (λ s. s.meta ≡ place) ss → AllByRecursion (λ s. s.meta ≡ place) ts
    → map (λ s. s.meta) ss ≡ map (λ s. s.meta) ts
metas_alike place [] [] lengths all too = refl
metas_alike place [] (t ∷ ts) lengths all too = absurd (cc)
metas_alike place (s ∷ ss) [] lengths all too = absurd (cc)
metas_alike place (s ∷ ss) (t ∷ ts) lengths all too =
    let here : s.meta ≡ t.meta = all.0 ∙ sym too.0 in
    let later = metas_alike place ss ts (cc) all.1 too.1 in
    λ i. here i ∷ later i

pub loaded_alike : (text : List ℕ) (place : Meta) (full lossy : State) → IsLoaded false text place full → IsLoaded true text place lossy → SayTheSame full lossy
loaded_alike text place full lossy is too =
    let whole_load : IsFullLoad is.0 full = record { tokens = is.2.tokens_are; held = is.2.held } in
    let part_load : IsLoad keeps_meaning too.0 lossy = record { tokens = too.2.tokens_are; held = too.2.held } in
    let document : document_of full ≡ document_of lossy =
    full_document is.0 full whole_load ∙ one_document (unmarked text) is.0 too.0 is.1.spelled_is is.1.fits too.1.spelled_is too.1.fits ∙ sym (lossy_document too.0 lossy part_load) in
    let documents : map section_document full.sections ≡ map section_document lossy.sections = ap (λ (d : Document). d.sections) document in
    let lengths = documents_length full.sections lossy.sections documents in
    record {
      front = ap (λ (d : Document). d.front) document;
      sections = same_listed full.sections lossy.sections documents (numbers_alike full lossy lengths is.2.numbers too.2.numbers) (metas_alike place full.sections lossy.sections lengths is.2.metas too.2.metas);
      next = is.2.next ∙ lengths ∙ sym too.2.next;
    }

module _ (rules : Rules) (files : List ℕ → FileReport) where
  -- what a path that goes on puts in
  record IsPut (lossy : Bool) (deeper : Deeper) (from : Meta) (file : List ℕ) (rest : List SectionState) (done now : State) : Type 0 where
    other : State
    full : State
    fetched : IsFetched (asks_with lossy rules files) from file (Ok other)
    expands : deeper (Some (whole done rest)) other (On full)
    put : now ≡ spliced full rest done

  abbrev FoundOrNot : (lossy : Bool) → Deeper → (from : Meta) → (file : List ℕ) → (rest : List SectionState) → (done now : State) → (there : Bool) → Type 0
  FoundOrNot lossy deeper from file rest done now false = now ≡ done
  FoundOrNot lossy deeper from file rest done now true = IsPut lossy deeper from file rest done now

  abbrev WentOn : (lossy : Bool) → Deeper → (from : Meta) → (rest : List SectionState) → (done now : State) → Result (Option (List ℕ)) Said → Type 0
  WentOn lossy deeper from rest done now (Err said) = ⊥
  WentOn lossy deeper from rest done now (Ok None) = now ≡ done
  WentOn lossy deeper from rest done now (Ok (Some file)) = FoundOrNot lossy deeper from file rest done now (is_there (files file))

  put_went : (lossy : Bool) (deeper : Deeper) (from : Meta) (file : List ℕ) (rest : List SectionState) (done now other : State) (inner : Reached) → IsFetched (asks_with lossy rules files) from file (Ok other)
      → deeper (Some (whole done rest)) other inner → IsPutIn rest done inner (On now) → IsPut lossy deeper from file rest done now
  put_went lossy deeper from file rest done now other (Ended said state) fetched expands is = absurd (cc)
  put_went lossy deeper from file rest done now other (On full) fetched expands is = go (has_room full rest done) is
    where
      go : (b : Bool) → elim b as (λ _. Type 0) [ true ↦ On now ≡ On (spliced full rest done) | false ↦ On now ≡ Ended (NoRoom 3) (whole done rest) ] → IsPut lossy deeper from file rest done now
      go true put = record { other = other; full = full; fetched = fetched; expands = expands; put = cc }
      go false none = absurd (cc)

  joined_went : (lossy : Bool) (deeper : Deeper) (from : Meta) (file : List ℕ) (rest : List SectionState) (done now : State) (fetched : Result State Said) → IsFetched (asks_with lossy rules files) from file fetched
      → IsJoined deeper rest done fetched (On now) → IsPut lossy deeper from file rest done now
  joined_went lossy deeper from file rest done now (Err said) fetches joins = absurd (cc)
  joined_went lossy deeper from file rest done now (Ok other) fetches joins = put_went lossy deeper from file rest done now other joins.0 fetches joins.1 joins.2

  went_on : (lossy : Bool) (deeper : Deeper) (from : Meta) (path : List ℕ) (rest : List SectionState) (done now : State) → Follows deeper (asks_with lossy rules files) from path rest done (On now)
      → WentOn lossy deeper from rest done now (file_named rules from path)
  went_on lossy deeper from path rest done now (inl wanting) = absurd (cc)
  went_on lossy deeper from path rest done now (inr is) = go (file_named rules from path) is
    where
      there_or_not : (file : List ℕ) (there : Bool) → elim there as (λ _. Type 0) [
        | false ↦ On now ≡ On done
        | true ↦ (fetched : Result State Said) × IsFetched (asks_with lossy rules files) from file fetched × IsJoined deeper rest done fetched (On now)
      ] → FoundOrNot lossy deeper from file rest done now there
      there_or_not file false left_out = cc
      there_or_not file true found = joined_went lossy deeper from file rest done now found.0 found.1 found.2

      go : (named : Result (Option (List ℕ)) Said) → elim named as (λ _. Type 0) [
        | Err said ↦ On now ≡ Ended said (whole done rest)
        | Ok None ↦ On now ≡ On done
        | Ok (Some file) ↦ (there : Bool) × (there ≡ is_there (files file)) × elim there as (λ _. Type 0) [
          | false ↦ On now ≡ On done
          | true ↦ (fetched : Result State Said) × IsFetched (asks_with lossy rules files) from file fetched × IsJoined deeper rest done fetched (On now)
        ]
      ] → WentOn lossy deeper from rest done now named
      go (Err said) refused = absurd (cc)
      go (Ok None) left_out = cc
      go (Ok (Some file)) found = subst (FoundOrNot lossy deeper from file rest done now) found.1 (there_or_not file found.0 found.2)

  -- both read one text
  fetched_alike : (from : Meta) (path : List ℕ) (full lossy : State) → IsFetched (asks_with false rules files) from path (Ok full) → IsFetched (asks_with true rules files) from path (Ok lossy) → SayTheSame full lossy
  fetched_alike from path full lossy is too =
      let load = fetched_load (asks_with false rules files) from path full is in
      let part = fetched_load (asks_with true rules files) from path lossy too in
      let text : part.0 ≡ load.0 = (let same : ◌≡◌ {A = Result (List ℕ) FileFault} (Ok part.0) (Ok load.0) = part.1 ∙ sym load.1 in cc) in
      loaded_alike load.0 (included_meta from path) full lossy load.2 (subst (λ t. IsLoaded true t (included_meta from path) lossy) text part.2)

  module _ (keeping leaving : Deeper)
      (deeper : (parent above other another full lossy : State) → SayTheSame parent above → SayTheSame other another → keeping (Some parent) other (On full) → leaving (Some above) another (On lossy) → SayTheSame full lossy) where
    put_alike : (from : Meta) (file : List ℕ) (rest left : List SectionState) (done begun now then_now : State) → map listing rest ≡ map listing left → SayTheSame done begun
        → IsPut false keeping from file rest done now → IsPut true leaving from file left begun then_now → SayTheSame now then_now
    put_alike from file rest left done begun now then_now rests same is too =
        let others = fetched_alike from file is.other too.other is.fetched too.fetched in
        let inner = deeper (whole done rest) (whole begun left) is.other too.other is.full too.full (whole_alike rest left done begun rests same) others is.expands too.expands in
        subst (λ n. SayTheSame n then_now) (sym is.put) (subst (SayTheSame (spliced is.full rest done)) (sym too.put) (spliced_alike is.full too.full rest left done begun inner same))

    follows_alike : (from : Meta) (path : List ℕ) (rest left : List SectionState) (done begun now then_now : State) → map listing rest ≡ map listing left → SayTheSame done begun
        → Follows keeping (asks_with false rules files) from path rest done (On now) → Follows leaving (asks_with true rules files) from path left begun (On then_now) → SayTheSame now then_now
    follows_alike from path rest left done begun now then_now rests same is too =
        go (file_named rules from path) (went_on false keeping from path rest done now is) (went_on true leaving from path left begun then_now too)
      where
        as_before : now ≡ done → then_now ≡ begun → SayTheSame now then_now
        as_before is too = subst (λ n. SayTheSame n then_now) (sym is) (subst (SayTheSame done) (sym too) same)

        found : (file : List ℕ) (there : Bool) → FoundOrNot false keeping from file rest done now there → FoundOrNot true leaving from file left begun then_now there → SayTheSame now then_now
        found file false is too = as_before is too
        found file true is too = put_alike from file rest left done begun now then_now rests same is too

        go : (named : Result (Option (List ℕ)) Said) → WentOn false keeping from rest done now named → WentOn true leaving from left begun then_now named → SayTheSame now then_now
        go (Err said) is too = absurd is
        go (Ok None) is too = as_before is too
        go (Ok (Some file)) is too = found file (is_there (files file)) is too

    follows_all_alike : (from : Meta) (paths : List (List ℕ)) (rest left : List SectionState) (done begun now then_now : State) → map listing rest ≡ map listing left → SayTheSame done begun
        → FollowsAll keeping (asks_with false rules files) from paths rest done (On now) → FollowsAll leaving (asks_with true rules files) from paths left begun (On then_now) → SayTheSame now then_now
    follows_all_alike from [] rest left done begun now then_now rests same is too =
        let here : now ≡ done = cc in
        let there : then_now ≡ begun = cc in
        subst (λ n. SayTheSame n then_now) (sym here) (subst (SayTheSame done) (sym there) same)
    follows_all_alike from (path ∷ paths) rest left done begun now then_now rests same (Ended said file, is, later) too = absurd (cc)
    follows_all_alike from (path ∷ paths) rest left done begun now then_now rests same (On mid, is, later) (Ended said file, is_too, later_too) = absurd (cc)
    follows_all_alike from (path ∷ paths) rest left done begun now then_now rests same (On mid, is, later) (On mid_too, is_too, later_too) =
        follows_all_alike from paths rest left mid mid_too now then_now rests (follows_alike from path rest left done begun mid mid_too rests same is is_too) later later_too

    searched_alike : (parent above : Option State) (one other : State) → ParentsSayTheSame parent above → SayTheSame one other → SayTheSame (unwrap_or parent one) (unwrap_or above other)
    searched_alike None None one other parents same = same
    searched_alike None (Some above) one other parents same = absurd parents
    searched_alike (Some parent) None one other parents same = absurd parents
    searched_alike (Some parent) (Some above) one other parents same = parents

    gives_alike : (parent above : Option State) (from : Meta) (inclusion : Inclusion) (rest left : List SectionState) (done begun now then_now : State) → ParentsSayTheSame parent above
        → map listing rest ≡ map listing left → SayTheSame done begun
        → Gives keeping (asks_with false rules files) parent from inclusion rest done (On now) → Gives leaving (asks_with true rules files) above from inclusion left begun (On then_now) → SayTheSame now then_now
    gives_alike parent above from inclusion rest left done begun now then_now parents rests same (inl wanting) too = absurd (cc)
    gives_alike parent above from inclusion rest left done begun now then_now parents rests same (inr is) (inl wanting) = absurd (cc)
    gives_alike parent above from inclusion rest left done begun now then_now parents rests same (inr is) (inr too) =
        go (followed rules from (unwrap_or parent (whole done rest)) inclusion) (followed rules from (unwrap_or above (whole begun left)) inclusion)
        (followed_alike rules from (unwrap_or parent (whole done rest)) (unwrap_or above (whole begun left)) inclusion
        (searched_alike parent above (whole done rest) (whole begun left) parents (whole_alike rest left done begun rests same))) is too
      where
        go : (one other : Result (List (List ℕ)) Said) → one ≡ other
            → elim one as (λ _. Type 0) [
              | Err said ↦ On now ≡ Ended said (whole done rest)
              | Ok all ↦ FollowsAll keeping (asks_with false rules files) from all rest done (On now)
            ]
            → elim other as (λ _. Type 0) [
              | Err said ↦ On then_now ≡ Ended said (whole begun left)
              | Ok all ↦ FollowsAll leaving (asks_with true rules files) from all left begun (On then_now)
            ] → SayTheSame now then_now
        go (Err said) other e is too = absurd (cc)
        go (Ok paths) (Err said) e is too = absurd (cc)
        go (Ok paths) (Ok others) e is too =
            let same_paths : paths ≡ others = cc in
            follows_all_alike from paths rest left done begun now then_now rests same is (subst (λ p. FollowsAll leaving (asks_with true rules files) from p left begun (On then_now)) (sym same_paths) too)

    visits_alike : (parent above : Option State) (rest left : List SectionState) (done begun now then_now : State) → ParentsSayTheSame parent above
        → map listing rest ≡ map listing left → SayTheSame done begun
        → Visits keeping (asks_with false rules files) parent rest done (On now) → Visits leaving (asks_with true rules files) above left begun (On then_now) → SayTheSame now then_now
    visits_alike parent above [] [] done begun now then_now parents rests same is too =
        let here : now ≡ done = cc in
        let there : then_now ≡ begun = cc in
        subst (λ n. SayTheSame n then_now) (sym here) (subst (SayTheSame done) (sym there) same)
    visits_alike parent above [] (t ∷ left) done begun now then_now parents rests same is too = absurd (cc)
    visits_alike parent above (s ∷ rest) [] done begun now then_now parents rests same is too = absurd (cc)
    visits_alike parent above (s ∷ rest) (t ∷ left) done begun now then_now parents rests same (Ended said file, is, later) too = absurd (cc)
    visits_alike parent above (s ∷ rest) (t ∷ left) done begun now then_now parents rests same (On mid, is, later) (Ended said file, is_too, later_too) = absurd (cc)
    visits_alike parent above (s ∷ rest) (t ∷ left) done begun now then_now parents rests same (On mid, is, later) (On mid_too, is_too, later_too) =
        let here = listed_first s t rest left rests in
        let others = listed_behind s t rest left rests in
        let gives = subst (λ m. Gives leaving (asks_with true rules files) above m (inclusion s) left (visited begun t) (On mid_too)) (sym (ap (λ (l : Listed). l.meta) here))
        (subst (λ n. Gives leaving (asks_with true rules files) above t.meta n left (visited begun t) (On mid_too)) (sym (inclusion_alike s t here)) is_too) in
        visits_alike parent above rest left mid mid_too now then_now parents others
        (gives_alike parent above s.meta (inclusion s) rest left (visited done s) (visited begun t) mid mid_too parents others (visited_alike s t done begun here same) is gives) later later_too

    level_alike : (parent above : Option State) (old other full lossy : State) → ParentsSayTheSame parent above → SayTheSame old other
        → Wanting old (On full) ⊎ Visits keeping (asks_with false rules files) parent old.sections (with_sections [] old) (On full)
        → Wanting other (On lossy) ⊎ Visits leaving (asks_with true rules files) above other.sections (with_sections [] other) (On lossy) → SayTheSame full lossy
    level_alike parent above old other full lossy parents same (inl wanting) too = absurd (cc)
    level_alike parent above old other full lossy parents same (inr is) (inl wanting) = absurd (cc)
    level_alike parent above old other full lossy parents same (inr is) (inr too) =
        visits_alike parent above old.sections other.sections (with_sections [] old) (with_sections [] other) full lossy parents same.sections
        (record { front = same.front; sections = refl; next = same.next }) is too

limit_alike : (refuses : Bool) (depth : ℕ) (old other full lossy : State) → SayTheSame old other → On full ≡ (if refuses then Ended (TooDeep depth) old else On old) → On lossy ≡ (if refuses then Ended (TooDeep depth) other else On other) → SayTheSame full lossy
limit_alike true depth old other full lossy same is too = absurd (cc)
limit_alike false depth old other full lossy same is too =
    let here : full ≡ old = cc in
    let there : lossy ≡ other = cc in
    subst (λ n. SayTheSame n lossy) (sym here) (subst (SayTheSame old) (sym there) same)

-- A lossy expansion says what one does that keeps all.
pub say_the_same : (rules : Rules) (files : List ℕ → FileReport) (left : ℕ) (parent above : Option State) (old other full lossy : State) → ParentsSayTheSame parent above → SayTheSame old other
    → Expands left (asks_with false rules files) parent old (On full) → Expands left (asks_with true rules files) above other (On lossy) → SayTheSame full lossy
unfolding Expands
say_the_same rules files zero parent above old other full lossy parents same is too = limit_alike rules.refuses_depth rules.max_depth old other full lossy same is too
say_the_same rules files (suc left) parent above old other full lossy parents same is too =
    level_alike rules files (Expands left (asks_with false rules files)) (Expands left (asks_with true rules files))
    (λ one another inner inner_too full lossy. say_the_same rules files left (Some one) (Some another) inner inner_too full lossy) parent above old other full lossy parents same is too

itself : (parent : Option State) → ParentsSayTheSame parent parent
itself None = tt
itself (Some one) = record { front = refl; sections = refl; next = refl }

pub one_document_said : (rules : Rules) (files : List ℕ → FileReport) (left : ℕ) (parent : Option State) (old full lossy : State)
    → Expands left (asks_with false rules files) parent old (On full) → Expands left (asks_with true rules files) parent old (On lossy) → document_of full ≡ document_of lossy
one_document_said rules files left parent old full lossy is too =
    documents_alike full lossy (say_the_same rules files left parent parent old old full lossy (itself parent) (record { front = refl; sections = refl; next = refl }) is too)
