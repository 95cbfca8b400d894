-- Expansions of states are states, and those of clean ones are clean.
use Rattle.std.proofs.Common.{◌≡◌, ℕ, zero, suc, ◌==◌, Bool, true, false, not, List, [], ◌∷◌, ◌++◌, Option, Some, Result, Ok, Err, refl, sym, ap, subst, ◌∙◌}
use Rattle.std.specs.List.{AllByRecursion}
use Rattle.gitconf_text.specs.Document.{IsText, gathered}
use Rattle.gitconf_text.specs.Part.{LineEndsItem, Part}
use Rattle.gitconf_text.specs.Token.{tokens_of}
use Rattle.gitconf_sources.specs.Metadata.{Meta}
use Rattle.gitconf_items.specs.TokenDocument.{keeps_meaning}
use Rattle.gitconf_items.proofs.TextLaws.{lossy_keeps_entries}
use Rattle.gitconf_sources.specs.Reports.{FileReport, read_of}
use Rattle.gitconf_sources.specs.declared.fault.FileFault.{FileFault}
use Rattle.gitconf_state.specs.Clean.{has_blanks, IsClean, IsCleanSection}
use Rattle.gitconf_state.specs.Edits.{held_behind_last, numbered_from}
use Rattle.gitconf_state.specs.Including.{spliced, whole}
use Rattle.gitconf_state.specs.LineEnds.{file_line_end}
use Rattle.gitconf_state.specs.Loads.{IsFullLoad, IsLoad}
use Rattle.gitconf_state.specs.State.{is_entry, is_item, entries_of, HasItems, HasSectionItems, SectionState, State}
use Rattle.gitconf_state.proofs.Edits.Items.{file_line_end_is, one_line_end}
use Rattle.gitconf_state.proofs.Edits.Keep.{behind_last_holds, holds_appended, joined_passes, numbered_from_clean, numbered_from_items, without_entries}
use Rattle.gitconf_state.proofs.Loading.Clean.{full_has_items, full_is_clean, kept_has_items, lossy_is_clean}
use Rattle.gitconf_state.proofs.Loading.Document as document
use Rattle.gitconf_includes.specs.Said.{parse_said, Said, TooDeep}
use Rattle.gitconf_includes.specs.Expansion.{Asks, Expands, included_meta, IsFetched, IsLoaded, IsLoadOf, May, On, Reached}
use Rattle.gitconf_includes.specs.Inclusion.{inclusion, named_paths}
use Rattle.gitconf_includes.specs.Laws.{file_of, AreHeaded, HoldsOfNamed, IncludesHeaded}
use Rattle.gitconf_includes.specs.Paths.{file_named}
use Rattle.gitconf_includes.proofs.Keeping.{all_of, level_of_named, limit, whole_expansion}

-- what holds of all holds of the first, and of the others
first_hold : {A : Type 0} (P : A → Type 0) (xs ys : List A) → AllByRecursion P (xs ++ ys) → AllByRecursion P xs
first_hold P [] ys all = tt
first_hold P (x ∷ xs) ys all = (all.0, first_hold P xs ys all.1)

others_hold : {A : Type 0} (P : A → Type 0) (xs ys : List A) → AllByRecursion P (xs ++ ys) → AllByRecursion P ys
others_hold P [] ys all = all
others_hold P (x ∷ xs) ys all = others_hold P xs ys all.1

-- a file with items, with another one put in
pub items_put_in : (other : State) (rest : List SectionState) (done : State) → HasItems (whole done rest) → HasItems other → HasItems (whole (spliced other rest done) rest)
items_put_in other rest done has more = record {
  front = has.front;
  sections = holds_appended HasSectionItems (held_behind_last line_end other.front done.sections ++ numbered_from done.next other.sections) rest
      (holds_appended HasSectionItems (held_behind_last line_end other.front done.sections) (numbered_from done.next other.sections)
      (behind_last_holds HasSectionItems line_end other.front
      (λ s one. record { header = one.header; items = one.items; held = joined_passes is_item line_end s.held other.front closes one.held more.front }) done.sections
      (first_hold HasSectionItems done.sections rest has.sections))
      (numbered_from_items done.next other.sections more.sections))
      (others_hold HasSectionItems done.sections rest has.sections);
}
  where
    line_end : List ℕ
    line_end = file_line_end (whole done rest)

    closes : is_item (LineEndsItem line_end) ≡ true
    closes = one_line_end line_end (file_line_end_is (whole done rest))

-- a clean one, with a clean one that has no entry in its front
pub record IsHeaded (state : State) : Type 0 where
  pub clean : IsClean state
  pub front : entries_of state.front ≡ []

clean_put_in : (other : State) (rest : List SectionState) (done : State) → IsClean (whole done rest) → IsHeaded other → IsClean (whole (spliced other rest done) rest)
clean_put_in other rest done clean more = record {
  sections = holds_appended IsCleanSection (held_behind_last line_end other.front done.sections ++ numbered_from done.next other.sections) rest
      (holds_appended IsCleanSection (held_behind_last line_end other.front done.sections) (numbered_from done.next other.sections)
      (behind_last_holds IsCleanSection line_end other.front
      (λ s one. record {
        named = one.named;
        blanks = one.blanks;
        held_blanks = joined_passes has_blanks line_end s.held other.front refl one.held_blanks more.clean.blanks;
        held = joined_passes (λ i. not (is_entry i)) line_end s.held other.front refl one.held (without_entries other.front more.front);
      }) done.sections (first_hold IsCleanSection done.sections rest clean.sections))
      (numbered_from_clean done.next other.sections more.clean.sections))
      (others_hold IsCleanSection done.sections rest clean.sections);
  blanks = clean.blanks;
  names = clean.names;
}
  where
    line_end : List ℕ
    line_end = file_line_end (whole done rest)

-- what is loaded
loaded_items : (lossy : Bool) (text : List ℕ) (place : Meta) (state : State) → IsLoaded lossy text place state → HasItems state
loaded_items false text place state is = full_has_items is.0 state is.1.fits (record { tokens = is.2.tokens_are; held = is.2.held })
loaded_items true text place state is =
    kept_has_items keeps_meaning is.0 state (lossy_keeps_entries (tokens_of is.0)) is.1.fits (record { tokens = is.2.tokens_are; held = is.2.held })

-- a load with no entry in its front
pub headed : (lossy : Bool) (text : List ℕ) (place : Meta) (state : State) → entries_of state.front ≡ [] → IsLoaded lossy text place state → IsHeaded state
headed false text place state front is =
    let load : IsFullLoad is.0 state = record { tokens = is.2.tokens_are; held = is.2.held } in
    record { clean = full_is_clean is.0 state is.1.fits load; front = front }
headed true text place state front is =
    let load : IsLoad keeps_meaning is.0 state = record { tokens = is.2.tokens_are; held = is.2.held } in
    record { clean = lossy_is_clean is.0 state is.1.fits load front; front = front }

pub loaded_headed : (lossy : Bool) (text : List ℕ) (place : Meta) (state : State) → ((parts : List Part) → IsText text parts → (gathered parts).front ≡ []) → IsLoaded lossy text place state → IsHeaded state
loaded_headed false text place state none is =
    headed false text place state (ap (λ d. d.front) (document.full_document is.0 state (record { tokens = is.2.tokens_are; held = is.2.held })) ∙ none is.0 is.1) is
loaded_headed true text place state none is =
    headed true text place state (ap (λ d. d.front) (document.lossy_document is.0 state (record { tokens = is.2.tokens_are; held = is.2.held })) ∙ none is.0 is.1) is

-- what is fetched was loaded, of a text that the table says
pub fetched_load : (asks : Asks) (from : Meta) (path : List ℕ) (other : State) → IsFetched asks from path (Ok other)
    → (text : List ℕ) × May asks.table (λ told. ◌≡◌ {A = Result (List ℕ) FileFault} (Ok text) (read_of (told path))) × IsLoaded asks.rules.lossy text (included_meta from path) other
fetched_load asks from path other (Err fault, told, is) = absurd (cc)
fetched_load asks from path other (Ok text, told, is) = (text, told, go (from.level == 255) is)
  where
    go : (end : Bool) → elim end as (λ _. Type 0) [ true ↦ ◌≡◌ {A = Result State Said} (Ok other) (Err (TooDeep asks.rules.max_depth)) | false ↦ IsLoadOf (parse_said path) asks.rules.lossy text (included_meta from path) (Ok other) ]
        → IsLoaded asks.rules.lossy text (included_meta from path) other
    go true is = absurd (cc)
    go false is = is

pub fetched_items : (asks : Asks) (from : Meta) (path : List ℕ) (other : State) → IsFetched asks from path (Ok other) → HasItems other
fetched_items asks from path other fetched = let load = fetched_load asks from path other fetched in loaded_items asks.rules.lossy load.0 (included_meta from path) other load.2

-- An expansion of a file with items has items.
pub items_stay : (left : ℕ) (asks : Asks) (parent : Option State) (old : State) (r : Reached) → HasItems old → Expands left asks parent old r → HasItems (file_of r)
items_stay left asks parent old r has expands =
    whole_expansion HasItems asks (λ other rest done room here more. items_put_in other rest done here more)
    (fetched_items asks) left parent old r has expands

-- what is fetched is clean, if it has no entry in its front
fetched_headed : (asks : Asks) (from : Meta) (path : List ℕ) (other : State) → entries_of other.front ≡ [] → IsFetched asks from path (Ok other) → IsHeaded other
fetched_headed asks from path other front fetched = let load = fetched_load asks from path other fetched in headed asks.rules.lossy load.0 (included_meta from path) other front load.2

-- what is asked of a file that a section names
abbrev Asked : (left : ℕ) → Asks → (from : Meta) → (file : List ℕ) → Type 0
Asked left asks from file = (other : State) → IsFetched asks from file (Ok other) → (entries_of other.front ≡ []) × IncludesHeaded left asks other

-- An expansion of a file that has none before its first section itself has none, if no file that is included has one.
pub headed_stays : (left : ℕ) (asks : Asks) (parent : Option State) (old : State) (r : Reached) → IncludesHeaded left asks old → IsHeaded old → Expands left asks parent old r → IsHeaded (file_of r)
unfolding Expands IncludesHeaded
headed_stays zero asks parent old r included is expands = limit IsHeaded asks old r is expands
headed_stays (suc left) asks parent old r included is expands =
    level_of_named IsHeaded IsHeaded asks (Expands left asks) (Asked left asks)
    (λ other rest done room here more. record { clean = clean_put_in other rest done here.clean more; front = here.front })
    (λ from path other above full named fetched deeper. let asked = named other fetched in headed_stays left asks (Some above) other (On full) asked.1 (fetched_headed asks from path other asked.0 fetched) deeper)
    parent old r included is expands

-- A clean file stays clean, if no file that is included has an entry before its first section.
pub clean_stays : (left : ℕ) (asks : Asks) (parent : Option State) (old : State) (r : Reached) → IncludesHeaded left asks old → IsClean old → Expands left asks parent old r → IsClean (file_of r)
unfolding Expands IncludesHeaded
clean_stays zero asks parent old r included clean expands = limit IsClean asks old r clean expands
clean_stays (suc left) asks parent old r included clean expands =
    level_of_named IsClean IsHeaded asks (Expands left asks) (Asked left asks) (λ other rest done room here more. clean_put_in other rest done here more)
    (λ from path other above full named fetched deeper. let asked = named other fetched in headed_stays left asks (Some above) other (On full) asked.1 (fetched_headed asks from path other asked.0 fetched) deeper)
    parent old r included clean expands

-- If no text at all has one, none that is included has.
pub all_headed : (files : List ℕ → FileReport) (asks : Asks) → asks.table ≡ Some files → AreHeaded files → (left : ℕ) (state : State) → IncludesHeaded left asks state
unfolding IncludesHeaded
all_headed files asks tells headed zero state = tt
all_headed files asks tells headed (suc left) state =
    all_of (HoldsOfNamed asks (Asked left asks)) (λ s. all_of (λ path. (file : List ℕ) → file_named asks.rules s.meta path ≡ Ok (Some file) → Asked left asks s.meta file)
    (λ path file named other fetched. ((fetched_front s.meta file other fetched).front, all_headed files asks tells headed left other)) (named_paths (inclusion s))) state.sections
  where
    fetched_front : (from : Meta) (path : List ℕ) (other : State) → IsFetched asks from path (Ok other) → IsHeaded other
    fetched_front from path other fetched =
        let load = fetched_load asks from path other fetched in
        let told = subst (λ (t : Option (List ℕ → FileReport)). May t (λ (files : List ℕ → FileReport). ◌≡◌ {A = Result (List ℕ) FileFault} (Ok load.0) (read_of (files path)))) tells load.1 in
        loaded_headed asks.rules.lossy load.0 (included_meta from path) other (λ parts is. headed path load.0 parts (sym told) is) load.2
