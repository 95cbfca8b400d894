-- What is loaded is clean, if no text that is loaded or included has an entry before its first section.
use Rattle.std.proofs.Common.{◌≡◌, ℕ, Bool, true, false, not, if◌then◌else◌, List, [], ◌∷◌, Option, Some, None, Result, Ok, Err, inl, inr, refl, sym, ap, subst}
use Rattle.std.specs.List.{AllByRecursion, list_all}
use Rattle.gitconf_text.specs.Document.{IsText, gathered}
use Rattle.gitconf_text.specs.Part.{BlanksItem, CommentItem, EntryItem, Item, LineEndsItem, Part}
use Rattle.gitconf_sources.specs.Metadata.{api_meta, Meta, meta_of_file}
use Rattle.gitconf_sources.specs.declared.source.Source.{Source}
use Rattle.gitconf_sources.specs.Reports.{FileReport, May, read_of, VariableReport}
use Rattle.gitconf_sources.specs.declared.host.Places.{Places}
use Rattle.gitconf_sources.specs.FoundFiles.{AreFound, global_sources}
use Rattle.gitconf_sources.specs.declared.fault.FileFault.{FileFault}
use Rattle.gitconf_sources.specs.declared.fault.Stage.{Stage}
use Rattle.gitconf_sources.specs.declared.fault.Stage.TheVariants.{Open, Read, Memory}
use Rattle.gitconf_state.specs.Clean.{IsClean}
use Rattle.gitconf_state.specs.Edits.{Append, apply, joined}
use Rattle.gitconf_state.specs.LineEnds.{file_line_end}
use Rattle.gitconf_state.specs.Loads.{IsFullLoad}
use Rattle.gitconf_state.specs.State.{entries_of, is_entry, SectionState, State}
use Rattle.gitconf_state.proofs.Edits.Keep.{apply_clean, joined_passes, without_entries}
use Rattle.gitconf_state.proofs.Loading.Clean.{full_is_clean}
use Rattle.gitconf_read.proofs.OneDocument.{one_document}
use Rattle.gitconf_includes.specs.Expansion.{Asks, Ended, IsLoaded, On}
use Rattle.gitconf_includes.specs.Laws.{AreHeaded, IncludesHeaded}
use Rattle.gitconf_includes.proofs.Keeping.{all_of}
use Rattle.gitconf_includes.proofs.States.{all_headed, clean_stays, headed, headed_stays, IsHeaded, loaded_headed}
use Rattle.gitconf_loaders.specs.Headed.{AreHeadedAt, IsHeadedAt, IsHeadedText}
use Rattle.gitconf_loaders.specs.Resolving.{IsMadeOf}
use Rattle.gitconf_loaders.specs.Globals.{empty_file, home_rules, IsGlobal}
use Rattle.gitconf_loaders.specs.Paths.{AreFilesLoaded, has_room_behind, IsAppendedTo, IsFileLoaded, IsLoadedFrom, IsLoadOfPaths, IsMetaLoaded, IsTextTaken, Joins, once, taken}
use Rattle.gitconf_loaders.specs.Refused.{NoRoom, OutOfMemory, Refused, Unmade, Unreadable}
use Rattle.gitconf_loaders.proofs.Around.{around_made}

-- a full load
full_clean : (text : List ℕ) (meta : Meta) (state : State) → IsLoaded false text meta state → IsClean state
full_clean text meta state is =
    let load : IsFullLoad is.0 state = record { tokens = is.2.tokens_are; held = is.2.held } in
    full_is_clean is.0 state is.1.fits load

-- a file by its path, with no include
pub from_path : (table : Option (List ℕ → FileReport)) (path : List ℕ) (source : Source) (file : State) → IsLoadedFrom table path source (Ok file) → IsClean file
from_path table path source file (inl wanting) = absurd (cc)
from_path table path source file (inr (Err fault, told, is)) = absurd (cc)
from_path table path source file (inr (Ok trust, told, (Err fault, read, is))) = absurd (cc)
from_path table path source file (inr (Ok trust, told, (Ok text, read, load))) = full_clean text (meta_of_file path source trust) file load

-- where the text has no entry before its first section, the front has none
pub path_headed : (files : List ℕ → FileReport) (path : List ℕ) (source : Source) (file : State) → AreHeaded files → IsLoadedFrom (Some files) path source (Ok file) → IsHeaded file
path_headed files path source file texts (inl wanting) = absurd (cc)
path_headed files path source file texts (inr (Err fault, told, is)) = absurd (cc)
path_headed files path source file texts (inr (Ok trust, told, (Err fault, read, is))) = absurd (cc)
path_headed files path source file texts (inr (Ok trust, told, (Ok text, read, load))) =
    loaded_headed false text (meta_of_file path source trust) file (λ parts is. texts path text parts (sym read) is) load

-- items without entries have none
no_entries : (items : List Item) → list_all (λ i. not (is_entry i)) items ≡ true → entries_of items ≡ []
no_entries [] none = refl
no_entries (BlanksItem run ∷ items) none = no_entries items none
no_entries (LineEndsItem run ∷ items) none = no_entries items none
no_entries (CommentItem tag text ∷ items) none = no_entries items none
no_entries (EntryItem e ∷ items) none = absurd (cc)

-- a file after another one
pub behind_headed : (target other now : State) → IsHeaded target → IsHeaded other → IsAppendedTo target other now → IsHeaded now
behind_headed target other now is more behind = subst IsHeaded (sym behind) (record {
  clean = record { sections = clean.sections; blanks = clean.blanks; names = clean.names };
  front = front target.sections;
})
  where
    clean : IsClean (apply (Append other) target)
    clean = apply_clean (Append other) target (more.clean, more.front) is.clean

    front : (sections : List SectionState) → entries_of (elim sections as (λ _. List Item) [ [] ↦ joined (file_line_end target) target.front other.front | s ∷ ss ↦ target.front ]) ≡ []
    front [] = no_entries (joined (file_line_end target) target.front other.front)
        (joined_passes (λ i. not (is_entry i)) (file_line_end target) target.front other.front refl (without_entries target.front is.front) (without_entries other.front more.front))
    front (s ∷ ss) = is.front

-- an empty text has nothing
empty_headed : (parts : List Part) → IsText [] parts → (gathered parts).front ≡ []
empty_headed parts is = ap (λ d. d.front) (one_document [] parts [] is.spelled_is is.fits refl tt)

-- If no text at all has such an entry, none that is taken has one.
module _ (files : List ℕ → FileReport) (asks : Asks) (tells : asks.table ≡ Some files) (texts : AreHeaded files) where
  -- what is taken
  text_headed : (must_exist ignores : Bool) (path text : List ℕ) → IsTextTaken asks.table must_exist ignores path (Ok (Some text)) → (parts : List Part) → IsText text parts → (gathered parts).front ≡ []
  text_headed must_exist ignores path text (Ok read, told, is) parts of_text =
      texts path text parts (sym (subst (λ (t : Option (List ℕ → FileReport)). May t (λ (files : List ℕ → FileReport). ◌≡◌ {A = Result (List ℕ) FileFault} (Ok text) (read_of (files path)))) tells
      (subst (λ r. May asks.table (λ (files : List ℕ → FileReport). ◌≡◌ {A = Result (List ℕ) FileFault} (Ok r) (read_of (files path)))) (sym (text_is is)) told))) of_text
    where
      text_in : Result (Option (List ℕ)) Refused → List ℕ
      text_in (Ok (Some t)) = t
      text_in r = []

      text_is : ◌≡◌ {A = Result (Option (List ℕ)) Refused} (Ok (Some text)) (Ok (Some read)) → text ≡ read
      text_is e = ap text_in e
  text_headed must_exist ignores path text (Err fault, told, is) parts of_text = go fault.stage refl
    where
      of_open : (b : Bool) → ◌≡◌ {A = Result (Option (List ℕ)) Refused} (Ok (Some text)) (if b then Ok None else Err (Unreadable path fault)) → ⊥
      of_open true e = absurd (cc)
      of_open false e = absurd (cc)

      of_read : (b : Bool) → ◌≡◌ {A = Result (Option (List ℕ)) Refused} (Ok (Some text)) (if b then Ok (Some []) else Err (Unreadable path fault)) → text ≡ []
      of_read true e = ap text_in e
        where
          text_in : Result (Option (List ℕ)) Refused → List ℕ
          text_in (Ok (Some t)) = t
          text_in r = []
      of_read false e = absurd (cc)

      go : (stage : Stage) → fault.stage ≡ stage → (gathered parts).front ≡ []
      go Open at = absurd (of_open _ (rw at at is))
      go Read at = empty_headed parts (subst (λ t. IsText t parts) (of_read ignores (rw at at is)) of_text)
      go Memory at = let e : ◌≡◌ {A = Result (Option (List ℕ)) Refused} (Ok (Some text)) (Err OutOfMemory) = rw at at is in absurd (cc)

  -- and so of all metadata
  pub texts_headed : (must_exist ignores : Bool) (metas : List Meta) → AllByRecursion (IsHeadedAt must_exist ignores asks) metas
  texts_headed must_exist ignores metas = all_of (IsHeadedAt must_exist ignores asks) (λ meta path text at taken file load.
      ((loaded_headed asks.rules.lossy text meta file (text_headed must_exist ignores path text taken) load).front, all_headed files asks tells texts asks.rules.max_depth file)) metas

module _ (asks : Asks) where
  -- what is made of a text
  pub made : {E : Type 0} (tells : E → Refused) (text : List ℕ) (meta : Meta) (file : State) → IsHeadedText asks meta text → IsMadeOf tells asks text meta (Ok file) → IsHeaded file
  made tells text meta file none (Ok state, load, (On done, expands, is)) =
      let heads = none state load in
      subst IsHeaded (sym is) (headed_stays asks.rules.max_depth asks None state (On done) heads.1 (headed asks.rules.lossy text meta state heads.0 load) expands)
  made tells text meta file none (Ok state, load, (Ended n end, expands, is)) = absurd is
  made tells text meta file none (Err n, load, is) = absurd is

  -- all of it
  pub made_whole : {E : Type 0} (tells : E → Refused) (text : List ℕ) (meta : Meta) (file : State) → asks.rules.lossy ≡ false
      → ((state : State) → IsLoaded false text meta state → IncludesHeaded asks.rules.max_depth asks state) → IsMadeOf tells asks text meta (Ok file) → IsClean file
  made_whole tells text meta file whole included (Ok state, load, (On done, expands, is)) =
      let full = subst (λ lossy. IsLoaded lossy text meta state) whole load in
      subst IsClean (sym is) (clean_stays asks.rules.max_depth asks None state (On done) (included state full) (full_clean text meta state full) expands)
  made_whole tells text meta file whole included (Ok state, load, (Ended n end, expands, is)) = absurd is
  made_whole tells text meta file whole included (Err n, load, is) = absurd is

  -- what is, if anything does
  abbrev pub StandHeaded : Option State → Type 0
  StandHeaded None = Unit {0}
  StandHeaded (Some file) = IsHeaded file

  joins : (path : List ℕ) (target : Option State) (file : State) (now : Option State) → StandHeaded target → IsHeaded file → Joins path target file (Ok now) → StandHeaded now
  joins path None file now stands is joined = subst StandHeaded (sym (some joined)) is
    where
      some_in : Result (Option State) Refused → Option State
      some_in (Ok s) = s
      some_in (Err n) = None

      some : ◌≡◌ {A = Result (Option State) Refused} (Ok now) (Ok (Some file)) → now ≡ Some file
      some e = ap some_in e
  joins path (Some target) file now stands is joined = go (has_room_behind target file) joined
    where
      some_in : Result (Option State) Refused → Option State
      some_in (Ok s) = s
      some_in (Err n) = None

      go : (room : Bool) → elim room as (λ _. Type 0) [ true ↦ (s : State) × IsAppendedTo target file s × (◌≡◌ {A = Result (Option State) Refused} (Ok now) (Ok (Some s))) | false ↦ ◌≡◌ {A = Result (Option State) Refused} (Ok now) (Err (Unmade path (NoRoom 3))) ]
          → StandHeaded now
      go true (s, behind, e) = subst StandHeaded (sym (ap some_in e)) (behind_headed target file s stands is behind)
      go false e = absurd (cc)

  one : (must_exist ignores : Bool) (meta : Meta) (target now : Option State) → IsHeadedAt must_exist ignores asks meta → StandHeaded target → IsMetaLoaded must_exist ignores asks meta target (Ok now) → StandHeaded now
  one must_exist ignores meta target now heads stands is = go meta.path refl is
    where
      some_in : Result (Option State) Refused → Option State
      some_in (Ok s) = s
      some_in (Err n) = None

      same : ◌≡◌ {A = Result (Option State) Refused} (Ok now) (Ok target) → StandHeaded now
      same e = subst StandHeaded (sym (ap some_in e)) stands

      of_file : (path : List ℕ) → meta.path ≡ Some path → IsFileLoaded must_exist ignores asks meta path target (Ok now) → StandHeaded now
      of_file path at (inl wanting) = absurd (cc)
      of_file path at (inr (Err n, taken, e)) = absurd (cc)
      of_file path at (inr (Ok None, taken, e)) = same e
      of_file path at (inr (Ok (Some text), taken, (Err n, is_made, e))) = absurd (cc)
      of_file path at (inr (Ok (Some text), taken, (Ok file, is_made, joined))) =
          joins path target file now stands (made (λ (why : Refused). why) text meta file (heads path text at taken) (around_made (Unmade path) (IsMadeOf (λ why. why) asks text meta) file is_made)) joined

      go : (path : Option (List ℕ)) → meta.path ≡ path
          → elim path as (λ _. Type 0) [ None ↦ ◌≡◌ {A = Result (Option State) Refused} (Ok now) (Ok target) | Some at ↦ IsFileLoaded must_exist ignores asks meta at target (Ok now) ] → StandHeaded now
      go None at e = same e
      go (Some path) at loaded = of_file path at loaded

  pub all : (must_exist ignores : Bool) (metas : List Meta) (target now : Option State) → AllByRecursion (IsHeadedAt must_exist ignores asks) metas → StandHeaded target → AreFilesLoaded must_exist ignores asks metas target (Ok now) → StandHeaded now
  all must_exist ignores [] target now heads stands is = subst StandHeaded (sym (ap some_in is)) stands
    where
      some_in : Result (Option State) Refused → Option State
      some_in (Ok s) = s
      some_in (Err n) = None
  all must_exist ignores (meta ∷ metas) target now heads stands (Err n, first, is) = absurd (cc)
  all must_exist ignores (meta ∷ metas) target now heads stands (Ok mid, first, later) =
      all must_exist ignores metas mid now heads.1 (one must_exist ignores meta target mid heads.0 stands first) later

-- the whole call
pub paths_clean : (must_exist ignores : Bool) (asks : Asks) (metas : List Meta) (file : State) → AreHeadedAt must_exist ignores asks metas
    → IsLoadOfPaths must_exist ignores asks metas (Ok (Some file)) → IsClean file × (entries_of file.front ≡ [])
paths_clean must_exist ignores asks metas file heads (inl wanting) = absurd (cc)
paths_clean must_exist ignores asks metas file heads (inr loaded) =
    let is = all asks must_exist ignores (once [] metas) None (Some file) heads tt loaded in (is.clean, is.front)

-- a file that has nothing
empty_clean : (meta : Meta) → IsClean (empty_file meta)
empty_clean meta = record { sections = tt; blanks = refl; names = refl }

-- those of the machine and of the user
module _ (variables : Option (List ℕ → VariableReport)) (places : Places) (table : Option (List ℕ → FileReport)) where
  -- what their load asks
  abbrev pub GlobalHeaded : Type 0
  GlobalHeaded = (found : List Meta) → AreFound variables places table global_sources found → AreHeadedAt true false (record { rules = home_rules places; table = table }) found

  pub global_clean : (file : State) → GlobalHeaded → IsGlobal variables places table (Ok file) → IsClean file × (entries_of file.front ≡ [])
  global_clean file heads (inl wanting) = absurd (cc)
  global_clean file heads (inr (found, are_found, (Err n, loaded, is))) = absurd (cc)
  global_clean file heads (inr (found, are_found, (Ok None, loaded, is))) = subst (λ s. IsClean s × (entries_of s.front ≡ [])) (sym (ap file_in is)) (empty_clean api_meta, refl)
    where
      file_in : Result State Refused → State
      file_in (Ok s) = s
      file_in (Err n) = empty_file api_meta
  global_clean file heads (inr (found, are_found, (Ok (Some state), loaded, is))) =
      subst (λ s. IsClean s × (entries_of s.front ≡ [])) (sym (ap file_in is)) (paths_clean true false (record { rules = home_rules places; table = table }) found state (heads found are_found) loaded)
    where
      file_in : Result State Refused → State
      file_in (Ok s) = s
      file_in (Err n) = state

-- if no text at all has such an entry
pub all_global_headed : (variables : Option (List ℕ → VariableReport)) (places : Places) (files : List ℕ → FileReport) → AreHeaded files → GlobalHeaded variables places (Some files)
all_global_headed variables places files texts found are_found = texts_headed files (record { rules = home_rules places; table = Some files }) refl texts true false (once [] found)
