-- Files of variables and of repositories are clean.
use Rattle.std.proofs.Common.{◌≡◌, ℕ, zero, suc, ◌+◌, ◌==◌, Bool, true, false, List, [], Option, Some, None, Result, Ok, Err, inl, inr, refl, sym, ap, ◌∙◌, subst}
use Rattle.std.specs.Prelude.{IfSome}
use Rattle.gitconf_sources.specs.Key.{Key, parsed_key}
use Rattle.gitconf_sources.specs.Metadata.{api_meta, Meta}
use Rattle.gitconf_sources.specs.declared.source.Source.{Source}
use Rattle.gitconf_sources.specs.declared.source.Source.TheVariants.{Local, Worktree}
use Rattle.gitconf_sources.specs.Reports.{FileReport, VariableReport}
use Rattle.gitconf_sources.specs.declared.fault.FileFault.{FileFault}
use Rattle.gitconf_sources.specs.declared.host.Places.{Places}
use Rattle.gitconf_state.specs.Clean.{IsClean, is_nameless}
use Rattle.gitconf_state.specs.Edit.{made_header, with_used}
use Rattle.gitconf_state.specs.Edits.{apply, has_blank_leading, NewSection, Push}
use Rattle.gitconf_state.specs.Editors.{Editor}
use Rattle.gitconf_state.specs.State.{entries_of, SectionState, State}
use Rattle.gitconf_state.proofs.Edits.Keep.{apply_clean}
use Rattle.gitconf_includes.specs.Expansion.{Asks, Ended, On}
use Rattle.gitconf_includes.specs.Laws.{AreHeaded, IncludesHeaded}
use Rattle.gitconf_includes.proofs.States.{all_headed, headed_stays, IsHeaded}
use Rattle.gitconf_lookups.specs.Picks.{picked}
use Rattle.gitconf_loaders.specs.Resolving.{MakesOf}
use Rattle.gitconf_loaders.specs.Globals.{empty_file, home_rules, IsGlobal}
use Rattle.gitconf_store.specs.Edited.{put_bytes}
use Rattle.gitconf_loaders.specs.Paths.{has_room_behind, IsAppendedTo, IsLoadedFrom, Then}
use Rattle.gitconf_loaders.specs.Refused.{BadFile, BadVariables, NoRoom, Refused}
use Rattle.gitconf_loaders.proofs.Around.{around_made}
use Rattle.gitconf_loaders.specs.Variables.{reported_key, key_variable}
use Rattle.gitconf_loaders.proofs.Clean.{all_global_headed, behind_headed, from_path, global_clean, path_headed}
use Rattle.gix_config.specs.Environment.{AreEntriesPut, Edited, env_meta, HaveSectionNames, IncludeHeaded, IsEntryPut, IsFromEnv, IsOverrides, IsPutUnder, IsValuePushed, IsValuePut}
use Rattle.gix_config.specs.Repository.{AreHeadedWith, folder_of, has_worktree, IsExpandedBehind, IsHeadedRepository, IsHeadedWith, IsJoined, IsPutBehind, IsReadOf, IsRepository, IsWorktree, IsWorktreeBehind, local_path, repository_rules, RepositoryFiles, worktree_path}
use Rattle.gix_config.specs.SectionEditors.{editor_at, IsFoundOr}
use Rattle.gix_config_laws.proofs.NewEditors.{clean_picked}

-- what follows an outcome
abbrev state_in : State → Result State Refused → State
state_in other (Ok s) = s
state_in other (Err n) = other

-- a clean file whose front has no entry
headed_used : (used : ℕ) (state : State) → IsHeaded state → IsHeaded (with_used used state)
headed_used used state is = record { clean = record { sections = is.clean.sections; blanks = is.clean.blanks; names = is.clean.names }; front = is.front }

-- the section that was found or made, with an editor that puts blanks alone before names
section_headed : (key : Key) (old : State) (edited : Edited) (found : Option SectionState) → picked key.section key.subsection (λ _. true) old ≡ found
    → is_nameless (made_header key.section key.subsection) ≡ false → IsHeaded old → IsFoundOr (editor_at old) key.section key.subsection found old edited.0 edited.1
    → IsHeaded edited.0 × (has_blank_leading edited.1.1 ≡ true)
section_headed key old edited (Some s) at named is (same, told) =
    (subst IsHeaded (sym same) is, ap (λ (t : ℕ × Editor). has_blank_leading t.1) told ∙ clean_picked key.section key.subsection (λ _. true) old s is.clean at)
section_headed key old edited None at named is (made, told) = (
  subst IsHeaded (sym made) (headed_used (old.used + put_bytes (NewSection key.section key.subsection) old) (apply (NewSection key.section key.subsection) old) (record {
    clean = apply_clean (NewSection key.section key.subsection) old named is.clean;
    front = is.front;
  })),
  ap (λ (t : ℕ × Editor). has_blank_leading t.1) told,
)

-- a value is pushed there
pushed_headed : (index : ℕ) (name : List ℕ) (value : Option (List ℕ)) (edited : Edited) (new : State) → IsHeaded edited.0 → has_blank_leading edited.1.1 ≡ true → IsValuePushed index name value edited (Ok new) → IsHeaded new
pushed_headed index name None edited new is blank pushed = absurd (cc)
pushed_headed index name (Some value) edited new is blank (Err e, other, done, left) = absurd (cc)
pushed_headed index name (Some value) edited new is blank (Ok done, other, edit, left) =
    subst IsHeaded (sym (ap (state_in new) left)) (subst IsHeaded (sym edit.ok) (headed_used (edited.0.used + put_bytes (Push edited.1.0 edited.1.1 name (Some value) None) edited.0) (apply (Push edited.1.0 edited.1.1 name (Some value) None) edited.0) (record {
      clean = apply_clean (Push edited.1.0 edited.1.1 name (Some value) None) edited.0 blank is.clean;
      front = is.front;
    })))

put_headed : (index : ℕ) (key : Key) (value : Option (List ℕ)) (old new : State) → is_nameless (made_header key.section key.subsection) ≡ false → IsHeaded old → IsValuePut index key value old (Ok new) → IsHeaded new
put_headed index key value old new named is (Err e, found, refused) = absurd (cc)
put_headed index key value old new named is (Ok edited, found, pushed) =
    let there = section_headed key old edited (picked key.section key.subsection (λ _. true) old) refl named is found.ok in
    pushed_headed index key.name value edited new there.0 there.1 pushed

module _ (variables : List ℕ → VariableReport) (named : HaveSectionNames variables) where
  under_headed : (index : ℕ) (text : List ℕ) (value : Option (List ℕ)) (old new : State) → ◌≡◌ {A = Result (List ℕ) Refused} (reported_key index (variables (key_variable index))) (Ok text)
      → IsHeaded old → IsPutUnder index text (parsed_key text) value old (Ok new) → IsHeaded new
  under_headed index text value old new told is put = go (parsed_key text) refl put
    where
      go : (key : Option Key) → parsed_key text ≡ key → IsPutUnder index text key value old (Ok new) → IsHeaded new
      go None at put = absurd (cc)
      go (Some key) at put = put_headed index key value old new (named index text key told at) is put

  entry_headed : (index : ℕ) (old new : State) → IsHeaded old → IsEntryPut (Some variables) index old (Ok new) → IsHeaded new
  entry_headed index old new is (Err n, key, e) = absurd (cc)
  entry_headed index old new is (Ok text, key, (Err n, value, e)) = absurd (cc)
  entry_headed index old new is (Ok text, key, (Ok value, told, inl wanting)) = absurd (cc)
  entry_headed index old new is (Ok text, inl wanting, (Ok value, told, inr put)) = absurd (cc)
  entry_headed index old new is (Ok text, inr (answer, asked, given), (Ok value, told, inr put)) =
      under_headed index text value old new (ap (reported_key index) (sym asked) ∙ sym given) is put

  entries_headed : (left index : ℕ) (old new : State) → IsHeaded old → AreEntriesPut (Some variables) left index old (Ok new) → IsHeaded new
  entries_headed zero index old new is put = subst IsHeaded (sym (ap (state_in new) put)) is
  entries_headed (suc left) index old new is (Err n, put, e) = absurd (cc)
  entries_headed (suc left) index old new is (Ok mid, put, later) = entries_headed left (index + 1) mid new (entry_headed index old mid is put) later

-- a file that has nothing
empty_headed : (meta : Meta) → IsHeaded (empty_file meta)
empty_headed meta = record { clean = record { sections = tt; blanks = refl; names = refl }; front = refl }

-- a file with what it includes
expanded_headed : (asks : Asks) (old new : State) → IncludesHeaded asks.rules.max_depth asks old → IsHeaded old → MakesOf (λ why. why) asks (Ok new) (Ok old) → IsHeaded new
expanded_headed asks old new included is (On done, expands, e) = subst IsHeaded (sym e) (headed_stays asks.rules.max_depth asks None old (On done) included is expands)
expanded_headed asks old new included is (Ended n end, expands, e) = absurd e

env_headed : (variables : List ℕ → VariableReport) (asks : Asks) (file : State) → HaveSectionNames variables → IncludeHeaded variables asks
    → IsFromEnv (Some variables) asks (Ok (Some file)) → IsHeaded file
env_headed variables asks file named included (inl wanting) = absurd (cc)
env_headed variables asks file named included (inr (Err n, counts, e)) = absurd (cc)
env_headed variables asks file named included (inr (Ok count, counts, made)) = go (count == 0) made
  where
    file_in : Result (Option State) Refused → State
    file_in (Ok (Some s)) = s
    file_in r = file

    of_entries : Then (AreEntriesPut (Some variables) count 0 (empty_file env_meta)) (λ state. Then (λ r. MakesOf (λ why. why) asks r (Ok state)) (λ state r. r ≡ Ok (Some state))) (Ok (Some file)) → IsHeaded file
    of_entries (Err n, put, e) = absurd (cc)
    of_entries (Ok state, put, (Err n, expands, e)) = absurd (cc)
    of_entries (Ok state, put, (Ok full, expands, e)) =
        subst IsHeaded (sym (ap file_in e)) (expanded_headed asks state full (included count state put) (entries_headed variables named count 0 (empty_file env_meta) state (empty_headed env_meta) put) expands)

    go : (none : Bool) → elim none as (λ _. Type 0) [
      | true ↦ ◌≡◌ {A = Result (Option State) Refused} (Ok (Some file)) (Ok None)
      | false ↦ Then (AreEntriesPut (Some variables) count 0 (empty_file env_meta)) (λ state. Then (λ r. MakesOf (λ why. why) asks r (Ok state)) (λ state r. r ≡ Ok (Some state))) (Ok (Some file))
    ] → IsHeaded file
    go true e = absurd (cc)
    go false made = of_entries made

overrides_headed : (variables : List ℕ → VariableReport) (places : Places) (table : Option (List ℕ → FileReport)) (file : State) → HaveSectionNames variables
    → IncludeHeaded variables (record { rules = home_rules places; table = table }) → IsOverrides (Some variables) places table (Ok file) → IsHeaded file
overrides_headed variables places table file named included (inl wanting) = absurd (cc)
overrides_headed variables places table file named included (inr (Err n, made, e)) = absurd (cc)
overrides_headed variables places table file named included (inr (Ok None, made, e)) = subst IsHeaded (sym (ap (state_in file) e)) (empty_headed api_meta)
overrides_headed variables places table file named included (inr (Ok (Some state), made, e)) =
    subst IsHeaded (sym (ap (state_in file) e)) (env_headed variables (record { rules = home_rules places; table = table }) state named included made)

-- a file after another one
put_behind_headed : (target other now : State) → IsHeaded target → IsHeaded other → IsPutBehind target other (Ok now) → IsHeaded now
put_behind_headed target other now is more (inl wanting) = absurd (cc)
put_behind_headed target other now is more (inr put) = go (has_room_behind target other) put
  where
    go : (room : Bool) → elim room as (λ _. Type 0) [ true ↦ (s : State) × IsAppendedTo target other s × (◌≡◌ {A = Result State Refused} (Ok now) (Ok s)) | false ↦ ◌≡◌ {A = Result State Refused} (Ok now) (Err (NoRoom 3)) ] → IsHeaded now
    go true (s, behind, e) = subst IsHeaded (sym (ap (state_in now) e)) (behind_headed target other s is more behind)
    go false e = absurd (cc)

-- a file with what it includes, after another one
behind_expanded : (asks : Asks) (target file now : State) → IsHeaded target → IsClean file → IsHeadedWith asks file → IsExpandedBehind asks target file (Ok now) → IsHeaded now
behind_expanded asks target file now is clean heads (Err n, expands, e) = absurd (cc)
behind_expanded asks target file now is clean heads (Ok full, expands, put) =
    put_behind_headed target full now is (expanded_headed asks file full heads.1 (record { clean = clean; front = heads.0 }) expands) put

worktree_behind : (asks : Asks) (worktree : Option State) (target now : State) → IsHeaded target → IfSome worktree IsClean → IfSome worktree (IsHeadedWith asks)
    → IsWorktreeBehind asks worktree target (Ok now) → IsHeaded now
worktree_behind asks None target now is clean heads e = subst IsHeaded (sym (ap (state_in now) e)) is
worktree_behind asks (Some worktree) target now is clean heads put = behind_expanded asks target worktree now is clean heads put

-- what holds of every file that is loaded by its path holds of the worktree's
of_worktree : (P : State → Type 0) (table : Option (List ℕ → FileReport)) (folder : List ℕ) (local : State) (worktree : Option State)
    → ((path : List ℕ) (source : Source) (file : State) → IsLoadedFrom table path source (Ok file) → P file) → IsWorktree table folder local (Ok worktree) → IfSome worktree P
of_worktree P table folder local worktree holds is = go (has_worktree local) is
  where
    found_in : Result (Option State) Refused → Option State
    found_in (Ok s) = s
    found_in (Err n) = None

    of_path : (path : List ℕ) (source : Source) → Then (IsLoadedFrom table path source) (λ state r. r ≡ Ok (Some state)) (Ok worktree) → IfSome worktree P
    of_path path source (Err n, loaded, e) = absurd (cc)
    of_path path source (Ok state, loaded, e) = subst (λ (w : Option State). IfSome w P) (sym (ap found_in e)) (holds path source state loaded)

    go : (has : Bool) → elim has as (λ _. Type 0) [
      | true ↦ Then (IsLoadedFrom table (worktree_path folder) Worktree) (λ state r. r ≡ Ok (Some state)) (Ok worktree)
      | false ↦ ◌≡◌ {A = Result (Option State) Refused} (Ok worktree) (Ok None)
    ] → IfSome worktree P
    go true loaded = of_path (worktree_path folder) Worktree loaded
    go false e = subst (λ (w : Option State). IfSome w P) (sym (ap found_in e)) tt

-- what the files are that were read: the repository's own, its worktree's, and that of the machine and of the user
are_read : (variables : Option (List ℕ → VariableReport)) (places : Places) (table : Option (List ℕ → FileReport)) (path folder : List ℕ) (parts : RepositoryFiles)
    → IsReadOf variables places table path folder (Ok parts)
    → IsLoadedFrom table path Local (Ok parts.local) × IsWorktree table folder parts.local (Ok parts.worktree) × IsGlobal variables places table (Ok parts.globals)
are_read variables places table path folder parts (inl wanting) = absurd (cc)
are_read variables places table path folder parts (inr (Err n, local, e)) = absurd (cc)
are_read variables places table path folder parts (inr (Ok local, of_local, (Err n, worktree, e))) = absurd (cc)
are_read variables places table path folder parts (inr (Ok local, of_local, (Ok worktree, of_worktree, (Err n, globals, e)))) = absurd (cc)
are_read variables places table path folder parts (inr (Ok local, of_local, (Ok worktree, of_worktree, (Ok globals, of_globals, e)))) =
    subst (λ (p : RepositoryFiles). IsLoadedFrom table path Local (Ok p.local) × IsWorktree table folder p.local (Ok p.worktree) × IsGlobal variables places table (Ok p.globals))
    (sym (ap parts_in e)) (of_local, of_worktree, of_globals)
  where
    parts_in : Result RepositoryFiles Refused → RepositoryFiles
    parts_in (Ok p) = p
    parts_in (Err n) = parts

module _ (variables : List ℕ → VariableReport) (places : Places) (table : Option (List ℕ → FileReport)) (named : HaveSectionNames variables) where
  joined_headed : (asks : Asks) (parts : RepositoryFiles) (now : State) → IncludeHeaded variables (record { rules = home_rules places; table = table }) → AreHeadedWith asks parts
      → IsClean parts.local → IfSome parts.worktree IsClean → IsClean parts.globals → IsJoined (Some variables) places table asks parts (Ok now) → IsHeaded now
  joined_headed asks parts now included heads local worktree globals (Err n, expands, e) = absurd (cc)
  joined_headed asks parts now included heads local worktree globals (Ok first, expands, (Err n, own, e)) = absurd (cc)
  joined_headed asks parts now included heads local worktree globals (Ok first, expands, (Ok all, (Err n, second, e), rest)) = absurd (cc)
  joined_headed asks parts now included heads local worktree globals (Ok first, expands, (Ok all, (Ok both, second, third), (Err n, made, e))) = absurd (cc)
  joined_headed asks parts now included heads local worktree globals (Ok first, expands, (Ok all, (Ok both, second, third), (Ok overrides, made, put))) =
      let one = expanded_headed asks parts.globals first heads.2.1 (record { clean = globals; front = heads.2.0 }) expands in
      let two = behind_expanded asks first parts.local both one local heads.0 second in
      let three = worktree_behind asks parts.worktree both all two worktree heads.1 third in
      put_behind_headed all overrides now three (overrides_headed variables places table overrides named included (around_made BadVariables (IsOverrides (Some variables) places table) overrides made)) put

  repository_headed : (dir : List ℕ) (real : Result (List ℕ) FileFault) (file : State) → IsHeadedRepository variables places table dir real
      → IsRepository (Some variables) places table dir real (Ok file) → IsHeaded file
  repository_headed dir real file heads (inl wanting) = absurd (cc)
  repository_headed dir real file heads (inr (Err n, read, e)) = absurd (cc)
  repository_headed dir real file heads (inr (Ok parts, read, joined)) =
      let own = around_made BadFile (IsReadOf (Some variables) places table (local_path dir) (folder_of (local_path dir))) parts read in
      let loaded = are_read (Some variables) places table (local_path dir) (folder_of (local_path dir)) parts own in
      joined_headed (record { rules = repository_rules places (folder_of (local_path dir)) real; table = table }) parts file heads.overrides (heads.files parts own)
      (from_path table (local_path dir) Local parts.local loaded.0)
      (of_worktree IsClean table (folder_of (local_path dir)) parts.local parts.worktree (from_path table) loaded.1)
      (global_clean (Some variables) places table parts.globals heads.globals loaded.2).0
      joined

-- if no text at all has an entry before its first section
module _ (files : List ℕ → FileReport) (texts : AreHeaded files) where
  headed_with : (asks : Asks) → asks.table ≡ Some files → (file : State) → entries_of file.front ≡ [] → IsHeadedWith asks file
  headed_with asks tells file front = (front, all_headed files asks tells texts asks.rules.max_depth file)

  files_headed : (variables : Option (List ℕ → VariableReport)) (places : Places) (path folder : List ℕ) (asks : Asks) → asks.table ≡ Some files → (parts : RepositoryFiles)
      → IsReadOf variables places (Some files) path folder (Ok parts) → AreHeadedWith asks parts
  files_headed variables places path folder asks tells parts read =
      let loaded = are_read variables places (Some files) path folder parts read in (
        headed_with asks tells parts.local (path_headed files path Local parts.local texts loaded.0).front,
        of_worktree (IsHeadedWith asks) (Some files) folder parts.local parts.worktree (λ path source file is. headed_with asks tells file (path_headed files path source file texts is).front) loaded.1,
        headed_with asks tells parts.globals (global_clean variables places (Some files) parts.globals (all_global_headed variables places files texts) loaded.2).1,
      )

-- as the laws say it
pub env_clean : (variables : List ℕ → VariableReport) (asks : Asks) (file : State) → HaveSectionNames variables → IncludeHeaded variables asks
    → IsFromEnv (Some variables) asks (Ok (Some file)) → IsClean file × (entries_of file.front ≡ [])
env_clean variables asks file named included made = let is = env_headed variables asks file named included made in (is.clean, is.front)

pub overrides_clean : (variables : List ℕ → VariableReport) (places : Places) (table : Option (List ℕ → FileReport)) (file : State) → HaveSectionNames variables
    → IncludeHeaded variables (record { rules = home_rules places; table = table }) → IsOverrides (Some variables) places table (Ok file) → IsClean file × (entries_of file.front ≡ [])
overrides_clean variables places table file named included made = let is = overrides_headed variables places table file named included made in (is.clean, is.front)

pub repository_clean : (variables : List ℕ → VariableReport) (places : Places) (table : Option (List ℕ → FileReport)) (dir : List ℕ) (real : Result (List ℕ) FileFault) (file : State) → HaveSectionNames variables
    → IsHeadedRepository variables places table dir real → IsRepository (Some variables) places table dir real (Ok file) → IsClean file × (entries_of file.front ≡ [])
repository_clean variables places table dir real file named heads loaded = let is = repository_headed variables places table named dir real file heads loaded in (is.clean, is.front)

pub repository_texts : (variables : List ℕ → VariableReport) (places : Places) (files : List ℕ → FileReport) (dir : List ℕ) (real : Result (List ℕ) FileFault) → AreHeaded files
    → IsHeadedRepository variables places (Some files) dir real
repository_texts variables places files dir real texts = record {
  globals = all_global_headed (Some variables) places files texts;
  files = files_headed files texts (Some variables) places (local_path dir) (folder_of (local_path dir)) (record { rules = repository_rules places (folder_of (local_path dir)) real; table = Some files }) refl;
  overrides = λ count set put. all_headed files (record { rules = home_rules places; table = Some files }) refl texts 10 set;
}
