-- Over tables that are told the file of variables and the configuration of a repository have one outcome, apart from running out of memory.
use Rattle.std.proofs.Common.{◌≡◌, ◌≢◌, ◌⊎◌, ℕ, zero, suc, ◌+◌, ◌==◌, Bool, true, false, List, Option, Some, None, Result, Ok, Err, IfErr, inl, inr, refl, sym, ap, subst, ◌∙◌}
use Rattle.std.specs.Option.{unwrap_or}
use Rattle.std.specs.Prelude.{IfOk, codes}
use Rattle.gitconf_text.specs.declared.parse.section.header.Error.{Error as HeaderError}
use Rattle.gitconf_sources.specs.Key.{Key, parsed_key}
use Rattle.gitconf_sources.specs.Metadata.{api_meta}
use Rattle.gitconf_sources.specs.Reports.{FileReport, HasText, NoText, NotSet, VariableReport}
use Rattle.gitconf_sources.specs.declared.fault.FileFault.{FileFault}
use Rattle.gitconf_sources.specs.declared.host.Places.{Places}
use Rattle.gitconf_sources.specs.declared.source.Source.TheVariants.{Local, Worktree}
use Rattle.gitconf_state.specs.Edits.{Push}
use Rattle.gitconf_state.specs.State.{SectionState, State}
use Rattle.gitconf_body.specs.Done.{Cause, first_cause, IsRefusedFor}
use Rattle.gitconf_body.specs.Refusals.{header_refusal, value_refusal}
use Rattle.gitconf_body.specs.declared.value.Error.{Error as ValueError}
use Rattle.gitconf_store.specs.Edited.{causes, done, IsEdited}
use Rattle.gitconf_includes.specs.Expansion.{Asks, Ended, On}
use Rattle.gitconf_includes.specs.Laws.{asks_with, SayTheSame}
use Rattle.gitconf_includes.specs.Rules.{Rules}
use Rattle.gitconf_loaders.specs.Globals.{empty_file, home_rules, IsGlobal, IsOrEmpty}
use Rattle.gitconf_loaders.specs.Paths.{Around, HasOneOutcome, has_room_behind, IsAppendedTo, IsLoadedFrom, left_by, Then}
use Rattle.gitconf_loaders.specs.Errors.{env_of_header, env_of_value, env_says}
use Rattle.gitconf_loaders.specs.Refused.{BadFile, BadVariables, NoRoom, OutOfMemory, Refused}
use Rattle.gitconf_loaders.specs.Resolving.{MakesOf}
use Rattle.gitconf_loaders.specs.Variables.{IsAnswer, IsCount, IsCountOf, IsKeyAt, IsValueAt, key_variable, reported_key, reported_value, value_variable}
use Rattle.gitconf_includes.proofs.Lossy.{say_the_same}
use Rattle.gitconf_loaders.proofs.OneLoader.{not_wanting, one_around, one_expanded, one_global, one_loaded_from, one_then, one_value, or_wanting}
use Rattle.gitconf_lookups.specs.Picks.{picked}
use Rattle.gix_config.specs.Environment.{AreEntriesPut, Edited, env_meta, IsEntryPut, IsFromEnv, IsMadeOfEntries, IsOverrides, IsPutUnder, IsSectionFor, IsSome, IsValuePushed, IsValuePut}
use Rattle.gix_config.specs.Repository.{AreOverridesBehind, AreOwnAndOverridesBehind, folder_of, has_worktree, IsExpanded, IsExpandedBehind, IsJoined, IsOwnBehind, IsPutBehind, IsReadOf, IsRepository, IsWorktree, IsWorktreeBehind, local_path, repository_rules, RepositoryFiles, worktree_path}
use Rattle.gix_config.specs.SectionEditors.{editor_at, IsFoundOr, making_causes}

-- a variable that is asked

one_answer : {T : Type 0} (variables : List ℕ → VariableReport) (name : List ℕ) (gives : VariableReport → Result T Refused → Type 0) → ((told : VariableReport) → HasOneOutcome (gives told)) → HasOneOutcome (IsAnswer (Some variables) name gives)
one_answer variables name gives single one other known too (inl wanting) is_too = absurd (not_wanting one known wanting)
one_answer variables name gives single one other known too (inr is) (inl wanting) = absurd (not_wanting other too wanting)
one_answer variables name gives single one other known too (inr (told, asked, given)) (inr (told_too, asked_too, given_too)) =
    let same : told_too ≡ told = asked_too ∙ sym asked in
    single told one other known too given (subst (λ t. gives t other) same given_too)

one_count_of : (told : VariableReport) → HasOneOutcome (IsCountOf told)
one_count_of NotSet one other known too is is_too = is ∙ sym is_too
one_count_of NoText one other known too is is_too = is ∙ sym is_too
one_count_of (HasText text) (Ok m) (Ok n) known too is is_too = ap Ok (is.0.1 ∙ sym is_too.0.1)
one_count_of (HasText text) (Ok m) (Err f) known too is is_too = absurd (is_too.0 is.0.0)
one_count_of (HasText text) (Err e) (Ok n) known too is is_too = absurd (is.0 is_too.0.0)
one_count_of (HasText text) (Err e) (Err f) known too is is_too = ap Err (is.1 ∙ sym is_too.1)

-- a value that is put into its section

-- by the cause, if one holds; otherwise it is done, or memory ran out
one_pushed : (cause : Option Cause) (left : State) (one other : Result Unit ValueError) (new left_too : State) → IfErr (left_by (λ e. env_says (env_of_value e)) one new) (λ why. why ≢ OutOfMemory) → IfErr (left_by (λ e. env_says (env_of_value e)) other left_too) (λ why. why ≢ OutOfMemory)
    → IsRefusedFor value_refusal cause one → IsRefusedFor value_refusal cause other → ((u : Unit {0}) → one ≡ Ok u → new ≡ left) → ((u : Unit {0}) → other ≡ Ok u → left_too ≡ left)
    → left_by (λ e. env_says (env_of_value e)) one new ≡ left_by (λ e. env_says (env_of_value e)) other left_too
one_pushed (Some cause) left (Ok done) other new left_too known too is is_too made made_too = absurd (cc)
one_pushed (Some cause) left (Err e) (Ok done) new left_too known too is is_too made made_too = absurd (cc)
one_pushed (Some cause) left (Err e) (Err f) new left_too known too is is_too made made_too =
    let same : e ≡ f = cc in
    ap (λ x. Err (env_says (env_of_value x))) same
one_pushed None left (Ok done) (Ok done_too) new left_too known too is is_too made made_too = ap Ok (made done refl ∙ sym (made_too done_too refl))
one_pushed None left (Ok done) (Err f) new left_too known too is is_too made made_too = absurd (too (ap (λ (x : ValueError). env_says (env_of_value x)) is_too))
one_pushed None left (Err e) other new left_too known too is is_too made made_too = absurd (known (ap (λ (x : ValueError). env_says (env_of_value x)) is))

one_value_pushed : (index : ℕ) (name : List ℕ) (value : Option (List ℕ)) (edited : Edited) → HasOneOutcome (IsValuePushed index name value edited)
one_value_pushed index name None edited one other known too is is_too = is ∙ sym is_too
one_value_pushed index name (Some value) edited one other known too (pushed, new, is, left) (pushed_too, new_too, is_too, left_too) =
    left ∙ one_pushed (first_cause (causes (Push edited.1.0 edited.1.1 name (Some value) None) edited.0)) (done (Push edited.1.0 edited.1.1 name (Some value) None) edited.0) pushed pushed_too new new_too (subst (λ (r : Result State Refused). IfErr r (λ why. why ≢ OutOfMemory)) left known)
    (subst (λ (r : Result State Refused). IfErr r (λ why. why ≢ OutOfMemory)) left_too too) is.told is_too.told (made pushed new is) (made pushed_too new_too is_too) ∙ sym left_too
  where
    made : (result : Result Unit ValueError) (now : State) → IsEdited value_refusal (Push edited.1.0 edited.1.1 name (Some value) None) result edited.0 now → (u : Unit {0}) → result ≡ Ok u
        → now ≡ done (Push edited.1.0 edited.1.1 name (Some value) None) edited.0
    made (Ok t) now is u e = is.ok
    made (Err f) now is u e = absurd (cc)

-- the section of a key, found or made
one_section : (key : Key) (old : State) (one other : Result Edited HeaderError) → IfErr one (λ e. env_says (env_of_header e) ≢ OutOfMemory) → IfErr other (λ e. env_says (env_of_header e) ≢ OutOfMemory)
    → IsSectionFor key old one → IsSectionFor key old other → one ≡ other
one_section key old one other known too is is_too =
    go (picked key.section key.subsection (λ _. true) old) (first_cause (making_causes key.section key.subsection (picked key.section key.subsection (λ _. true) old) old)) one other known too is.told is_too.told
    (λ edited e. subst (λ (r : Result Edited HeaderError). IfOk r (λ t. IsFoundOr (editor_at old) key.section key.subsection (picked key.section key.subsection (λ _. true) old) old t.0 t.1)) e is.ok)
    (λ edited e. subst (λ (r : Result Edited HeaderError). IfOk r (λ t. IsFoundOr (editor_at old) key.section key.subsection (picked key.section key.subsection (λ _. true) old) old t.0 t.1)) e is_too.ok)
  where
    found : (there : Option SectionState) (edited edited_too : Edited) → IsFoundOr (editor_at old) key.section key.subsection there old edited.0 edited.1
        → IsFoundOr (editor_at old) key.section key.subsection there old edited_too.0 edited_too.1 → edited ≡ edited_too
    found (Some s) edited edited_too (same, told) (same_too, told_too) = (λ i. ((same ∙ sym same_too) i, (told ∙ sym told_too) i))
    found None edited edited_too (made, told) (made_too, told_too) = (λ i. ((made ∙ sym made_too) i, (told ∙ sym told_too) i))

    go : (there : Option SectionState) (cause : Option Cause) (one other : Result Edited HeaderError) → IfErr one (λ e. env_says (env_of_header e) ≢ OutOfMemory) → IfErr other (λ e. env_says (env_of_header e) ≢ OutOfMemory)
        → IsRefusedFor header_refusal cause one → IsRefusedFor header_refusal cause other
        → ((edited : Edited) → one ≡ Ok edited → IsFoundOr (editor_at old) key.section key.subsection there old edited.0 edited.1)
        → ((edited : Edited) → other ≡ Ok edited → IsFoundOr (editor_at old) key.section key.subsection there old edited.0 edited.1) → one ≡ other
    go there (Some cause) one other known too is is_too at at_too = is ∙ sym is_too
    go there None (Ok edited) (Ok edited_too) known too is is_too at at_too = ap Ok (found there edited edited_too (at edited refl) (at_too edited_too refl))
    go there None (Ok edited) (Err f) known too is is_too at at_too = absurd (too (ap (λ (x : HeaderError). env_says (env_of_header x)) is_too))
    go there None (Err e) other known too is is_too at at_too = absurd (known (ap (λ (x : HeaderError). env_says (env_of_header x)) is))

one_value_put : (index : ℕ) (key : Key) (value : Option (List ℕ)) (old : State) → HasOneOutcome (IsValuePut index key value old)
one_value_put index key value old one other known too (found, is, put) (found_too, is_too, put_too) =
    let same : found ≡ found_too = one_section key old found found_too (found_known found one known put) (found_known found_too other too put_too) is is_too in
    go found put (subst (λ (f : Result Edited HeaderError). elim f as (λ _. Type 0) [ Err e ↦ other ≡ Err (env_says (env_of_header e)) | Ok edited ↦ IsValuePushed index key.name value edited other ]) (sym same) put_too)
  where
    found_known : (found : Result Edited HeaderError) (r : Result State Refused) → IfErr r (λ why. why ≢ OutOfMemory)
        → elim found as (λ _. Type 0) [ Err e ↦ r ≡ Err (env_says (env_of_header e)) | Ok edited ↦ IsValuePushed index key.name value edited r ] → IfErr found (λ e. env_says (env_of_header e) ≢ OutOfMemory)
    found_known (Ok edited) r known put = tt
    found_known (Err e) r known put = subst (λ (x : Result State Refused). IfErr x (λ why. why ≢ OutOfMemory)) put known

    go : (found : Result Edited HeaderError) → elim found as (λ _. Type 0) [ Err e ↦ one ≡ Err (env_says (env_of_header e)) | Ok edited ↦ IsValuePushed index key.name value edited one ]
        → elim found as (λ _. Type 0) [ Err e ↦ other ≡ Err (env_says (env_of_header e)) | Ok edited ↦ IsValuePushed index key.name value edited other ] → one ≡ other
    go (Err e) put put_too = put ∙ sym put_too
    go (Ok edited) put put_too = one_value_pushed index key.name value edited one other known too put put_too

one_put_under : (index : ℕ) (text : List ℕ) (key : Option Key) (value : Option (List ℕ)) (old : State) → HasOneOutcome (IsPutUnder index text key value old)
one_put_under index text None value old one other known too is is_too = is ∙ sym is_too
one_put_under index text (Some key) value old one other known too is is_too = one_value_put index key value old one other known too is is_too

module _ (variables : List ℕ → VariableReport) where
  one_entry_put : (index : ℕ) (old : State) → HasOneOutcome (IsEntryPut (Some variables) index old)
  one_entry_put index old =
      one_then (IsKeyAt (Some variables) index) (λ key. Then (IsValueAt (Some variables) index) (λ value. λ r. (r ≡ Err OutOfMemory) ⊎ IsPutUnder index key (parsed_key key) value old r))
      (one_answer variables (key_variable index) (λ told r. r ≡ reported_key index told) (λ told. one_value (reported_key index told)))
      (λ key. one_then (IsValueAt (Some variables) index) (λ value. λ r. (r ≡ Err OutOfMemory) ⊎ IsPutUnder index key (parsed_key key) value old r)
      (one_answer variables (value_variable index) (λ told r. r ≡ reported_value index told) (λ told. one_value (reported_value index told)))
      (λ value. or_wanting (IsPutUnder index key (parsed_key key) value old) (one_put_under index key (parsed_key key) value old)))

  one_entries_put : (left index : ℕ) (old : State) → HasOneOutcome (AreEntriesPut (Some variables) left index old)
  one_entries_put zero index old one other known too is is_too = is ∙ sym is_too
  one_entries_put (suc left) index old one other known too is is_too =
      one_then (IsEntryPut (Some variables) index old) (AreEntriesPut (Some variables) left (index + 1)) (one_entry_put index old) (one_entries_put left (index + 1)) one other known too is is_too

  module _ (asks : Asks) (files : List ℕ → FileReport) (tells : asks.table ≡ Some files) where
    one_of_entries : (count : ℕ) → HasOneOutcome (Then (AreEntriesPut (Some variables) count 0 (empty_file env_meta)) (λ file. Then (λ r. MakesOf (λ why. why) asks r (Ok file)) IsSome))
    one_of_entries count =
        one_then (AreEntriesPut (Some variables) count 0 (empty_file env_meta)) (λ file. Then (λ r. MakesOf (λ why. why) asks r (Ok file)) IsSome) (one_entries_put count 0 (empty_file env_meta))
        (λ file. one_then (λ r. MakesOf (λ why. why) asks r (Ok file)) IsSome (one_expanded asks files tells (Ok file)) (λ made. one_value (Ok (Some made))))

    one_made_of_entries : (count : ℕ) → HasOneOutcome (IsMadeOfEntries (Some variables) asks count)
    one_made_of_entries count one other known too is is_too = go (count == 0) is is_too
      where
        go : (none : Bool) → elim none as (λ _. Type 0) [
          | true ↦ one ≡ Ok None
          | false ↦ Then (AreEntriesPut (Some variables) count 0 (empty_file env_meta)) (λ file. Then (λ r. MakesOf (λ why. why) asks r (Ok file)) IsSome) one
        ] → elim none as (λ _. Type 0) [
          | true ↦ other ≡ Ok None
          | false ↦ Then (AreEntriesPut (Some variables) count 0 (empty_file env_meta)) (λ file. Then (λ r. MakesOf (λ why. why) asks r (Ok file)) IsSome) other
        ] → one ≡ other
        go true is is_too = is ∙ sym is_too
        go false is is_too = one_of_entries count one other known too is is_too

    pub one_from_env : HasOneOutcome (IsFromEnv (Some variables) asks)
    one_from_env =
        or_wanting (Then (IsCount (Some variables)) (IsMadeOfEntries (Some variables) asks))
        (one_then (IsCount (Some variables)) (IsMadeOfEntries (Some variables) asks) (one_answer variables (codes "GIT_CONFIG_COUNT") IsCountOf one_count_of) one_made_of_entries)

  module _ (places : Places) (files : List ℕ → FileReport) where
    pub one_overrides : HasOneOutcome (IsOverrides (Some variables) places (Some files))
    one_overrides =
        or_wanting (Then (IsFromEnv (Some variables) (record { rules = home_rules places; table = Some files })) IsOrEmpty)
        (one_then (IsFromEnv (Some variables) (record { rules = home_rules places; table = Some files })) IsOrEmpty (one_from_env (record { rules = home_rules places; table = Some files }) files refl)
        (λ made. one_value (Ok (unwrap_or made (empty_file api_meta)))))

    -- a file behind another one
    one_put_behind : (target made : State) → HasOneOutcome (IsPutBehind target made)
    one_put_behind target made one other known too (inl wanting) is_too = absurd (not_wanting one known wanting)
    one_put_behind target made one other known too (inr is) (inl wanting) = absurd (not_wanting other too wanting)
    one_put_behind target made one other known too (inr is) (inr is_too) = go (has_room_behind target made) is is_too
      where
        go : (room : Bool) → elim room as (λ _. Type 0) [ true ↦ (now : State) × IsAppendedTo target made now × (one ≡ Ok now) | false ↦ one ≡ Err (NoRoom 3) ]
            → elim room as (λ _. Type 0) [ true ↦ (now : State) × IsAppendedTo target made now × (other ≡ Ok now) | false ↦ other ≡ Err (NoRoom 3) ] → one ≡ other
        go true (now, put, is) (now_too, put_too, is_too) = is ∙ ap Ok (put ∙ sym put_too) ∙ sym is_too
        go false is is_too = is ∙ sym is_too

    module _ (rules : Rules) where
      one_expanded_behind : (target file : State) → HasOneOutcome (IsExpandedBehind (record { rules = rules; table = Some files }) target file)
      one_expanded_behind target file =
          one_then (IsExpanded (record { rules = rules; table = Some files }) file) (IsPutBehind target) (one_expanded (record { rules = rules; table = Some files }) files refl (Ok file)) (one_put_behind target)

      one_worktree_behind : (worktree : Option State) (target : State) → HasOneOutcome (IsWorktreeBehind (record { rules = rules; table = Some files }) worktree target)
      one_worktree_behind None target one other known too is is_too = is ∙ sym is_too
      one_worktree_behind (Some worktree) target one other known too is is_too = one_expanded_behind target worktree one other known too is is_too

      one_own_behind : (local : State) (worktree : Option State) (target : State) → HasOneOutcome (IsOwnBehind (record { rules = rules; table = Some files }) local worktree target)
      one_own_behind local worktree target =
          one_then (IsExpandedBehind (record { rules = rules; table = Some files }) target local) (IsWorktreeBehind (record { rules = rules; table = Some files }) worktree) (one_expanded_behind target local) (one_worktree_behind worktree)

      one_overrides_behind : (target : State) → HasOneOutcome (AreOverridesBehind (Some variables) places (Some files) target)
      one_overrides_behind target =
          one_then (Around BadVariables (IsOverrides (Some variables) places (Some files))) (IsPutBehind target) (one_around BadVariables (IsOverrides (Some variables) places (Some files)) one_overrides) (one_put_behind target)

      one_joined : (parts : RepositoryFiles) → HasOneOutcome (IsJoined (Some variables) places (Some files) (record { rules = rules; table = Some files }) parts)
      one_joined parts =
          one_then (IsExpanded (record { rules = rules; table = Some files }) parts.globals) (AreOwnAndOverridesBehind (Some variables) places (Some files) (record { rules = rules; table = Some files }) parts.local parts.worktree)
          (one_expanded (record { rules = rules; table = Some files }) files refl (Ok parts.globals))
          (λ target. one_then (IsOwnBehind (record { rules = rules; table = Some files }) parts.local parts.worktree target) (AreOverridesBehind (Some variables) places (Some files)) (one_own_behind parts.local parts.worktree target) one_overrides_behind)

    one_worktree : (folder : List ℕ) (local : State) → HasOneOutcome (IsWorktree (Some files) folder local)
    one_worktree folder local one other known too is is_too = go (has_worktree local) is is_too
      where
        go : (has : Bool) → elim has as (λ _. Type 0) [
          | true ↦ Then (IsLoadedFrom (Some files) (worktree_path folder) Worktree) (λ worktree. λ r. r ≡ Ok (Some worktree)) one
          | false ↦ one ≡ Ok None
        ] → elim has as (λ _. Type 0) [
          | true ↦ Then (IsLoadedFrom (Some files) (worktree_path folder) Worktree) (λ worktree. λ r. r ≡ Ok (Some worktree)) other
          | false ↦ other ≡ Ok None
        ] → one ≡ other
        go true is is_too =
            one_then (IsLoadedFrom (Some files) (worktree_path folder) Worktree) (λ worktree. λ r. r ≡ Ok (Some worktree)) (one_loaded_from files (worktree_path folder) Worktree)
            (λ worktree. one_value (Ok (Some worktree))) one other known too is is_too
        go false is is_too = is ∙ sym is_too

    one_read_of : (path folder : List ℕ) → HasOneOutcome (IsReadOf (Some variables) places (Some files) path folder)
    one_read_of path folder =
        or_wanting (Then (IsLoadedFrom (Some files) path Local) (λ local. Then (IsWorktree (Some files) folder local)
        (λ worktree. Then (IsGlobal (Some variables) places (Some files)) (λ globals. λ r. r ≡ Ok (record { local = local; worktree = worktree; globals = globals })))))
        (one_then (IsLoadedFrom (Some files) path Local) (λ local. Then (IsWorktree (Some files) folder local)
        (λ worktree. Then (IsGlobal (Some variables) places (Some files)) (λ globals. λ r. r ≡ Ok (record { local = local; worktree = worktree; globals = globals })))) (one_loaded_from files path Local)
        (λ local. one_then (IsWorktree (Some files) folder local) (λ worktree. Then (IsGlobal (Some variables) places (Some files)) (λ globals. λ r. r ≡ Ok (record { local = local; worktree = worktree; globals = globals })))
        (one_worktree folder local)
        (λ worktree. one_then (IsGlobal (Some variables) places (Some files)) (λ globals. λ r. r ≡ Ok (record { local = local; worktree = worktree; globals = globals })) (one_global variables places files)
        (λ globals. one_value (Ok (record { local = local; worktree = worktree; globals = globals }))))))

    pub one_repository : (dir : List ℕ) (real : Result (List ℕ) FileFault) → HasOneOutcome (IsRepository (Some variables) places (Some files) dir real)
    one_repository dir real =
        or_wanting (Then (Around BadFile (IsReadOf (Some variables) places (Some files) (local_path dir) (folder_of (local_path dir))))
        (IsJoined (Some variables) places (Some files) (record { rules = repository_rules places (folder_of (local_path dir)) real; table = Some files })))
        (one_then (Around BadFile (IsReadOf (Some variables) places (Some files) (local_path dir) (folder_of (local_path dir))))
        (IsJoined (Some variables) places (Some files) (record { rules = repository_rules places (folder_of (local_path dir)) real; table = Some files }))
        (one_around BadFile (IsReadOf (Some variables) places (Some files) (local_path dir) (folder_of (local_path dir))) (one_read_of (local_path dir) (folder_of (local_path dir)))) (one_joined (repository_rules places (folder_of (local_path dir)) real)))

-- the file of variables says the same where what it includes is loaded lossy
pub env_alike : (variables : List ℕ → VariableReport) (rules : Rules) (files : List ℕ → FileReport) (full lossy : State) → IsFromEnv (Some variables) (asks_with false rules files) (Ok (Some full))
    → IsFromEnv (Some variables) (asks_with true rules files) (Ok (Some lossy)) → SayTheSame full lossy
env_alike variables rules files full lossy (inl wanting) too = absurd (cc)
env_alike variables rules files full lossy (inr is) (inl wanting) = absurd (cc)
env_alike variables rules files full lossy (inr (Err n, counts, made)) too = absurd (cc)
env_alike variables rules files full lossy (inr (Ok count, counts, made)) (inr (Err n, counts_too, made_too)) = absurd (cc)
env_alike variables rules files full lossy (inr (Ok count, counts, made)) (inr (Ok count_too, counts_too, made_too)) =
    let same : ◌≡◌ {A = Result ℕ Refused} (Ok count_too) (Ok count) = one_answer variables (codes "GIT_CONFIG_COUNT") IsCountOf one_count_of (Ok count_too) (Ok count) tt tt counts_too counts in
    go (count == 0) made (subst (λ n. IsMadeOfEntries (Some variables) (asks_with true rules files) n (Ok (Some lossy))) (number same) made_too)
  where
    number : {m n : ℕ} → ◌≡◌ {A = Result ℕ Refused} (Ok m) (Ok n) → m ≡ n
    number is = cc

    put : Then (AreEntriesPut (Some variables) count 0 (empty_file env_meta)) (λ file. Then (λ r. MakesOf (λ why. why) (asks_with false rules files) r (Ok file)) IsSome) (Ok (Some full))
        → Then (AreEntriesPut (Some variables) count 0 (empty_file env_meta)) (λ file. Then (λ r. MakesOf (λ why. why) (asks_with true rules files) r (Ok file)) IsSome) (Ok (Some lossy)) → SayTheSame full lossy
    put (Err n, is, e) too = absurd (cc)
    put (Ok file, is, later) (Err n, is_too, e) = absurd (cc)
    put (Ok file, is, (Err n, makes, e)) too = absurd (cc)
    put (Ok file, is, (Ok made, makes, e)) (Ok file_too, is_too, (Err n, makes_too, e_too)) = absurd (cc)
    put (Ok file, is, (Ok made, (Ended n end, expands, makes), e)) too = absurd makes
    put (Ok file, is, (Ok made, (On done, expands, makes), e)) (Ok file_too, is_too, (Ok made_too, (Ended n end, expands_too, makes_too), e_too)) = absurd makes_too
    put (Ok file, is, (Ok made, (On done, expands, makes), e)) (Ok file_too, is_too, (Ok made_too, (On now, expands_too, makes_too), e_too)) =
        let files_same : ◌≡◌ {A = Result State Refused} (Ok file_too) (Ok file) = one_entries_put variables count 0 (empty_file env_meta) (Ok file_too) (Ok file) tt tt is_too is in
        let starts : file_too ≡ file = cc in
        let ends : full ≡ done = some_of e ∙ makes in
        let ends_too : lossy ≡ now = some_of e_too ∙ makes_too in
        subst (λ s. SayTheSame s lossy) (sym ends) (subst (SayTheSame done) (sym ends_too)
        (say_the_same rules files rules.max_depth None None file file_too done now tt
        (subst (SayTheSame file) (sym starts) (record { front = refl; sections = refl; next = refl })) expands expands_too))
      where
        some_of : {one other : State} → ◌≡◌ {A = Result (Option State) Refused} (Ok (Some one)) (Ok (Some other)) → one ≡ other
        some_of is = cc

    go : (none : Bool) → elim none as (λ _. Type 0) [
      | true ↦ ◌≡◌ {A = Result (Option State) Refused} (Ok (Some full)) (Ok None)
      | false ↦ Then (AreEntriesPut (Some variables) count 0 (empty_file env_meta)) (λ file. Then (λ r. MakesOf (λ why. why) (asks_with false rules files) r (Ok file)) IsSome) (Ok (Some full))
    ] → elim none as (λ _. Type 0) [
      | true ↦ ◌≡◌ {A = Result (Option State) Refused} (Ok (Some lossy)) (Ok None)
      | false ↦ Then (AreEntriesPut (Some variables) count 0 (empty_file env_meta)) (λ file. Then (λ r. MakesOf (λ why. why) (asks_with true rules files) r (Ok file)) IsSome) (Ok (Some lossy))
    ] → SayTheSame full lossy
    go true is too = absurd (cc)
    go false is too = put is too
