-- The configuration of a repository, by how the calls that put it together end.
use Rattle.std.proofs.Common.{◌≡◌, ◌⊎◌, ◌==◌, ℕ, Bool, true, false, List, Option, Some, None, Result, Ok, Err, inl, inr, refl, sym, ap, ◌∙◌, subst, length}
use Rattle.std.specs.Prelude.{IsErrAnd}
use Rattle.std.specs.Option.{option_map}
use Rattle.gitconf_text.specs.ValueErrors.{ValueError, wanting}
use Rattle.gitconf_sources.specs.declared.source.Source.TheVariants.{Local, Worktree}
use Rattle.gitconf_sources.specs.Reports.{FileReport, IsNoLess, VariableReport}
use Rattle.gitconf_sources.specs.declared.fault.FileFault.{FileFault}
use Rattle.gitconf_sources.specs.declared.host.Places.{Places}
use Rattle.gitconf_includes.specs.declared.includes.Error.{Error as Includes}
use Rattle.gitconf_includes.specs.declared.includes.Error.TheVariants as includes
use Rattle.gitconf_includes.specs.declared.init.Options.{Options}
use Rattle.gitconf_includes.specs.Errors.{includes_number, says}
use Rattle.gitconf_includes.specs.Rules.{rules_of}
use Rattle.gitconf_state.specs.Edits.{Append}
use Rattle.gitconf_state.specs.State.{State}
use Rattle.gitconf_body.specs.Refusals.{span_refusal}
use Rattle.gitconf_store.specs.Edited.{IsEdited}
use Rattle.gitconf_store.proofs.Files.Appended.{append_told}
use Rattle.gitconf_includes.specs.Expansion.{Asks}
use Rattle.gitconf_includes.specs.Outcomes.{asks_of}
use Rattle.gitconf_loaders.specs.Resolving.{MakesOf}
use Rattle.gitconf_loaders.specs.Errors.{env_number, env_says, git_number, git_of_env, git_of_includes, git_of_paths, git_of_span, git_says, paths_number, paths_says}
use Rattle.gitconf_loaders.specs.Refused.{include_refused, refused_number, within, BadFile, BadVariables, NoRoom, OutOfMemory, Refused}
use Rattle.gitconf_loaders.proofs.Around.{include_number}
use Rattle.gitconf_loaders.specs.Paths.{Around, CountsLoad, has_room_behind, IsAppendedTo, IsLoadedFrom, left_by, telling, Then}
use Rattle.gitconf_loaders.specs.declared.from_env.Error.{Error as EnvError}
use Rattle.gitconf_loaders.specs.declared.from_env.Error.TheVariants as env
use Rattle.gitconf_loaders.specs.declared.from_git_dir.Error.{Error}
use Rattle.gitconf_loaders.specs.declared.from_paths.Error.{Error as PathsError}
use Rattle.gitconf_loaders.specs.declared.from_paths.Error.TheVariants as paths
use Rattle.std.specs.Result.{result_map_both}
use Rattle.gitconf_loaders.specs.Globals.{IsGlobal}
use Rattle.gitconf_loaders.proofs.Counts.{later, renumbered}
use Rattle.gitconf_loaders.proofs.Several.{IsAppendRefusal, open_room, shut_room}
use Rattle.gix_config.specs.Repository.{has_worktree, IsJoined, IsPutBehind, IsReadOf, IsRepository, AreOwnAndOverridesBehind, is_set_true, IsWorktree, folder_of, local_path, parts_of, repository_rules, RepositoryFiles, worktree_path}
use Rattle.gix_config.specs.declared.file.init.repository.Parts.{Parts}
use Rattle.gix_config.specs.Typed.{boolean_or_refusal, IsEntryBoolean}
use Rattle.gix_config.proofs.Entries.{expanded_words}

-- what refusals say that are handed on
pub of_paths : (e : PathsError) → git_says (git_of_paths e) ≡ within BadFile (paths_says e)
of_paths (paths.Io path fault) = refl
of_paths (paths.Init at e) = refl
of_paths paths.Memory = refl

pub of_env : (e : EnvError) → git_says (git_of_env e) ≡ within BadVariables (env_says e)
of_env (env.IllformedUtf8 at kind) = refl
of_env (env.InvalidConfigCount input) = refl
of_env (env.InvalidKeyId at) = refl
of_env (env.InvalidKeyValue at key) = refl
of_env (env.InvalidValueId at) = refl
of_env (env.PathInterpolationError e) = refl
of_env (env.Includes e) = refl
of_env (env.Section e) = refl
of_env (env.SectionValue e) = refl
of_env env.Memory = refl

pub of_includes : (e : Includes) → git_says (git_of_includes e) ≡ include_refused (says e)
of_includes (includes.CopyBuffer path fault) = refl
of_includes (includes.Io path fault) = refl
of_includes (includes.Parse path it) = refl
of_includes (includes.Span it) = refl
of_includes (includes.Interpolate it) = refl
of_includes (includes.IncludeDepthExceeded depth) = refl
of_includes includes.MissingConfigPath = refl
of_includes includes.MissingGitDir = refl
of_includes (includes.Realpath fault) = refl
of_includes includes.Memory = refl

-- and their numbers
pub env_numbers : (e : EnvError) → git_number (git_of_env e) ≡ env_number e
env_numbers (env.IllformedUtf8 at kind) = refl
env_numbers (env.InvalidConfigCount input) = refl
env_numbers (env.InvalidKeyId at) = refl
env_numbers (env.InvalidKeyValue at key) = refl
env_numbers (env.InvalidValueId at) = refl
env_numbers (env.PathInterpolationError e) = refl
env_numbers (env.Includes e) = refl
env_numbers (env.Section e) = refl
env_numbers (env.SectionValue e) = refl
env_numbers env.Memory = refl

pub includes_numbers : (e : Includes) → git_number (git_of_includes e) ≡ includes_number e
includes_numbers e = ap refused_number (of_includes e) ∙ include_number (says e)

-- a boolean that was told, or not
pub told_on : (value : Option (Option (List ℕ))) (on : Bool) → IsEntryBoolean value (Ok (Some on)) → is_set_true (option_map boolean_or_refusal value) ≡ on
told_on value on is = ap is_set_true is

pub not_told : (value : Option (Option (List ℕ))) → IsEntryBoolean value (Ok None) → is_set_true (option_map boolean_or_refusal value) ≡ false
not_told value is = ap is_set_true is

pub refused_told : (value : Option (Option (List ℕ))) (e : ValueError) → IsEntryBoolean value (Err e) → (e.number ≡ 27 → ⊥) → is_set_true (option_map boolean_or_refusal value) ≡ false
refused_told value e (inl is) other = ap is_set_true is
refused_told value e (inr (text, some, is)) other = absurd (other (ap (λ (x : ValueError). x.number) is))

module _ (table : Option (List ℕ → FileReport)) (folder : List ℕ) (local : State) where
  pub no_worktree : has_worktree local ≡ false → IsWorktree table folder local (Ok None)
  no_worktree is = go (has_worktree local) is
    where
      go : (b : Bool) → b ≡ false → elim b as (λ _. Type 0) [
        | true ↦ Then (IsLoadedFrom table (worktree_path folder) Worktree) (λ worktree r. r ≡ Ok (Some worktree)) (Ok None)
        | false ↦ ◌≡◌ {A = Result (Option State) Refused} (Ok None) (Ok None)
      ]
      go true e = absurd (cc)
      go false e = refl

  from_worktree : (r : Result (Option State) Refused) → has_worktree local ≡ true → Then (IsLoadedFrom table (worktree_path folder) Worktree) (λ worktree r. r ≡ Ok (Some worktree)) r → IsWorktree table folder local r
  from_worktree r is loads = go (has_worktree local) is
    where
      go : (b : Bool) → b ≡ true → elim b as (λ _. Type 0) [ true ↦ Then (IsLoadedFrom table (worktree_path folder) Worktree) (λ worktree r. r ≡ Ok (Some worktree)) r | false ↦ r ≡ Ok None ]
      go true e = loads
      go false e = absurd (cc)

  pub a_worktree : (file : State) → has_worktree local ≡ true → IsLoadedFrom table (worktree_path folder) Worktree (Ok file) → IsWorktree table folder local (Ok (Some file))
  a_worktree file is loaded = from_worktree (Ok (Some file)) is (Ok file, loaded, refl)

  pub worktree_refused : (e : PathsError) (result : Result (Option State) PathsError) → has_worktree local ≡ true → IsLoadedFrom table (worktree_path folder) Worktree (Err (paths_says e)) → IsErrAnd result (λ r. r ≡ e)
      → IsWorktree table folder local (telling paths_says result)
  worktree_refused e (Ok made) is loaded err = absurd err
  worktree_refused e (Err r) is loaded err = from_worktree (Err (paths_says r)) is (Err (paths_says e), loaded, ap Err (ap paths_says err))

-- a file after another one
put_on : (target other now : State) → IsEdited span_refusal (Append other) (Ok (tt {0})) target now → IsPutBehind target other (Ok now)
put_on target other now appended =
    inr (go (has_room_behind target other) (open_room target other (λ large. let no = (append_told other (Ok (tt {0})) target now appended).too_large.1 large in cc)))
  where
    go : (b : Bool) → b ≡ true → elim b as (λ _. Type 0) [ true ↦ (s : State) × IsAppendedTo target other s × (◌≡◌ {A = Result State Refused} (Ok now) (Ok s)) | false ↦ ◌≡◌ {A = Result State Refused} (Ok now) (Err (NoRoom 3)) ]
    go true e = (now, appended.ok, refl)
    go false e = absurd (cc)

not_put : (target other : State) (n : ℕ) (why : Refused) → why ≡ git_says (git_of_span n) → IsAppendRefusal target other n → IsPutBehind target other (Err why)
not_put target other n why same (inr wanting, large) = inl (ap Err (same ∙ ap (λ m. git_says (git_of_span m)) wanting))
not_put target other n why same (inl is, large) = inr (go (has_room_behind target other) (shut_room target other (large is)))
  where
    go : (b : Bool) → b ≡ false → elim b as (λ _. Type 0) [ true ↦ (s : State) × IsAppendedTo target other s × (◌≡◌ {A = Result State Refused} (Err why) (Ok s)) | false ↦ ◌≡◌ {A = Result State Refused} (Err why) (Err (NoRoom 3)) ]
    go true e = absurd (cc)
    go false e = ap Err (same ∙ ap (λ m. git_says (git_of_span m)) is)

-- what an append leaves after a step
module _ (first : Result State Refused → Type 0) (target : State) where
  pub first_refused : (why : Refused) (e : Error) (result : Result Unit Error) (new : State) → first (Err why) → git_says e ≡ why → IsErrAnd result (λ r. r ≡ e) → Then first (IsPutBehind target) (left_by git_says result new)
  first_refused why e (Ok done) new is said err = absurd err
  first_refused why e (Err r) new is said err = (Err why, is, ap Err (ap git_says err ∙ said))

  pub then_put : (other now : State) → first (Ok other) → IsEdited span_refusal (Append other) (Ok (tt {0})) target now → Then first (IsPutBehind target) (Ok now)
  then_put other now made appended = (Ok other, made, put_on target other now appended)

  pub then_refused : (other : State) (n : ℕ) (result : Result Unit Error) (new : State) → first (Ok other) → IsAppendRefusal target other n → IsErrAnd result (λ r. r ≡ git_of_span n)
      → Then first (IsPutBehind target) (left_by git_says result new)
  then_refused other n (Ok done) new made refusal err = absurd err
  then_refused other n (Err r) new made refusal err = (Ok other, made, not_put target other n (git_says r) (ap git_says err) refusal)

-- what is left after two steps, of which the first is refused
pub then_stopped : (first : Result State Refused → Type 0) (next : State → Result State Refused → Type 0) (e : Error) (result : Result Unit Error) (new : State) → first (Err (git_says e)) → IsErrAnd result (λ r. r ≡ e)
    → Then first next (left_by git_says result new)
then_stopped first next e (Ok done) new is err = absurd err
then_stopped first next e (Err r) new is err = (Err (git_says e), is, ap Err (ap git_says err))

-- a step, with more around what its refusal says
pub around_made : {T : Type 0} (around : Refused → Refused) (Step : Result T Refused → Type 0) (made : T) → Step (Ok made) → Around around Step (Ok made)
around_made around Step made is = (Ok made, is, refl)

pub around_refused : {T : Type 0} (around : Refused → Refused) (Step : Result T Refused → Type 0) (why told : Refused) → Step (Err why) → told ≡ within around why → Around around Step (Err told)
around_refused around Step why told is same = (Err why, is, ap Err same)

-- what was counted before, and after it by a refusal that is handed on
pub handed_count : {T : Type 0} (e : PathsError) (result : Result T PathsError) (old mid new : Option ℕ) → IsErrAnd result (λ r. r ≡ e) → IsNoLess old mid → CountsLoad {T = T} (Err (paths_number e)) mid new
    → CountsLoad (telling paths_number result) old new
handed_count e (Ok made) old mid new err first second = absurd err
handed_count {T = T} e (Err r) old mid new err first second = subst (λ x. CountsLoad {T = T} (Err (paths_number x)) old new) (sym err) (later T (Err (paths_number e)) old mid new first second)

pub git_count : (T U : Type 0) (n : ℕ) (e : Error) (result : Result T Error) (old mid new : Option ℕ) → IsErrAnd result (λ r. r ≡ e) → git_number e ≡ n → IsNoLess old mid → CountsLoad {T = U} (Err n) mid new
    → CountsLoad (telling git_number result) old new
git_count T U n e (Ok made) old mid new err number first second = absurd err
git_count T U n e (Err r) old mid new err number first second = later T (Err (git_number r)) old mid new first (renumbered U T n (git_number r) mid new (ap git_number err ∙ number) second)

module _ (variables : Option (List ℕ → VariableReport)) (places : Places) (table : Option (List ℕ → FileReport)) (path folder : List ℕ) where
  abbrev pub Reads : Result RepositoryFiles Refused → Type 0
  Reads r = IsReadOf variables places table path folder r

  pub local_refused : (e : PathsError) (result : Result Parts PathsError) → IsLoadedFrom table path Local (Err (paths_says e)) → IsErrAnd result (λ r. r ≡ e) → Reads (result_map_both parts_of paths_says result)
  local_refused e (Ok made) is err = absurd err
  local_refused e (Err r) is err = inr (Err (paths_says e), is, ap Err (ap paths_says err))

  pub worktree_not_read : (local : State) (e : PathsError) (result : Result Parts PathsError) → IsLoadedFrom table path Local (Ok local)
      → (◌≡◌ {A = Result (Option State) Refused} (Err (paths_says e)) (Err OutOfMemory)) ⊎ IsWorktree table folder local (Err (paths_says e)) → IsErrAnd result (λ r. r ≡ e) → Reads (result_map_both parts_of paths_says result)
  worktree_not_read local e (Ok made) loaded is err = absurd err
  worktree_not_read local e (Err r) loaded (inl wanting) err = inl (ap Err (ap paths_says err ∙ ap said_in wanting))
    where
      said_in : Result (Option State) Refused → Refused
      said_in (Ok t) = OutOfMemory
      said_in (Err why) = why
  worktree_not_read local e (Err r) loaded (inr is) err = inr (Ok local, loaded, (Err (paths_says e), is, ap Err (ap paths_says err)))

  pub globals_refused : (local : State) (worktree : Option State) (e : PathsError) (result : Result Parts PathsError) → IsLoadedFrom table path Local (Ok local)
      → (◌≡◌ {A = Result (Option State) Refused} (Ok worktree) (Err OutOfMemory)) ⊎ IsWorktree table folder local (Ok worktree) → IsGlobal variables places table (Err (paths_says e)) → IsErrAnd result (λ r. r ≡ e)
      → Reads (result_map_both parts_of paths_says result)
  globals_refused local worktree e (Ok made) loaded tree is err = absurd err
  globals_refused local worktree e (Err r) loaded (inl wanting) is err = absurd (cc)
  globals_refused local worktree e (Err r) loaded (inr tree) is err = inr (Ok local, loaded, (Ok worktree, tree, (Err (paths_says e), is, ap Err (ap paths_says err))))

  pub all_read : (local : State) (worktree : Option State) (globals : State) → IsLoadedFrom table path Local (Ok local)
      → (◌≡◌ {A = Result (Option State) Refused} (Ok worktree) (Err OutOfMemory)) ⊎ IsWorktree table folder local (Ok worktree) → IsGlobal variables places table (Ok globals)
      → Reads (Ok (record { local = local; worktree = worktree; globals = globals }))
  all_read local worktree globals loaded (inl wanting) is = absurd (cc)
  all_read local worktree globals loaded (inr tree) is = inr (Ok local, loaded, (Ok worktree, tree, (Ok globals, is, refl)))

-- what the files that are read, and then put together, make of the repository
module _ (variables : Option (List ℕ → VariableReport)) (places : Places) (table : Option (List ℕ → FileReport)) (dir : List ℕ) (real : Result (List ℕ) FileFault) (path folder : List ℕ) (is_path : path ≡ local_path dir)
    (is_folder : folder ≡ folder_of (local_path dir)) where
  abbrev pub Made : Result State Refused → Type 0
  Made r = IsRepository variables places table dir real r

  abbrev pub ReadsHere : Result RepositoryFiles Refused → Type 0
  ReadsHere r = IsReadOf variables places table (local_path dir) (folder_of (local_path dir)) r

  here : (r : Result RepositoryFiles Refused) → IsReadOf variables places table path folder r → ReadsHere r
  here r is = subst (λ f. IsReadOf variables places table (local_path dir) f r) is_folder (subst (λ p. IsReadOf variables places table p folder r) is_path is)

  pub not_read : (e : PathsError) (result : Result State Error) → IsReadOf variables places table path folder (Err (paths_says e)) → IsErrAnd result (λ r. r ≡ git_of_paths e) → Made (telling git_says result)
  not_read e (Ok made) is err = absurd err
  not_read e (Err r) is err = inr (Err (git_says r), around_refused BadFile ReadsHere (paths_says e) (git_says r) (here (Err (paths_says e)) is) (ap git_says err ∙ of_paths e), refl)

  pub read_and_joined : (options : Options) (parts : RepositoryFiles) (r : Result State Refused) → rules_of options ≡ repository_rules places folder real → IsReadOf variables places table path folder (Ok parts)
      → IsJoined variables places table (asks_of options table) parts r → Made r
  read_and_joined options parts r rules is joins = inr (
    Ok parts,
    around_made BadFile ReadsHere parts (here (Ok parts) is),
    subst (λ rs. IsJoined variables places table (record { rules = rs; table = table }) parts r)
        (rules ∙ ap (λ f. repository_rules places f real) is_folder) joins,
  )

module _ (variables : Option (List ℕ → VariableReport)) (places : Places) (table : Option (List ℕ → FileReport)) (asks : Asks) (parts : RepositoryFiles) where
  abbrev pub Joins : Result State Refused → Type 0
  Joins r = IsJoined variables places table asks parts r

  pub first_not_expanded : (e : Includes) (result : Result State Error) → MakesOf (λ e. include_refused (says e)) asks (Err e) (Ok parts.globals) → IsErrAnd result (λ r. r ≡ git_of_includes e) → Joins (telling git_says result)
  first_not_expanded e (Ok made) is err = absurd err
  first_not_expanded e (Err r) is err = (Err (include_refused (says e)), expanded_words asks parts.globals (Err e) is, ap Err (ap git_says err ∙ of_includes e))

  pub own_not_put : (first : State) (e : Error) (result : Result State Error) → MakesOf (λ e. include_refused (says e)) asks (Ok first) (Ok parts.globals)
      → AreOwnAndOverridesBehind variables places table asks parts.local parts.worktree first (Err (git_says e)) → IsErrAnd result (λ r. r ≡ e) → Joins (telling git_says result)
  own_not_put first e (Ok made) one is err = absurd err
  own_not_put first e (Err r) one is err = (Ok first, expanded_words asks parts.globals (Ok first) one, subst (λ x. AreOwnAndOverridesBehind variables places table asks parts.local parts.worktree first (Err (git_says x))) (sym err) is)

  pub all_joined : (first now : State) → MakesOf (λ e. include_refused (says e)) asks (Ok first) (Ok parts.globals) → AreOwnAndOverridesBehind variables places table asks parts.local parts.worktree first (Ok now) → Joins (Ok now)
  all_joined first now one is = (Ok first, expanded_words asks parts.globals (Ok first) one, is)
