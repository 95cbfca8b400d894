-- The configuration of a repository: that of the machine and of the user, of the repository and of its worktree, and the overrides.
-- Source: gix-config; that the files of the machine and of the user are expanded twice is gix-config's rule.
use Rattle.std.specs.Prelude.{◌≡◌, ◌⊎◌, ℕ, Bool, true, false, List, [], Option, Some, None, Result, Ok, Err, IfSome, codes}
use Rattle.std.specs.Option.{option_map, unwrap_or}
use Rattle.gitconf_text.specs.ValueErrors.{ValueError}
use Rattle.gitconf_values.specs.Paths.{join, parent}
use Rattle.gitconf_sources.specs.FoundFiles.{global_sources, AreFound}
use Rattle.gitconf_sources.specs.Key.{Key}
use Rattle.gitconf_sources.specs.Metadata.{Meta}
use Rattle.gitconf_sources.specs.declared.source.Source.TheVariants.{Local, Worktree}
use Rattle.gitconf_sources.specs.Reports.{FileReport, VariableReport}
use Rattle.gitconf_sources.specs.declared.fault.FileFault.{FileFault}
use Rattle.gitconf_sources.specs.declared.host.Places.{Places}
use Rattle.gitconf_includes.specs.Rules.{Rules}
use Rattle.gitconf_state.specs.State.{entries_of, State}
use Rattle.gitconf_includes.specs.Expansion.{Asks}
use Rattle.gitconf_includes.specs.Laws.{IncludesHeaded}
use Rattle.gitconf_lookups.specs.Lookups.{implicit_at}
use Rattle.gitconf_loaders.specs.Resolving.{MakesOf}
use Rattle.gitconf_loaders.specs.Globals.{home_rules, IsGlobal}
use Rattle.gitconf_loaders.specs.Headed.{AreHeadedAt}
use Rattle.gitconf_loaders.specs.Paths.{Around, has_room_behind, IsAppendedTo, IsLoadedFrom, Then}
use Rattle.gitconf_loaders.specs.Refused.{BadFile, BadVariables, NoRoom, OutOfMemory, Refused}
use Rattle.gix_config.specs.declared.file.init.repository.Parts.{Parts}
use Rattle.gix_config.specs.Environment.{IncludeHeaded, IsOverrides}
use Rattle.gix_config.specs.Typed.{boolean_or_refusal}

-- the path of the repository's configuration
abbrev pub local_path : (dir : List ℕ) → List ℕ
local_path dir = join dir (codes "config")

-- the folder of the repository's configuration
abbrev pub folder_of : (path : List ℕ) → List ℕ
folder_of path = unwrap_or (parent path) []

-- there is a boolean, and it is true
abbrev pub is_set_true : Option (Result Bool ValueError) → Bool
is_set_true None = false
is_set_true (Some (Ok on)) = on
is_set_true (Some (Err e)) = false

-- the key that switches the worktree's configuration on: `extensions.worktreeConfig`
abbrev pub worktree_key : Key
worktree_key = record { section = codes "extensions"; subsection = None; name = codes "worktreeConfig" }

-- the repository has configuration of its worktree
abbrev pub has_worktree : State → Bool
has_worktree local = is_set_true (option_map boolean_or_refusal (implicit_at worktree_key (λ _. true) local))

-- the path of the worktree's configuration
abbrev pub worktree_path : (folder : List ℕ) → List ℕ
worktree_path folder = join folder (codes "config.worktree")

-- the worktree's configuration, loaded without its includes, if the repository has one
abbrev pub IsWorktree : Option (List ℕ → FileReport) → (folder : List ℕ) → (local : State) → Result (Option State) Refused → Type 0
IsWorktree table folder local r = elim (has_worktree local) [
  | true ↦ Then (IsLoadedFrom table (worktree_path folder) Worktree) (λ worktree. λ r. r ≡ Ok (Some worktree)) r
  | false ↦ r ≡ Ok None
]

-- the rules of the includes: the user's home folder and the folder of the repository are known, and no branch
abbrev pub repository_rules : Places → (folder : List ℕ) → (real : Result (List ℕ) FileFault) → Rules
repository_rules places folder real = record (home_rules places) { homes = None; git_dir = Some (record { path = folder; real = real }) }

-- a file with what it includes
abbrev pub IsExpanded : Asks → (file : State) → Result State Refused → Type 0
IsExpanded asks file r = MakesOf (λ why. why) asks r (Ok file)

-- a file is appended to another one; memory may run out
abbrev pub IsPutBehind : (target other : State) → Result State Refused → Type 0
IsPutBehind target other r = (r ≡ Err OutOfMemory) ⊎ elim (has_room_behind target other) [
  | true ↦ (now : State) × IsAppendedTo target other now × (r ≡ Ok now)
  | false ↦ r ≡ Err (NoRoom 3)
]

-- a file is expanded, and then appended to another one
abbrev pub IsExpandedBehind : Asks → (target : State) → (file : State) → Result State Refused → Type 0
IsExpandedBehind asks target file = Then (IsExpanded asks file) (IsPutBehind target)

-- the same for the worktree's file, if there is one
abbrev pub IsWorktreeBehind : Asks → (worktree : Option State) → (target : State) → Result State Refused → Type 0
IsWorktreeBehind asks None target r = r ≡ Ok target
IsWorktreeBehind asks (Some worktree) target r = IsExpandedBehind asks target worktree r

-- a repository's own file, and then its worktree's
abbrev pub IsOwnBehind : Asks → (local : State) → (worktree : Option State) → (target : State) → Result State Refused → Type 0
IsOwnBehind asks local worktree target = Then (IsExpandedBehind asks target local) (IsWorktreeBehind asks worktree)

-- the files of a repository: its own, that of its worktree, and that of the machine and of the user
pub record RepositoryFiles : Type 0 where
  pub local : State
  pub worktree : Option State
  pub globals : State

-- the files of a repository, as the code has them
abbrev pub parts_of : Parts → RepositoryFiles
parts_of parts = record { local = parts.own.local; worktree = parts.own.worktree; globals = parts.globals }

module _ (variables : Option (List ℕ → VariableReport)) (places : Places) (table : Option (List ℕ → FileReport)) where
  -- The files are read: first the repository's, then that of its worktree, then those of the machine and of the user; memory may run out.
  abbrev pub IsReadOf : (path folder : List ℕ) → Result RepositoryFiles Refused → Type 0
  IsReadOf path folder r = (r ≡ Err OutOfMemory) ⊎ Then (IsLoadedFrom table path Local) (λ local. Then (IsWorktree table folder local)
      (λ worktree. Then (IsGlobal variables places table) (λ globals. λ r. r ≡ Ok (record { local = local; worktree = worktree; globals = globals })))) r

  -- the overrides are appended to a file
  abbrev pub AreOverridesBehind : (target : State) → Result State Refused → Type 0
  AreOverridesBehind target = Then (Around BadVariables (IsOverrides variables places table)) (IsPutBehind target)

  -- the repository's own files are appended to a file, and then the overrides
  abbrev pub AreOwnAndOverridesBehind : Asks → (local : State) → (worktree : Option State) → (target : State) → Result State Refused → Type 0
  AreOwnAndOverridesBehind asks local worktree target = Then (IsOwnBehind asks local worktree target) AreOverridesBehind

  -- All are expanded, each is appended to those before it, and the overrides come last.
  abbrev pub IsJoined : Asks → RepositoryFiles → Result State Refused → Type 0
  IsJoined asks parts = Then (IsExpanded asks parts.globals) (AreOwnAndOverridesBehind asks parts.local parts.worktree)

  -- the configuration of the repository in that folder; memory may run out
  abbrev pub IsRepository : (dir : List ℕ) → (real : Result (List ℕ) FileFault) → Result State Refused → Type 0
  IsRepository dir real r = (r ≡ Err OutOfMemory)
      ⊎ Then (Around BadFile (IsReadOf (local_path dir) (folder_of (local_path dir)))) (IsJoined (record { rules = repository_rules places (folder_of (local_path dir)) real; table = table })) r

-- a file has no entry before its first section, nor has any that it includes
abbrev pub IsHeadedWith : Asks → State → Type 0
IsHeadedWith asks file = (entries_of file.front ≡ []) × IncludesHeaded asks.rules.max_depth asks file

-- so it is with each of the files of a repository
abbrev pub AreHeadedWith : Asks → RepositoryFiles → Type 0
AreHeadedWith asks parts = IsHeadedWith asks parts.local × IfSome parts.worktree (IsHeadedWith asks) × IsHeadedWith asks parts.globals

-- No file that a repository's configuration is made of has an entry before its first section, nor has any that it includes: the files of the
-- machine and of the user, as they are found; all that was read, as the repository expands it; and what the overrides include.
pub record IsHeadedRepository (variables : List ℕ → VariableReport) (places : Places) (table : Option (List ℕ → FileReport)) (dir : List ℕ) (real : Result (List ℕ) FileFault) : Type 0 where
  pub globals : (found : List Meta) → AreFound (Some variables) places table global_sources found → AreHeadedAt true false (record { rules = home_rules places; table = table }) found
  pub files : (parts : RepositoryFiles) → IsReadOf (Some variables) places table (local_path dir) (folder_of (local_path dir)) (Ok parts)
      → AreHeadedWith (record { rules = repository_rules places (folder_of (local_path dir)) real; table = table }) parts
  pub overrides : IncludeHeaded variables (record { rules = home_rules places; table = table })
