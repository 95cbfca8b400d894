-- What loads answer that ask for variables and for places, besides files.
use Rattle.std.specs.Prelude.{◌≡◌, ◌⊎◌, if◌then◌else◌, ℕ, List, [], ◌∷◌, ◌++◌, Option, Some, None, Result, Ok, Err, codes}
use Rattle.std.specs.Str.{bytes_eq}
use Rattle.gitconf_includes.specs.Rules.{Rules}
use Rattle.gitconf_loaders.specs.Errors.{env_number, env_says, git_number, git_says, paths_number, paths_says}
use Rattle.gitconf_loaders.specs.Globals.{IsGlobal}
use Rattle.gitconf_loaders.specs.Paths.{telling}
use Rattle.gitconf_loaders.specs.Refused.{Refused}
use Rattle.gitconf_loaders.specs.Variables.{key_variable, value_variable}
use Rattle.gitconf_loaders.specs.declared.from_env.Error.{Error as EnvError}
use Rattle.gitconf_loaders.specs.declared.from_env.Error.TheVariants as env
use Rattle.gitconf_loaders.specs.declared.from_git_dir.Error.{Error as GitError}
use Rattle.gitconf_loaders.specs.declared.from_git_dir.Error.TheVariants as git
use Rattle.gitconf_loaders.specs.declared.from_paths.Error.{Error as PathsError}
use Rattle.gitconf_sources.specs.InMemory.{variable_at}
use Rattle.gitconf_sources.specs.Reports.{FileReport, VariableReport}
use Rattle.gitconf_sources.specs.declared.host.Places.{Places}
use Rattle.gitconf_state.specs.State.{State}
use Rattle.gix_config.specs.Environment.{IsFromEnv}
use Rattle.gix_config.specs.Repository.{IsRepository}
use Rattle.gix_config_c.specs.Blocks.{Holds, IsKept}
use Rattle.gix_config_c.specs.KnownPlaces.{PlainPlaces, PlainRepository, plain_places}
use Rattle.gix_config_c.specs.Loaded.{IsAnswered, OfRules, asks_by, include_path, load_path}
use Rattle.gix_config_c.specs.Told.{is_told, told_at}
use Rattle.gix_config_c.specs.Variables.{count_variable, first_untold, place_variables}
use Rattle.gix_config_c.specs.declared.block.Block.{Block}
use Rattle.gix_config_c.specs.declared.object.Object.{Object}
use Rattle.gix_config_c.specs.declared.object.Object.TheVariants.{File}
use Rattle.gix_config_c.specs.declared.told.Told.{Told}

-- what is said of the places that a program gives, if their texts are text; else the number is 101
pub record OfPlaces (given : Option PlainPlaces) (number : ℕ) (said : PlainPlaces → Type 0) : Type 0 where
  pub places : (places : PlainPlaces) → given ≡ Some places → said places
  pub other : given ≡ None → number ≡ 101

-- the same of a repository
pub record OfRepository (given : Option PlainRepository) (number : ℕ) (said : PlainRepository → Type 0) : Type 0 where
  pub repository : (repository : PlainRepository) → given ≡ Some repository → said repository
  pub other : given ≡ None → number ≡ 101

-- the first of the variables of which nothing was told is asked for, with number 105; what is said if there is none
pub record OfVariables (told : Told) (names : List (List ℕ)) (number : ℕ) (asked : Block) (said : Type 0) : Type 0 where
  pub untold : (name : List ℕ) → first_untold told.variables names ≡ Some name → (number ≡ 105) × Holds name asked
  pub known : first_untold told.variables names ≡ None → said

-- what a refusal is about, if it says so: the file at a path, or a variable
pub data About : Type 0 where
  ANothing : About
  AFile : (path : List ℕ) → About
  AVariable : (name : List ℕ) → About

-- the file at a path, if there is a path
abbrev pub file_about : (path : Option (List ℕ)) → About
file_about None = ANothing
file_about (Some path) = AFile path

-- what a refused load by paths is about
abbrev pub paths_about : PathsError → About
paths_about e = file_about (load_path e)

-- the variable of a part of an entry, its key or its value
abbrev pub entry_variable : (kind : List ℕ) → (index : ℕ) → List ℕ
entry_variable kind index = if bytes_eq kind (codes "key") then key_variable index else value_variable index

-- what a refused load by variables is about
abbrev pub env_about : EnvError → About
env_about (env.IllformedUtf8 index kind) = AVariable (entry_variable kind.now index)
env_about (env.InvalidConfigCount input) = AVariable count_variable
env_about (env.InvalidKeyId index) = AVariable (key_variable index)
env_about (env.InvalidKeyValue index key) = AVariable (key_variable index)
env_about (env.InvalidValueId index) = AVariable (value_variable index)
env_about (env.Includes e) = file_about (include_path e)
env_about _ = ANothing

-- what a refused load of a repository is about
abbrev pub git_about : GitError → About
git_about (git.FromPaths e) = paths_about e
git_about (git.FromEnv e) = env_about e
git_about (git.Includes e) = file_about (include_path e)
git_about _ = ANothing

-- The number of the library's refusal. What it is about goes to the block, and if nothing was told of that, the number is 103 for a file
-- and 105 for a variable.
abbrev pub IsAnsweredFor : Told → About → (refusal number : ℕ) → (old new : Block) → Type 0
IsAnsweredFor told ANothing refusal number old new = (number ≡ refusal) × IsKept old new
IsAnsweredFor told (AFile path) refusal number old new = IsAnswered told.files (Some path) refusal number old new
IsAnsweredFor told (AVariable name) refusal number old new = (number ≡ (if is_told told.variables name then refusal else 105)) × Holds name new

-- the name of a variable goes to the block, with that number, or with 105 if nothing was told of it; or memory ran out
abbrev pub IsAskedAbout : Told → (name : List ℕ) → (refusal number : ℕ) → Block → Type 0
IsAskedAbout told name refusal number asked = (number ≡ 27) ⊎ ((number ≡ (if is_told told.variables name then refusal else 105)) × Holds name asked)

-- what is told of a file that was made, or not: 100 where there is nothing
abbrev pub TellsFile : Option State → (number : ℕ) → (file : Option Object) → (old new : Block) → Type 0
TellsFile (Some f) number file old new = (number ≡ 0) × (file ≡ Some (File f)) × IsKept old new
TellsFile None number file old new = (number ≡ 100) × IsKept old new

-- what is told of a load: what was made, or the number of the refusal
abbrev pub TellsOf : {T E : Type 0} → (made : T → Option State) → (about : E → About) → (number_of : E → ℕ) → Told → Result T E
    → (number : ℕ) → (file : Option Object) → (old new : Block) → Type 0
TellsOf made about number_of told (Ok it) number file old new = TellsFile (made it) number file old new
TellsOf made about number_of told (Err e) number file old new = IsAnsweredFor told (about e) (number_of e) number old new

-- the block is as it was, but for the numbers with which it has what the refusal is about
abbrev pub IsKeptBut : (number : ℕ) → (old new : Block) → Type 0
IsKeptBut number old new = (number ≡ 1 → ⊥) → (number ≡ 2 → ⊥) → (number ≡ 19 → ⊥) → (number ≡ 20 → ⊥) → (number ≡ 21 → ⊥) → (number ≡ 22 → ⊥) → (number ≡ 23 → ⊥) → (number ≡ 24 → ⊥) → (number ≡ 25 → ⊥)
    → (number ≡ 26 → ⊥) → (number ≡ 103 → ⊥) → (number ≡ 105 → ⊥) → IsKept old new

module _ (told : Told) where
  -- what was told of variables, as a host reports it
  abbrev pub variables_told : Option (List ℕ → VariableReport)
  variables_told = Some (variable_at told.variables)

  -- what was told of files, as a host reports it
  abbrev pub files_told : Option (List ℕ → FileReport)
  files_told = Some (told_at told.files)

  -- the configuration of the machine and of the user was loaded, or refused
  abbrev pub IsGlobalMade : Places → (number : ℕ) → (file : Option Object) → (old new : Block) → Type 0
  IsGlobalMade places number file old new = (r : Result State PathsError)
      × IsGlobal variables_told places files_told (telling paths_says r) × TellsOf Some paths_about paths_number told r number file old new

  -- the same once all is told of the variables that it needs
  abbrev pub IsGlobalLoad : Places → (number : ℕ) → (file : Option Object) → (old new : Block) → Type 0
  IsGlobalLoad places number file old new = OfVariables told place_variables number new (IsGlobalMade places number file old new)

  -- the same for the places that a program gives; or memory ran out
  pub record IsGlobalLoadAt (given : PlainPlaces) (number : ℕ) (file : Option Object) (old new : Block) : Type 0 where
    pub load : (number ≡ 27 → ⊥) → (places : Places) × (plain_places places ≡ given) × IsGlobalLoad places number file old new

  -- the file of the entries that variables set was loaded, with what it includes, or refused; 100 where they set none
  abbrev pub IsEnvMade : Rules → (number : ℕ) → (file : Option Object) → (old new : Block) → Type 0
  IsEnvMade rules number file old new = (r : Result (Option State) EnvError) × IsFromEnv variables_told (asks_by told.files rules) (telling env_says r)
      × TellsOf (λ made. made) env_about env_number told r number file old new

  -- the same for the rules that a program gives, once the count of the entries is told; or memory ran out
  pub record IsEnvLoad (given : Option Rules) (number : ℕ) (file : Option Object) (old new : Block) : Type 0 where
    pub load : (number ≡ 27 → ⊥) → OfVariables told (count_variable ∷ []) number new (OfRules given number (λ rules. IsEnvMade rules number file old new))

  -- the configuration of the repository in a folder, as the library has it
  abbrev pub IsRepositoryIn : (folder real : List ℕ) → Places → Result State Refused → Type 0
  IsRepositoryIn folder real places r = IsRepository variables_told places files_told folder (Ok real) r

  -- the configuration of a repository was refused
  abbrev pub IsRefusedRepository : (folder real : List ℕ) → Places → (number : ℕ) → (old new : Block) → Type 0
  IsRefusedRepository folder real places number old new = (e : GitError) × IsRepositoryIn folder real places (Err (git_says e))
      × IsAnsweredFor told (git_about e) (git_number e) number old new

  -- the configuration of the repository that a program gives was loaded, or refused
  abbrev pub IsRepositoryMade : PlainRepository → (number : ℕ) → (file : Option Object) → (old new : Block) → Type 0
  IsRepositoryMade given number file old new = (places : Places) × (plain_places places ≡ given.places)
      × (((f : State) × IsRepositoryIn given.folder given.real places (Ok f) × TellsFile (Some f) number file old new)
      ⊎ IsRefusedRepository given.folder given.real places number old new)

  -- the same once all is told of the variables that it always needs; or memory ran out
  pub record IsRepositoryLoad (given : PlainRepository) (number : ℕ) (file : Option Object) (old new : Block) : Type 0 where
    pub load : (number ≡ 27 → ⊥) → OfVariables told (place_variables ++ count_variable ∷ []) number new (IsRepositoryMade given number file old new)
