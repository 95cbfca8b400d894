-- What loads by what was told answer.
use Rattle.std.specs.Prelude.{◌≡◌, if◌then◌else◌, ℕ, true, false, List, [], ◌∷◌, Option, Some, None, Result, Ok, Err, string_bytes}
use Rattle.gitconf_includes.specs.Errors.{includes_number, says}
use Rattle.gitconf_includes.specs.Expansion.{Asks, Resolves}
use Rattle.gitconf_includes.specs.Rules.{Rules}
use Rattle.gitconf_includes.specs.declared.includes.Error.{Error as IncludesError}
use Rattle.gitconf_includes.specs.declared.includes.Error.TheVariants as includes
use Rattle.gitconf_includes.specs.declared.init.Error.TheVariants as init
use Rattle.gitconf_loaders.specs.Errors.{paths_number, paths_says}
use Rattle.gitconf_loaders.specs.Paths.{IsLoadOfPaths, telling}
use Rattle.gitconf_loaders.specs.declared.from_paths.Error.{Error as PathsError}
use Rattle.gitconf_loaders.specs.declared.from_paths.Error.TheVariants as paths
use Rattle.gitconf_state.specs.State.{State}
use Rattle.gix_config_c.specs.Blocks.{Holds, IsKept}
use Rattle.gix_config_c.specs.Loads.{PlainWanted}
use Rattle.gix_config_c.specs.Telling.{OfTold}
use Rattle.gix_config_c.specs.Told.{Tells, is_told, told_at}
use Rattle.gix_config_c.specs.declared.block.Block.{Block}
use Rattle.gix_config_c.specs.declared.object.Object.{Object}
use Rattle.gix_config_c.specs.declared.object.Object.TheVariants.{File}

-- what is said of the rules that a program gives, if their texts are text; else the number is 101
pub record OfRules (given : Option Rules) (number : ℕ) (said : Rules → Type 0) : Type 0 where
  pub rules : (rules : Rules) → given ≡ Some rules → said rules
  pub other : given ≡ None → number ≡ 101

-- what an expansion depends on: the rules, and what was told
abbrev pub asks_by : Tells → Rules → Asks
asks_by told rules = record { rules = rules; table = Some (told_at told) }

-- the path of the file that can't be opened or read, or whose text is refused, if the refusal of an include names one
abbrev pub include_path : IncludesError → Option (List ℕ)
include_path (includes.Io path fault) = Some (string_bytes path)
include_path (includes.CopyBuffer path fault) = Some (string_bytes path)
include_path (includes.Parse path e) = Some (string_bytes path)
include_path _ = None

-- the same of the refusal of a load
abbrev pub load_path : PathsError → Option (List ℕ)
load_path (paths.Io path fault) = Some (string_bytes path)
load_path (paths.Init path (init.Parse e)) = Some (string_bytes path)
load_path (paths.Init path (init.Includes e)) = include_path e
load_path _ = None

-- the block is as it was, but for the numbers with which it has the path of a file
abbrev pub IsKeptPath : (number : ℕ) → (old new : Block) → Type 0
IsKeptPath number old new = (number ≡ 1 → ⊥) → (number ≡ 2 → ⊥) → (number ≡ 19 → ⊥) → (number ≡ 20 → ⊥) → (number ≡ 21 → ⊥) → (number ≡ 103 → ⊥) → IsKept old new

-- The number of the library's refusal, which may name the path of a file: that goes to the block, and the number is 103 if nothing was told
-- of it.
abbrev pub IsAnswered : Tells → Option (List ℕ) → (refusal number : ℕ) → (old new : Block) → Type 0
IsAnswered told None refusal number old new = (number ≡ refusal) × IsKept old new
IsAnswered told (Some path) refusal number old new = (number ≡ (if is_told told path then refusal else 103)) × Holds path new

-- what is told of a load: the file that was made, 100 where nothing was, or the number of the refusal
abbrev pub TellsLoad : Tells → Result (Option State) PathsError → (number : ℕ) → (file : Option Object) → (old new : Block) → Type 0
TellsLoad told (Ok (Some f)) number file old new = (number ≡ 0) × (file ≡ Some (File f)) × IsKept old new
TellsLoad told (Ok None) number file old new = (number ≡ 100) × IsKept old new
TellsLoad told (Err e) number file old new = IsAnswered told (load_path e) (paths_number e) number old new

-- the file was loaded, with what it includes, from what was told, or refused; or memory ran out
pub record IsLoadedBy (told : Tells) (wanted : PlainWanted) (number : ℕ) (file : Option Object) (old new : Block) : Type 0 where
  pub load : (number ≡ 27 → ⊥) → (r : Result (Option State) PathsError)
      × IsLoadOfPaths true false (asks_by told wanted.rules) (wanted.meta ∷ []) (telling paths_says r) × TellsLoad told r number file old new

-- what is told of includes that were resolved: that the file has them, or the number of the refusal
abbrev pub TellsResolved : Tells → Rules → (f g : State) → Result (Unit {0}) IncludesError → (number : ℕ) → (old new : Block) → Type 0
TellsResolved told rules f g (Ok done) number old new = (number ≡ 0) × Resolves says (asks_by told rules) f (Ok done) g × IsKept old new
TellsResolved told rules f g (Err e) number old new =
    ((left : State) × Resolves says (asks_by told rules) f (Err e) left) × IsAnswered told (include_path e) (includes_number e) number old new

-- the file has what it includes, from what was told, or that was refused; or memory ran out
pub record IsResolvedBy (told : Tells) (rules : Rules) (f g : State) (number : ℕ) (old new : Block) : Type 0 where
  pub resolved : (number ≡ 27 → ⊥) → (r : Result (Unit {0}) IncludesError) × TellsResolved told rules f g r number old new

-- the same for what was told in a handle, and the rules that a program gives
pub record IsResolvedFrom (it : Option Object) (given : Option Rules) (f g : State) (number : ℕ) (old new : Block) : Type 0 where
  pub told : OfTold it number (λ told. OfRules given number (λ rules. IsResolvedBy told.files rules f g number old new))
