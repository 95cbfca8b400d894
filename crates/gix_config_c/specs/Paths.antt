-- What is answered for a path.
use Rattle.std.specs.Prelude.{◌≡◌, ℕ, true, List, Option, Some, None, Result, Ok, Err}
use Rattle.gitconf_sources.specs.Key.{Key}
use Rattle.gitconf_lookups.specs.Lookups.{value_at}
use Rattle.gix_config_c.specs.Blocks.{Holds}
use Rattle.gix_config_c.specs.Folders.{KnownFolders}
use Rattle.gix_config_c.specs.declared.block.Block.{Block}
use Rattle.gitconf_state.specs.State.{State}
use Rattle.gitconf_values.specs.Interpolated.{interpolated}
use Rattle.gix_config_c.specs.Answers.{OfKey}

-- what is said of the folders, if those that are known are text; else the number is 101
pub record OfFolders (given : Option KnownFolders) (number : ℕ) (said : KnownFolders → Type 0) : Type 0 where
  pub folders : (known : KnownFolders) → given ≡ Some known → said known
  pub other : given ≡ None → number ≡ 101

-- what a path stands for in these folders, or the number of its refusal
abbrev pub whole_path : KnownFolders → (path : List ℕ) → Result (List ℕ) ℕ
whole_path known path = interpolated known.installation known.home known.homes path

-- number 0 where the block has what the path stands for, else that of the refusal; or memory ran out
pub record IsWhole (known : KnownFolders) (path : List ℕ) (number : ℕ) (block : Block) : Type 0 where
  pub done : number ≡ 0 → (whole : List ℕ) × (whole_path known path ≡ Ok whole) × Holds whole block
  pub refused : (number ≡ 0 → ⊥) → (number ≡ 27 → ⊥) → whole_path known path ≡ Err number

-- the same for the last value of a key; 100 if there is none
pub record IsPathOf (key : Key) (known : KnownFolders) (f : State) (number : ℕ) (block : Block) : Type 0 where
  pub none : value_at key (λ _. true) f ≡ None → number ≡ 100
  pub some : (path : List ℕ) → value_at key (λ _. true) f ≡ Some path → IsWhole known path number block

-- the same for the key and the folders that a program gives; 101 if one of their names isn't text
pub record IsPathFor (names : Option Key) (given : Option KnownFolders) (f : State) (number : ℕ) (block : Block) : Type 0 where
  pub told : OfKey names number (λ key. OfFolders given number (λ known. IsPathOf key known f number block))
