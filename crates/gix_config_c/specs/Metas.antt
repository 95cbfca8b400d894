-- Where a whole file comes from.
use Rattle.std.specs.Prelude.{◌≡◌, ◌⊎◌, ℕ, List, Option, Some, None, is_some}
use Rattle.gitconf_sources.specs.Metadata.{Meta}
use Rattle.gix_config_c.specs.Blocks.{Holds, IsKept}
use Rattle.gix_config_c.specs.Origins.{source_number, trust_number}
use Rattle.gix_config_c.specs.declared.block.Block.{Block}
use Rattle.gix_config_c.specs.declared.origin.Origin.{Origin}

-- the numbers of the metadata
pub record IsToldOrigin (meta : Meta) (origin : Origin) : Type 0 where
  pub source : origin.source ≡ source_number meta.source
  pub level : origin.level ≡ meta.level
  pub trust : origin.trust ≡ trust_number meta.trust
  pub has_path : origin.has_path ≡ is_some meta.path

-- the block has the path, if there is one; else it is as it was
abbrev pub IsPathHeld : (path : Option (List ℕ)) → (old new : Block) → Type 0
IsPathHeld None old new = IsKept old new
IsPathHeld (Some path) old new = Holds path new

-- number 0 where all of it is told; else memory ran out
pub record IsMetaTold (meta : Meta) (number : ℕ) (origin : Origin) (old new : Block) : Type 0 where
  pub answer : (number ≡ 0) ⊎ (number ≡ 27)
  pub told : number ≡ 0 → IsToldOrigin meta origin × IsPathHeld meta.path old new
