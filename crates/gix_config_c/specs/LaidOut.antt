-- A text that is laid out.
use Rattle.std.specs.Prelude.{◌≡◌, ℕ, List}
use Rattle.gix_config_c.specs.Blocks.{Holds}
use Rattle.gix_config_c.specs.declared.block.Block.{Block}
use Rattle.gitconf_layout.specs.Layout.{IsLayout}
use Rattle.gitconf_layout.specs.declared.format.Options.{Options}

-- number 0 where the block has the text laid out by the options; 1 and 2 for a text that is refused; else memory ran out
pub record IsLaidOut (options : Options) (text : List ℕ) (number : ℕ) (block : Block) : Type 0 where
  pub done : number ≡ 0 → (laid_out : List ℕ) × IsLayout options text laid_out × Holds laid_out block
  pub short : (number ≡ 0 → ⊥) → (number ≡ 1 → ⊥) → (number ≡ 2 → ⊥) → number ≡ 27
