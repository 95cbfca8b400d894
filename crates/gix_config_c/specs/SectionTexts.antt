-- The text of a section.
use Rattle.std.specs.Prelude.{◌≡◌, ℕ, Option, Some, None}
use Rattle.gitconf_state.specs.Printing.{printed_section}
use Rattle.gitconf_state.specs.State.{SectionState}
use Rattle.gix_config_c.specs.Blocks.{Holds}
use Rattle.gix_config_c.specs.declared.block.Block.{Block}

-- number 0 where the block has what is printed of the section; else memory ran out
pub record IsTextOf (s : SectionState) (number : ℕ) (text : Block) : Type 0 where
  pub done : number ≡ 0 → Holds (printed_section s) text
  pub short : (number ≡ 0 → ⊥) → number ≡ 27

-- the same if there is a section; 100 if there is none
pub record IsTextIf (section : Option SectionState) (number : ℕ) (text : Block) : Type 0 where
  pub none : section ≡ None → number ≡ 100
  pub some : (s : SectionState) → section ≡ Some s → IsTextOf s number text
