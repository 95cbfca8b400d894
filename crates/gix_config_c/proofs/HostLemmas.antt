-- What refused loads of the machine, of variables and of a repository are about.
use Rattle.std.proofs.Common.{◌≡◌, ℕ, List, Option, Some, None, inl, inr}
use Rattle.std.specs.Prelude.{◌⊎◌}
use Rattle.gitconf_state.specs.State.{State}
use Rattle.gix_config_c.specs.Blocks.{IsKept}
use Rattle.gix_config_c.specs.HostLoads.{AVariable, IsAnsweredFor, IsAskedAbout, TellsFile, file_about}
use Rattle.gix_config_c.specs.Loaded.{IsAnswered}
use Rattle.gix_config_c.specs.declared.block.Block.{Block}
use Rattle.gix_config_c.specs.declared.object.Object.{Object}
use Rattle.gix_config_c.specs.declared.object.Object.TheVariants.{File}
use Rattle.gix_config_c.specs.declared.told.Told.{Told}

-- what is answered of a file that a refusal is about
pub answered_for : (told : Told) (path : Option (List ℕ)) (refusal number : ℕ) (old new : Block) → IsAnswered told.files path refusal number old new
    → IsAnsweredFor told (file_about path) refusal number old new
answered_for told None refusal number old new answered = answered
answered_for told (Some path) refusal number old new answered = answered

-- what is answered of a variable that a refusal is about
pub answered_about : (told : Told) (name : List ℕ) (refusal number : ℕ) (old new : Block) → IsAskedAbout told name refusal number new → (number ≡ 27 → ⊥)
    → IsAnsweredFor told (AVariable name) refusal number old new
answered_about told name refusal number old new (inl memory) short = absurd (short memory)
answered_about told name refusal number old new (inr said) short = said

-- what is told of a file that was put into a handle
pub put_tells : (f : State) (number : ℕ) (file : Option Object) (old new : Block) → (number ≡ 0) ⊎ (number ≡ 27) → (number ≡ 0 → file ≡ Some (File f))
    → IsKept old new → (number ≡ 27 → ⊥) → TellsFile (Some f) number file old new
put_tells f number file old new (inl done) put kept short = (done, put done, kept)
put_tells f number file old new (inr memory) put kept short = absurd (short memory)
