-- What edits answer, and what they leave.
use Rattle.std.specs.Prelude.{◌≡◌, ℕ, Bool, true, false, List, IfOk, Option, Some, None, Result, Ok, Err}
use Rattle.std.specs.Option.{option_map}
use Rattle.bstr.specs.declared.bstring.BString.{BString}
use Rattle.bstr.specs.Owned.{bstring_bytes}
use Rattle.gitconf_sources.specs.Key.{Key}
use Rattle.gix_config_c.specs.Blocks.{Holds}
use Rattle.gix_config_c.specs.declared.block.Block.{Block}
use Rattle.gitconf_state.specs.State.{State}
use Rattle.gitconf_state.specs.Edits.{Raw, answer}
use Rattle.gix_config.specs.Keys.{set_by_key, IsSetByKey}
use Rattle.gitconf_store.specs.SetErrors.{set_number}
use Rattle.gitconf_store.specs.declared.set_raw_value.Error as set_raw_value

-- a refused edit leaves the file as it was
abbrev pub IsEditedFile : (number : ℕ) → (old new : State) → Type 0
IsEditedFile number old new = (number ≡ 0 → ⊥) → new ≡ old

-- what is told of a value that was set: whether there was one, with its raw text; or the number of the refusal
abbrev pub Tells : Result (Option BString) set_raw_value.Error → (number : ℕ) → (had : Bool) → Block → Type 0
Tells (Ok None) number had block = (number ≡ 0) × (had ≡ false)
Tells (Ok (Some was)) number had block = (number ≡ 0) × (had ≡ true) × Holds (bstring_bytes was) block
Tells (Err refusal) number had block = number ≡ set_number refusal

-- the value was set, or refused
pub record IsSetTo (key : Key) (value : List ℕ) (old new : State) (number : ℕ) (had : Bool) (block : Block) : Type 0 where
  pub told : (number ≡ 27 → ⊥) → (r : Result (Option BString) set_raw_value.Error) × IsSetByKey key (λ _. true) value r old new
      × IfOk r (λ o. Raw (option_map bstring_bytes o) ≡ answer (set_by_key key (λ _. true) value) old) × Tells r number had block
