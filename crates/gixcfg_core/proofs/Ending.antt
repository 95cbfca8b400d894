-- An answer that is written, and the status of that.
use Rattle.std.proofs.Common.{◌≡◌, ℕ, List, Option, Result, Ok, Err, ap, ◌∙◌, inl, inr}
use Rattle.gixcfg_core.specs.Shown.{IsPut, IsShown, end_status}
use Rattle.gixcfg_core.specs.declared.trouble.Trouble.{Trouble}

pub shown_by : {A : Type 0} (plainly : A → List ℕ) (answer : Result A Trouble) (result : Result (Unit {0}) Trouble) (old new : Option (List ℕ)) (status : ℕ)
    → IsPut plainly answer result old new → status ≡ end_status result → IsShown plainly answer old new status
shown_by plainly (Ok made) (Ok done) old new status put told = inr (told, put.0)
shown_by plainly (Ok made) (Err trouble) old new status put told = inl (told ∙ put.1, put.0)
shown_by plainly (Err trouble) result old new status put told = (told ∙ ap end_status put.0, put.1)
