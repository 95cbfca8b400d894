-- What standard output has of an answer.
use Rattle.std.specs.Prelude.{◌≡◌, ◌⊎◌, ℕ, List, Option, Result, Ok, Err, IfErr}
use Rattle.std.specs.Io.KnownBytes.{Appends, Keeps}
use Rattle.gixcfg_core.specs.Pieces.{HasBeginning, IsGiven}
use Rattle.gixcfg_core.specs.Troubles.{status_of}
use Rattle.gixcfg_core.specs.declared.trouble.Trouble.{Trouble}

-- The answer is given to the stream, and if that fails it is a trouble of the status 4; without an answer nothing is, for that trouble.
abbrev pub IsPut : {A : Type 0} → (plainly : A → List ℕ) → (answer : Result A Trouble) → (result : Result (Unit {0}) Trouble) → (old new : Option (List ℕ)) → Type 0
IsPut plainly (Ok made) result old new = IsGiven (plainly made) result old new × IfErr result (λ trouble. status_of trouble ≡ 4)
IsPut plainly (Err trouble) result old new = (result ≡ Err trouble) × Keeps old new

-- the exit status of what was done, or wasn't for that trouble
abbrev pub end_status : Result (Unit {0}) Trouble → ℕ
end_status (Ok done) = 0
end_status (Err trouble) = status_of trouble

-- The answer is written behind what the stream is known to have, and the status is 0; without one nothing is, and the status is that of the
-- trouble; else the stream failed, a beginning of the answer is written, and the status is 4.
abbrev pub IsShown : {A : Type 0} → (plainly : A → List ℕ) → Result A Trouble → (old new : Option (List ℕ)) → (status : ℕ) → Type 0
IsShown plainly (Ok made) old new status = ((status ≡ 4) × HasBeginning (plainly made) old new) ⊎ ((status ≡ 0) × Appends old new (plainly made))
IsShown plainly (Err trouble) old new status = (status ≡ status_of trouble) × Keeps old new
