-- Which faults URLs have.
use Rattle.std.specs.Prelude.{◌≡◌, ◌⊎◌, ℕ, List, Option, Some, None, Result, Ok, Err}
use Rattle.gixcfg_core.specs.declared.urls.Fault.{Fault}
use Rattle.gixcfg_core.specs.declared.urls.Fault.TheVariants as faults
use Rattle.gixcfg_core.specs.declared.urls.Refusal.{Refusal}
use Rattle.gixcfg_core.specs.declared.urls.Refusal.TheVariants as refusals

-- a call gives what there is, or this refusal if there is nothing
abbrev pub GivesOr : {A : Type 0} (refusal : Refusal) → Result A Refusal → Option A → Type 0
GivesOr refusal (Ok x) wanted = wanted ≡ Some x
GivesOr refusal (Err told) wanted = (told ≡ refusal) × (wanted ≡ None)

-- memory, or the fault of a text that has no normal form
abbrev pub IsEscapeFault : Fault → (normal : Option (List ℕ)) → Type 0
IsEscapeFault faults.Memory normal = Unit {0}
IsEscapeFault (faults.Refused refusal) normal = (refusal ≡ refusals.Escape) × (normal ≡ None)

-- memory, or a fault of a path that has no normal form
abbrev pub IsPathFault : Fault → (path : Option (List ℕ)) → Type 0
IsPathFault faults.Memory path = Unit {0}
IsPathFault (faults.Refused refusal) path = ((refusal ≡ refusals.Escape) ⊎ (refusal ≡ refusals.Parent)) × (path ≡ None)
