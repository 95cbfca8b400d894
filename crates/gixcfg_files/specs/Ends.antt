-- What is told of the end of an edit in place.
use Rattle.std.specs.Prelude.{◌≡◌, ◌⊎◌, Result, Ok, Err}
use Rattle.gixcfg_files.specs.declared.lock.Lock.{Lock}
use Rattle.gixcfg_replacing.specs.declared.ended.Ended.{Ended}
use Rattle.gixcfg_replacing.specs.declared.ended.Ended.TheVariants as ends
use Rattle.gixcfg_files.specs.Faults.{unwritten}
use Rattle.gixcfg_files.specs.declared.fault.Fault.{Fault}
use Rattle.gixcfg_files.specs.declared.fault.Fault.TheVariants.{Locked, Unsynced, Memory}
use Rattle.gixcfg_files.specs.declared.place.Replaced.{Replaced}
use Rattle.gixcfg_files.specs.declared.place.Replaced.TheVariants.{Done, Changed}

-- that another edit is in the way, or there is no memory to tell that
abbrev pub TellsLocked : Result Replaced Fault → Type 0
TellsLocked result = ((lock : Lock) × (result ≡ Err (Locked lock))) ⊎ (result ≡ Err Memory)

-- success is told only where each call of the edit answered that it was done; under `--no-sync` those that write down do nothing
abbrev pub TellsAs : Ended → Result Replaced Fault → Type 0
TellsAs ends.Done result = result ≡ Ok Done
TellsAs ends.Changed result = result ≡ Ok Changed
TellsAs ends.Locked result = TellsLocked result
TellsAs ends.Drafted result = TellsLocked result
TellsAs (ends.Failed error) result = result ≡ Err (unwritten error)
TellsAs (ends.Unsure error) result = (result ≡ Ok Changed) ⊎ (result ≡ Err (unwritten error))
TellsAs (ends.Unsynced error) result = result ≡ Err (Unsynced error)
