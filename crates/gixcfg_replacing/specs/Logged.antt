-- A folder of which nothing is known, as the log of the calls on it has it: what differs from the log was done by others.
use Rattle.std.specs.Prelude.{◌≡◌, ℕ, ◌+◌, ◌≤◌, true, false, List, [], ◌∷◌, length, Result, Ok, Err}
use Rattle.std.specs.Vec.{vec_len, vec_capacity}
use Rattle.std.specs.declared.io.Error.{Error}
use Rattle.gixcfg_replacing.specs.Changes.{Change, MadeSince}
use Rattle.gixcfg_replacing.specs.Disk.{Name, Disk, lock_of, IsLeftAlone, IsRespected, GoesOn}
use Rattle.gixcfg_replacing.specs.Calls.{past, may_hold, may_leave, left_since, is_ours, others_at, faults_in, changes_in}
use Rattle.gixcfg_replacing.specs.declared.call.Call.{Call}
use Rattle.gixcfg_replacing.specs.declared.call.Call.TheVariants.{Fault}
use Rattle.gixcfg_replacing.specs.declared.logged.LoggedFolder.{LoggedFolder}

-- the folder of which nothing is known
abbrev pub below : {C : Type 0} → LoggedFolder C → C
below folder = folder.folder

abbrev pub calls_of : {C : Type 0} → LoggedFolder C → List Call
calls_of folder = folder.calls.items

-- with what may have been made on the folder below
abbrev pub logged_disk : {C : Type 0} → ((first now : C) → List Change → Type 0) → Disk (LoggedFolder C)
logged_disk has_made = record {
  past = λ folder n. past (calls_of folder) n;
  may_hold = λ folder n text. may_hold (calls_of folder) n text;
  may_leave = λ folder n left. may_leave (calls_of folder) n left;
  moment = λ folder. length (calls_of folder);
  left_since = λ folder t n left. left_since (calls_of folder) t n left;
  faults = λ folder. faults_in (calls_of folder);
  ours = λ folder n. is_ours (calls_of folder) n ≡ true;
  others = λ folder n. others_at (calls_of folder) n;
  kept = λ folder. changes_in (calls_of folder);
  has_made = λ first now changes. has_made first.folder now.folder changes;
}

-- others may change what is at a name: neither that nor its lock is ours
pub record IsFree (calls : List Call) (name : Name) : Type 0 where
  pub name_free : is_ours calls name ≡ false
  pub lock_free : is_ours calls (lock_of name) ≡ false

-- there is room in the log for so many calls
abbrev pub HasRoom : {C : Type 0} → LoggedFolder C → ℕ → Type 0
HasRoom folder count = vec_len folder.calls + count ≤ vec_capacity folder.calls

-- the log after a call: it was done, or failed
abbrev pub Does : Call → (old new : List Call) → Result (Unit {0}) Error → Type 0
Does call old new (Ok done) = new ≡ call ∷ old
Does call old new (Err error) = new ≡ Fault ∷ old

-- these calls did nothing, but others may have
pub record IsOthersDoing {C : Type 0} (has_made : (first now : C) → List Change → Type 0) (old new : LoggedFolder C) : Type 0 where
  pub alone : (n : Name) → IsLeftAlone (logged_disk has_made) old new n
  pub respect : (n : Name) → IsRespected (logged_disk has_made) old new n
  pub time : GoesOn (logged_disk has_made) old new
  pub owned : (n : Name) → is_ours (calls_of new) n ≡ is_ours (calls_of old) n
  pub kept : changes_in (calls_of new) ≡ changes_in (calls_of old)
  pub made : MadeSince has_made old.folder new.folder []
