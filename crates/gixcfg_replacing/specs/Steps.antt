-- What the steps of an edit do.
use Rattle.std.specs.Prelude.{◌≡◌, ◌≢◌, ◌⊎◌, ℕ, ◌≤◌, ◌∷◌, Option, None, Some, Result, Ok, Err}
use Rattle.gixcfg_replacing.specs.Disk.{Name, Text, Disk, seen, lock_of, IsQuiet, KeepsName, HasCause, IsDown, IsNameDown}
use Rattle.gixcfg_replacing.specs.declared.ended.Ended.{Ended}
use Rattle.gixcfg_replacing.specs.declared.ended.Ended.TheVariants.{Done, Changed, Locked, Drafted, Failed, Unsure, Unsynced}

-- the names of a file, its draft and its lock
pub record AreBeside (file draft lock : Name) : Type 0 where
  pub of_file : lock ≡ lock_of file
  pub drafted : draft ≢ file
  pub locked : lock ≢ file
  pub apart : lock ≢ draft

module _ {F : Type 0} (disk : Disk F) (old new : F) where
  -- a crash at a moment since leaves at a name what it might have left there before, or this text
  abbrev pub AddsOnly : (name : Name) (text : Text) → Type 0
  AddsOnly name text = (t : ℕ) (left : Option Text) → t ≤ disk.moment old → disk.left_since new t name left → disk.left_since old t name left ⊎ (left ≡ Some text)

  -- a draft that was renamed is gone, and any other is ours still
  abbrev pub LeavesDraft : Name → Result (Unit {0}) Ended → Type 0
  LeavesDraft draft (Ok done) = IsQuiet disk old new draft → seen disk new draft ≡ None
  LeavesDraft draft (Err ended) = disk.ours new draft

module _ {F : Type 0} (disk : Disk F) (old new : F) (file : Name) (before : Option Text) (text : Text) where
  -- under the lock: the draft is the file, or the file is as it was, or one of both where the rename failed
  abbrev pub SwapsAs : Result (Unit {0}) Ended → Type 0
  SwapsAs (Ok done) = (seen disk old file ≡ before) × (disk.past new file ≡ Some text ∷ disk.past old file) × IsDown disk new file text
  SwapsAs (Err Changed) = (seen disk old file ≢ before) × KeepsName disk old new file
  SwapsAs (Err (Failed error)) = HasCause disk old new error × KeepsName disk old new file
  SwapsAs (Err (Unsure error)) = HasCause disk old new error × (seen disk old file ≡ before) × ((seen disk new file ≡ before) ⊎ (seen disk new file ≡ Some text))
  SwapsAs (Err ended) = ⊥

  -- with the lock: as under it, or it is somebody else's
  abbrev pub LocksAs : Name → Result (Unit {0}) Ended → Type 0
  LocksAs lock (Ok done) = (IsQuiet disk old new lock → seen disk old lock ≡ None) × (seen disk old file ≡ before) × IsDown disk new file text
  LocksAs lock (Err Changed) = (seen disk old file ≢ before) × KeepsName disk old new file
  LocksAs lock (Err Locked) = (IsQuiet disk old new lock → seen disk old lock ≢ None) × KeepsName disk old new file
  LocksAs lock (Err (Failed error)) = HasCause disk old new error × KeepsName disk old new file
  LocksAs lock (Err (Unsure error)) = HasCause disk old new error × (seen disk old file ≡ before) × ((seen disk new file ≡ before) ⊎ (seen disk new file ≡ Some text))
  LocksAs lock (Err ended) = ⊥

-- an end before the rename, or at it
abbrev pub IsUndone : Ended → Type 0
IsUndone Done = ⊥
IsUndone Drafted = ⊥
IsUndone (Unsynced error) = ⊥
IsUndone ended = Unit {0}

-- an end of who has a draft
abbrev pub IsOwn : Ended → Type 0
IsOwn Drafted = ⊥
IsOwn ended = Unit {0}

module _ {F : Type 0} (disk : Disk F) (old new : F) where
  -- after the rename: the names are written down, or a call failed
  abbrev pub SettlesAs : Ended → Type 0
  SettlesAs Done = (name : Name) → IsQuiet disk old new name → IsNameDown disk new name
  SettlesAs (Unsynced error) = HasCause disk old new error
  SettlesAs ended = ⊥
