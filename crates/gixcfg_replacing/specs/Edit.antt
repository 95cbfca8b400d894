-- What the replacement of a file's text does.
use Rattle.std.specs.Prelude.{◌≡◌, ◌≢◌, ◌⊎◌, ℕ, ◌≤◌, List, [], ◌∷◌, ◌++◌, Option, None, Some, IfSome, codes}
use Rattle.std.specs.declared.io.Error.{Error}
use Rattle.gixcfg_replacing.specs.Changes.{Change, Making, Sharing, Writing, Syncing, Renaming, Removing, SyncingNames}
use Rattle.gixcfg_replacing.specs.Disk.{Name, Text, Disk, last_found, seen, IsAtRest, IsQuiet, KeepsName, IsLeftAlone, GoesOn, HasCause}
use Rattle.gixcfg_replacing.specs.declared.ended.Ended.{Ended}
use Rattle.gixcfg_replacing.specs.declared.ended.Ended.TheVariants.{Done, Changed, Locked, Drafted, Failed, Unsure, Unsynced}
use Rattle.gixcfg_replacing.specs.declared.ended.Edited.{Edited}

-- the name of a file's draft by the process of a number
abbrev pub draft_of : (file number : Name) → Name
draft_of file number = (file ++ codes ".gixcfg-") ++ number

-- the changes by which an empty draft gets the rights of its file and a text, down to the disk; the last first, as all changes are
abbrev pub filling : (file draft : Name) (text : Text) → List Change
filling file draft text = Syncing draft ∷ Writing draft text ∷ Sharing file draft ∷ []

-- those by which a draft gets in place of its file, under the lock
abbrev pub swapping : (file draft lock : Name) → List Change
swapping file draft lock = Removing lock ∷ Renaming draft file ∷ Making lock ∷ []

-- those of a whole edit
abbrev pub editing : (file : Name) (text : Text) (draft lock : Name) → List Change
editing file text draft lock = SyncingNames ∷ (swapping file draft lock ++ filling file draft text ++ Making draft ∷ [])

-- an edit that is done, without a lock that it couldn't remove, is so by this
abbrev pub IsDoneBy : Edited → Type 0 → Type 0
IsDoneBy edited P = edited.ended ≡ Done → edited.lock ≡ None → P

-- beside the file: what somebody else has at a name stays, and our own is gone, or it is told why it couldn't be removed
pub record IsTidied {F : Type 0} (disk : Disk F) (old new : F) (name : Name) (told : Option Error) : Type 0 where
  pub theirs : IsQuiet disk old new name → seen disk old name ≢ None → KeepsName disk old new name
  pub own : told ≡ None → IsQuiet disk old new name → seen disk old name ≡ None → seen disk new name ≡ None
  pub cause : IfSome told (HasCause disk old new)

module _ {F : Type 0} (disk : Disk F) (old new : F) (file : Name) (text : Text) where
  -- Where a crash before would have left the file as it was, one at any moment leaves it with its old text or with the new one, whole.
  abbrev pub LeavesOldOrNew : Type 0
  LeavesOldOrNew = IsAtRest disk old file → (left : Option Text) → disk.left_since new (disk.moment old) file left → (left ≡ seen disk old file) ⊎ (left ≡ Some text)

module _ {F : Type 0} (disk : Disk F) (old new : F) (file : Name) (before : Option Text) (text : Text) where
  -- The file had the text from before. It has the new one, and a crash leaves that, also one by loss of power.
  pub record IsReplaced : Type 0 where
    pub had : seen disk old file ≡ before
    pub has : seen disk new file ≡ Some text
    pub rest : IsAtRest disk new file

  -- The new text came directly after the one from before, whoever else changed the file earlier or later.
  pub record IsNext : Type 0 where
    pub earlier : List (Option Text)
    pub later : List (Option Text)
    pub past : disk.past new file ≡ later ++ Some text ∷ (earlier ++ disk.past old file)
    pub had : last_found (earlier ++ disk.past old file) ≡ before

  -- what each end says of the file: it is as it was, but for where it is done and the last two
  abbrev pub EndsAs : (draft lock : Name) → Ended → Type 0
  EndsAs draft lock Done = (IsQuiet disk old new lock → seen disk old lock ≡ None) × IsReplaced
  EndsAs draft lock Changed = (seen disk old file ≢ before) × KeepsName disk old new file
  EndsAs draft lock Locked = (IsQuiet disk old new lock → seen disk old lock ≢ None) × KeepsName disk old new file
  EndsAs draft lock Drafted = (IsQuiet disk old new draft → seen disk old draft ≢ None) × KeepsName disk old new file
  EndsAs draft lock (Failed error) = HasCause disk old new error × KeepsName disk old new file
  EndsAs draft lock (Unsure error) = HasCause disk old new error × (seen disk old file ≡ before) × ((seen disk new file ≡ before) ⊎ (seen disk new file ≡ Some text))
  EndsAs draft lock (Unsynced error) = HasCause disk old new error × (seen disk old file ≡ before) × (seen disk new file ≡ Some text)

  -- at the ends at which the file has got the new text
  abbrev pub IfNew : Ended → Type 0 → Type 0
  IfNew Done P = P
  IfNew (Unsynced error) P = P
  IfNew ended P = Unit {0}

  -- A file's text is replaced, with these names of its draft and its lock. What is said of a name holds if nobody else changed it meanwhile.
  pub record Edits (draft lock : Name) (edited : Edited) : Type 0 where
    pub ends : IsQuiet disk old new file → EndsAs draft lock edited.ended
    -- also if others change the file
    pub next : IfNew edited.ended IsNext
    -- A crash at any moment leaves the file as one before might have left it, or with the new text, whole.
    pub crash : IsQuiet disk old new file → (t : ℕ) (left : Option Text) → t ≤ disk.moment old → disk.left_since new t file left → disk.left_since old t file left ⊎ (left ≡ Some text)
    pub locked : IsTidied disk old new lock edited.lock
    pub drafted : IfSome edited.draft (HasCause disk old new)
    -- nothing else is changed
    pub alone : (other : Name) → other ≢ file → other ≢ draft → other ≢ lock → IsLeftAlone disk old new other
    pub time : GoesOn disk old new
