-- What readers find in a folder, what a crash leaves of it, and what each call on it does.
use Rattle.std.specs.Prelude.{◌≡◌, ◌≢◌, ◌⊎◌, ℕ, ◌<◌, ◌≤◌, Bool, true, false, List, [], ◌∷◌, ◌++◌, Option, None, Some, Result, Ok, Err, codes}
use Rattle.std.specs.IoError.{error_kind}
use Rattle.std.specs.declared.io.Error.{Error}
use Rattle.std.specs.declared.io.ErrorKind.TheVariants.{OutOfMemory}
use Rattle.gixcfg_replacing.specs.Changes.{Change, MadeSince}

-- the name of a file in the folder, and its text, as bytes
abbrev pub Name : Type 0
Name = List ℕ

abbrev pub Text : Type 0
Text = List ℕ

-- the name of a file's lock, as git has it
abbrev pub lock_of : Name → Name
lock_of file = file ++ codes ".lock"

-- what is said of folders of a type
pub record Disk (F : Type 0) : Type 1 where
  -- what readers found at a name, each time that it changed, the last first: a file with a text, or nothing
  pub past : F → Name → List (Option Text)
  -- A crash at this moment may leave this text to the file that is at a name now, under whatever name it is found then.
  pub may_hold : F → Name → Text → Type 0
  -- A crash at this moment may leave this at a name.
  pub may_leave : F → Name → Option Text → Type 0
  -- the moment, as a number that doesn't fall
  pub moment : F → ℕ
  -- A crash at some moment from that one on, in a call or between two, might have left this at a name.
  pub left_since : F → ℕ → Name → Option Text → Type 0
  -- how often a call has failed otherwise than for want of memory
  pub faults : F → ℕ
  -- A name is ours from when these calls make a file there until they have removed or renamed it.
  pub ours : F → Name → Type 0
  -- how often others have changed what is at a name
  pub others : F → Name → ℕ
  -- the calls that are taken to have been done, the last first
  pub kept : F → List Change
  -- These may be the calls that were done on what is below since it was the first one, the last first.
  pub has_made : (first now : F) → List Change → Type 0

-- the last of what was found; nothing where nothing ever was
abbrev pub last_found : List (Option Text) → Option Text
last_found [] = None
last_found (found ∷ earlier) = found

module _ {F : Type 0} (disk : Disk F) (folder : F) where
  -- what readers find at a name
  abbrev pub seen : Name → Option Text
  seen name = last_found (disk.past folder name)

  -- The file at a name has this text, and so has what a crash leaves of it.
  pub record IsDown (name : Name) (text : Text) : Type 0 where
    pub found : seen name ≡ Some text
    pub holds : (held : Text) → disk.may_hold folder name held → held ≡ text

  -- A crash leaves at a name what is found there.
  abbrev pub IsAtRest : Name → Type 0
  IsAtRest name = (left : Option Text) → disk.may_leave folder name left → left ≡ seen name

  -- what a crash leaves of what is found at a name: nothing of nothing, and a file with a text that it may hold
  abbrev pub IsLeftOf : Name → Option Text → Option Text → Type 0
  IsLeftOf name None left = left ≡ None
  IsLeftOf name (Some now) left = (text : Text) × disk.may_hold folder name text × (left ≡ Some text)

  -- a crash leaves the file that is found at a name, and no other
  abbrev pub IsNameDown : Name → Type 0
  IsNameDown name = (left : Option Text) → disk.may_leave folder name left → IsLeftOf name (seen name) left

module _ {F : Type 0} (disk : Disk F) (old new : F) where
  -- nobody else has changed what is at a name
  abbrev pub IsQuiet : Name → Type 0
  IsQuiet name = disk.others new name ≡ disk.others old name

  -- Nothing happens at a name: readers find what they found, and a crash leaves there only what one might have left before.
  pub record KeepsName (name : Name) : Type 0 where
    pub found : disk.past new name ≡ disk.past old name
    pub holds : (text : Text) → disk.may_hold new name text → disk.may_hold old name text
    pub leaves : (left : Option Text) → disk.may_leave new name left → disk.may_leave old name left
    pub since : (t : ℕ) (left : Option Text) → t ≤ disk.moment old → disk.left_since new t name left → disk.left_since old t name left

  -- what these calls don't change
  pub record IsLeftAlone (name : Name) : Type 0 where
    pub kept : IsQuiet name → KeepsName name
    pub ours : disk.ours old name → disk.ours new name

  -- The calls that are taken to have been done since are these, the last first, and they were.
  pub record Did (since : List Change) : Type 0 where
    pub kept : disk.kept new ≡ since ++ disk.kept old
    pub made : MadeSince disk.has_made old new since

  -- Time goes on, and what was found, and what a crash might have left, isn't forgotten.
  pub record GoesOn : Type 0 where
    pub later : disk.moment old ≤ disk.moment new
    pub remembers : (t : ℕ) (name : Name) (left : Option Text) → t ≤ disk.moment old → disk.left_since old t name left → disk.left_since new t name left
    pub found : (name : Name) → (since : List (Option Text)) × (disk.past new name ≡ since ++ disk.past old name)
    pub faults : disk.faults old ≤ disk.faults new
    pub others : (name : Name) → disk.others old name ≤ disk.others new name
    -- The calls that are taken to have been done since are those that were.
    pub made : (since : List Change) × Did since

  -- what others do: they don't change what is ours, nor a file while we have its lock
  abbrev pub IsRespected : Name → Type 0
  IsRespected name = disk.ours old name → IsQuiet name × ((file : Name) → lock_of file ≡ name → IsQuiet file)

  -- An error has a cause: memory ran out, or a call failed.
  abbrev pub HasCause : Error → Type 0
  HasCause error = (error_kind error ≡ OutOfMemory) ⊎ (disk.faults old < disk.faults new)

  -- An empty file is made if nothing is there, and the name is ours; else nothing is done.
  abbrev pub Makes : Name → Result Bool Error → Type 0
  Makes name (Ok true) = (IsQuiet name → seen disk old name ≡ None) × (seen disk new name ≡ Some []) × disk.ours new name
  Makes name (Ok false) = (IsQuiet name → seen disk old name ≢ None) × IsLeftAlone name
  Makes name (Err error) = IsLeftAlone name

  -- The file at a name is at another one now, in place of what was there.
  pub record IsMovedOver (from to : Name) : Type 0 where
    pub found : disk.past new to ≡ seen disk old from ∷ disk.past old to
    pub gone : IsQuiet from → seen disk new from ≡ None
    pub holds : (text : Text) → disk.may_hold new to text → disk.may_hold old from text

  -- The file is moved; at an error it may be or not, and its old name is ours still.
  abbrev pub Moves : (from to : Name) → Result (Unit {0}) Error → Type 0
  Moves from to (Ok done) = IsMovedOver from to
  Moves from to (Err error) = disk.ours new from × (KeepsName to ⊎ IsMovedOver from to)

  -- At each moment a crash leaves at the name what it might have left there before, or the file that is moved there.
  abbrev pub IsOldOrMoved : (from to : Name) → Type 0
  IsOldOrMoved from to = (t : ℕ) (left : Option Text) → t ≤ disk.moment old → disk.left_since new t to left
      → disk.left_since old t to left ⊎ ((text : Text) × disk.may_hold old from text × (left ≡ Some text))
