-- What sources of files and of variables report: a table that decides what their calls return, and how often a call failed.
-- `None` is for a source that doesn't report it.
use Rattle.std.specs.Prelude.{◌≡◌, ◌==◌, ◌⊎◌, if◌then◌else◌, ℕ, ◌+◌, ◌<◌, ◌≤◌, Bool, true, false, List, Option, Some, None, Result, Ok, Err, string_bytes}
use Rattle.std.specs.declared.vec.Vec.{Vec}
use Rattle.gitconf_sources.specs.declared.source.Trust.{Trust}
use Rattle.gitconf_sources.specs.declared.fault.FileFault.{FileFault}
use Rattle.gitconf_sources.specs.declared.fault.Stage.TheVariants.{Open, Read, Memory}
use Rattle.gitconf_sources.specs.declared.env.EnvVar.{EnvVar}
use Rattle.gitconf_sources.specs.declared.env.EnvVar.TheVariants.{Unset, Text, IllFormed}

-- what is at a path: no file, one with these bytes and this trust, one that can't be opened, or one that can't be read
pub data FileReport : Type 0 where
  NoFile : FileReport
  IsFile : (bytes : List ℕ) (trust : Trust) → FileReport
  Unopened : (not_found : Bool) → FileReport
  Unread : FileReport

-- whether there is a file, even one that can't be opened or read
abbrev pub is_there : FileReport → Bool
is_there NoFile = false
is_there (IsFile bytes trust) = true
is_there (Unopened not_found) = true
is_there Unread = true

-- its bytes, or why they can't be read
abbrev pub read_of : FileReport → Result (List ℕ) FileFault
read_of NoFile = Err (record { stage = Open; not_found = true })
read_of (IsFile bytes trust) = Ok bytes
read_of (Unopened not_found) = Err (record { stage = Open; not_found = not_found })
read_of Unread = Err (record { stage = Read; not_found = false })

-- how far it is trusted, or why that can't be asked
abbrev pub trust_of : FileReport → Result Trust FileFault
trust_of NoFile = Err (record { stage = Open; not_found = true })
trust_of (IsFile bytes trust) = Ok trust
trust_of (Unopened not_found) = Err (record { stage = Open; not_found = not_found })
trust_of Unread = Err (record { stage = Read; not_found = false })

-- the outcome of reading what is there; memory may run out in any case
abbrev pub IsReadOf : {Z : Type 0} → Result (Vec ℕ Z) FileFault → FileReport → Type 0
IsReadOf (Ok bytes) told = read_of told ≡ Ok bytes.items
IsReadOf (Err fault) told = (fault.stage ≡ Memory) ⊎ (read_of told ≡ Err fault)

-- the outcome of asking how far it is trusted; memory may run out in any case
abbrev pub IsTrustOf : Result Trust FileFault → FileReport → Type 0
IsTrustOf (Ok trust) told = trust_of told ≡ Ok trust
IsTrustOf (Err fault) told = (fault.stage ≡ Memory) ⊎ (trust_of told ≡ Err fault)

-- nothing is promised of a host that doesn't report
abbrev pub May : {T : Type 0} → Option T → (T → Type 0) → Type 0
May None P = Unit {0}
May (Some told) P = P told

-- one failure more; a count may end there
abbrev pub CountsOne : (old new : Option ℕ) → Type 0
CountsOne (Some m) (Some n) = n ≡ m + 1
CountsOne (Some m) None = Unit {0}
CountsOne None n = n ≡ None

-- the count of failures is as before, or, if a fault was returned, one more
abbrev pub IsCounted : {T : Type 0} → Result T FileFault → (old new : Option ℕ) → Type 0
IsCounted (Ok done) old new = new ≡ old
IsCounted (Err fault) old new = CountsOne old new

-- over many calls: the count of failures didn't fall
abbrev pub IsNoLess : (old new : Option ℕ) → Type 0
IsNoLess (Some m) (Some n) = m ≤ n
IsNoLess (Some m) None = Unit {0}
IsNoLess None n = n ≡ None

-- the count of failures grew
abbrev pub Grew : (old new : Option ℕ) → Type 0
Grew (Some m) (Some n) = m < n
Grew (Some m) None = Unit {0}
Grew None n = n ≡ None

-- a count that is kept in 64 bits, which reports nothing once it is at its greatest value
abbrev pub reported_count : (count : ℕ) → Option ℕ
reported_count count = if count == 18446744073709551615 then None else Some count

-- what a variable is set to: nothing, a text, or bytes that aren't UTF-8
pub data VariableReport : Type 0 where
  NotSet : VariableReport
  HasText : (text : List ℕ) → VariableReport
  NoText : VariableReport

-- what is known of a variable
abbrev pub variable_report : EnvVar → VariableReport
variable_report Unset = NotSet
variable_report (Text text) = HasText (string_bytes text)
variable_report IllFormed = NoText
