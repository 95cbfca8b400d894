-- What a refusal of includes says, whatever its error is made of.
use Rattle.std.specs.Prelude.{ℕ, ◌==◌, if◌then◌else◌, List}
use Rattle.gitconf_read.specs.ParseError.{Refusal}
use Rattle.gitconf_sources.specs.declared.fault.FileFault.{FileFault}
use Rattle.gitconf_sources.specs.declared.fault.Stage.TheVariants.{Open, Read, Memory}

-- the file at a path can't be opened or read, for this fault, or its text is refused by the parser; there is no room for a file; a path can't be
-- interpolated; files include each other deeper than the options allow; a path is relative to a folder that isn't known; there is no git folder, or it
-- can't be resolved; or memory ran out
pub data Said : Type 0 where
  CannotOpen : (path : List ℕ) (fault : FileFault) → Said
  CannotRead : (path : List ℕ) (fault : FileFault) → Said
  CannotParse : (path : List ℕ) (e : Refusal) → Said
  NoRoom : (number : ℕ) → Said
  NoPath : (number : ℕ) → Said
  TooDeep : (max_depth : ℕ) → Said
  NoFolder : Said
  NoGitFolder : Said
  Unresolved : (fault : FileFault) → Said
  OutOfMemory : Said

-- the number of the refusal
abbrev pub number_of : Said → ℕ
number_of (CannotOpen path fault) = 19
number_of (CannotRead path fault) = 20
number_of (CannotParse path e) = e.number
number_of (NoRoom number) = number
number_of (NoPath number) = number
number_of (TooDeep max_depth) = 15
number_of NoFolder = 16
number_of NoGitFolder = 17
number_of (Unresolved fault) = 18
number_of OutOfMemory = 27

-- what is said of a fault of the file at a path
abbrev pub fault_said : (path : List ℕ) → FileFault → Said
fault_said path fault = elim fault.stage [ Open ↦ CannotOpen path fault | Read ↦ CannotRead path fault | Memory ↦ OutOfMemory ]

-- what is known of the parser's refusal by the text that it refuses: its size only if that is the fault
abbrev pub known : Refusal → Refusal
known e = record e { size = if e.number == 1 then 0 else e.size }

-- what is said of the file at a path whose text the parser refuses
abbrev pub parse_said : (path : List ℕ) → Refusal → Said
parse_said path e = if e.number == 27 then OutOfMemory else CannotParse path (known e)
