-- What a refusal of a load says, whatever its error is made of.
use Rattle.std.specs.Prelude.{ℕ, ◌==◌, if◌then◌else◌, List}
use Rattle.gitconf_body.specs.ValueErrors.{value_number}
use Rattle.gitconf_body.specs.declared.value.Error.{Error as ValueError}
use Rattle.gitconf_includes.specs.Said.{known, number_of, Said}
use Rattle.gitconf_includes.specs.Said as includes
use Rattle.gitconf_read.specs.ParseError.{Refusal}
use Rattle.gitconf_sources.specs.declared.fault.FileFault.{FileFault}
use Rattle.gitconf_sources.specs.declared.fault.Stage.TheVariants.{Open, Read, Memory}
use Rattle.gitconf_text.specs.HeaderErrors.{header_number}
use Rattle.gitconf_text.specs.declared.parse.section.header.Error.{Error as HeaderError}

-- Of a text: the parser refuses it, an include is refused, there is no room, or a path can't be interpolated. Of the file at a path: it can't be
-- opened or read, or its text is refused. Of the entries that variables set: how many there are is no number, a key or a value isn't set or is no
-- text, a key has no dot, or a section can't be made or a value put into it. Of a repository: that of a file, of a text or of variables. Or memory ran
-- out.
pub data Refused : Type 0 where
  Unparsed : (e : Refusal) → Refused
  BadInclude : (said : Said) → Refused
  NoRoom : (number : ℕ) → Refused
  BadPath : (number : ℕ) → Refused
  Unreadable : (path : List ℕ) (fault : FileFault) → Refused
  Unmade : (path : List ℕ) (why : Refused) → Refused
  BadCount : (input : List ℕ) → Refused
  NoKey : (index : ℕ) → Refused
  NoDot : (index : ℕ) (key : List ℕ) → Refused
  NoValue : (index : ℕ) → Refused
  NotText : (index : ℕ) (kind : List ℕ) → Refused
  NoSection : (e : HeaderError) → Refused
  NoEntry : (e : ValueError) → Refused
  BadFile : (why : Refused) → Refused
  BadText : (why : Refused) → Refused
  BadVariables : (why : Refused) → Refused
  OutOfMemory : Refused

-- the number of the refusal
abbrev pub refused_number : Refused → ℕ
refused_number (Unparsed e) = e.number
refused_number (BadInclude said) = number_of said
refused_number (NoRoom number) = number
refused_number (BadPath number) = number
refused_number (Unreadable path fault) = 21
refused_number (Unmade path why) = refused_number why
refused_number (BadCount input) = 23
refused_number (NoKey index) = 24
refused_number (NoDot index key) = 25
refused_number (NoValue index) = 26
refused_number (NotText index kind) = 22
refused_number (NoSection e) = header_number e
refused_number (NoEntry e) = value_number e
refused_number (BadFile why) = refused_number why
refused_number (BadText why) = refused_number why
refused_number (BadVariables why) = refused_number why
refused_number OutOfMemory = 27

-- a refusal with more around it, which want of memory hasn't
abbrev pub within : (around : Refused → Refused) → Refused → Refused
within around OutOfMemory = OutOfMemory
within around why = around why

-- what is said of an include that is refused
abbrev pub include_refused : Said → Refused
include_refused includes.OutOfMemory = OutOfMemory
include_refused said = BadInclude said

-- what is said of a text that the parser refuses
abbrev pub parse_refused : Refusal → Refused
parse_refused e = if e.number == 27 then OutOfMemory else Unparsed (known e)

-- what is said of a fault of the file at a path
abbrev pub fault_refused : (path : List ℕ) → FileFault → Refused
fault_refused path fault = elim fault.stage [ Open ↦ Unreadable path fault | Read ↦ Unreadable path fault | Memory ↦ OutOfMemory ]
