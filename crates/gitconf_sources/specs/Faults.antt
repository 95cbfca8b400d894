-- Which fault of a file an error of the system is.
use Rattle.std.specs.Prelude.{true, false}
use Rattle.std.specs.declared.io.ErrorKind.{ErrorKind}
use Rattle.std.specs.declared.io.ErrorKind.TheVariants as kinds
use Rattle.gitconf_sources.specs.declared.fault.FileFault.{FileFault}
use Rattle.gitconf_sources.specs.declared.fault.Stage.{Stage}
use Rattle.gitconf_sources.specs.declared.fault.Stage.TheVariants.{Open, Read, Memory}

-- the fault of a system error of this kind at a stage; running out of memory is a stage of its own
abbrev pub fault_at : Stage → ErrorKind → FileFault
fault_at stage kinds.NotFound = record { stage = stage; not_found = true }
fault_at stage kinds.OutOfMemory = record { stage = Memory; not_found = false }
fault_at stage _ = record { stage = stage; not_found = false }

-- the fault of a system error of this kind while a file was read: a folder counts as one that can't be opened
abbrev pub read_fault : ErrorKind → FileFault
read_fault kinds.IsADirectory = fault_at Open kinds.IsADirectory
read_fault kind = fault_at Read kind
