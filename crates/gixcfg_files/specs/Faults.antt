-- Which fault an error of the disk is.
use Rattle.std.specs.Prelude.{Bool, true, false}
use Rattle.std.specs.IoError.{error_kind}
use Rattle.std.specs.declared.io.Error.{Error}
use Rattle.std.specs.declared.io.ErrorKind.{ErrorKind}
use Rattle.std.specs.declared.io.ErrorKind.TheVariants as kinds
use Rattle.gixcfg_files.specs.declared.fault.Fault.{Fault}
use Rattle.gixcfg_files.specs.declared.fault.Fault.TheVariants.{Unread, Unwritten, Memory}

-- this fault, but for an error of that kind: that memory ran out
abbrev pub unless_memory : ErrorKind → Fault → Fault
unless_memory kinds.OutOfMemory fault = Memory
unless_memory kind fault = fault

-- the fault of an error that was met while the file was read
abbrev pub unread : Error → Fault
unread error = unless_memory (error_kind error) (Unread error)

-- the fault of an error that was met while the file was locked or written
abbrev pub unwritten : Error → Fault
unwritten error = unless_memory (error_kind error) (Unwritten error)

-- an error of that kind says that no symbolic link is there
abbrev pub is_end : ErrorKind → Bool
is_end kinds.InvalidInput = true
is_end kinds.NotFound = true
is_end kind = false
