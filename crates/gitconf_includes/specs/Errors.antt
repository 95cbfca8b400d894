-- The refusals of files and of includes, made of what caused them; running out of memory has one case in each.
use Rattle.std.specs.Prelude.{ℕ, ◌==◌, if◌then◌else◌, string_bytes}
use Rattle.std.specs.declared.alloc.Global.{Global}
use Rattle.std.specs.declared.string.String.{String}
use Rattle.gitconf_values.specs.declared.path.interpolate.Error.{Error as Interpolate}
use Rattle.gitconf_values.specs.declared.path.interpolate.Error.TheVariants as interpolate
use Rattle.gitconf_values.specs.Homes.{interpolate_number}
use Rattle.gitconf_read.specs.ParseError.{Refusal}
use Rattle.gitconf_includes.specs.Said.{known, number_of, CannotOpen, CannotParse, CannotRead, NoFolder, NoGitFolder, NoPath, NoRoom, OutOfMemory, Said, TooDeep, Unresolved}
use Rattle.gitconf_includes.specs.declared.includes.Error.{Error as Includes}
use Rattle.gitconf_includes.specs.declared.includes.Error.TheVariants as includes
use Rattle.gitconf_includes.specs.declared.init.Error.{Error as Init}
use Rattle.gitconf_includes.specs.declared.init.Error.TheVariants as init

-- what a refusal of includes says
abbrev pub says : Includes → Said
says (includes.Io path fault) = CannotOpen (string_bytes path) fault
says (includes.CopyBuffer path fault) = CannotRead (string_bytes path) fault
says (includes.Parse path e) = CannotParse (string_bytes path) (known e)
says (includes.Span number) = NoRoom number
says (includes.Interpolate e) = NoPath (interpolate_number e)
says (includes.IncludeDepthExceeded max_depth) = TooDeep max_depth
says includes.MissingConfigPath = NoFolder
says includes.MissingGitDir = NoGitFolder
says (includes.Realpath fault) = Unresolved fault
says includes.Memory = OutOfMemory

-- its number
abbrev pub includes_number : Includes → ℕ
includes_number e = number_of (says e)

-- the refusal of an include because the parser refuses the file at that path
abbrev pub include_of_parse : (path : String Global) → Refusal → Includes
include_of_parse path e = if e.number == 27 then includes.Memory else includes.Parse path e

-- the refusal of an include for which there is no room
abbrev pub include_of_span : (number : ℕ) → Includes
include_of_span number = if number == 27 then includes.Memory else includes.Span number

-- the refusal of an include whose path can't be interpolated
abbrev pub include_of_interpolate : Interpolate → Includes
include_of_interpolate interpolate.Memory = includes.Memory
include_of_interpolate e = includes.Interpolate e

-- the refusal of a file that the parser refuses
abbrev pub init_of_parse : Refusal → Init
init_of_parse e = if e.number == 27 then init.Memory else init.Parse e

-- the refusal of a file for which there is no room
abbrev pub init_of_span : (number : ℕ) → Init
init_of_span number = if number == 27 then init.Memory else init.Span number

-- the refusal of a file because a path can't be interpolated
abbrev pub init_of_interpolate : Interpolate → Init
init_of_interpolate interpolate.Memory = init.Memory
init_of_interpolate e = init.Interpolate e

-- the refusal of a file because its includes are refused
abbrev pub init_of_includes : Includes → Init
init_of_includes includes.Memory = init.Memory
init_of_includes e = init.Includes e
