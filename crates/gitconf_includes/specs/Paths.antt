-- The file that a path of an including section names.
-- Source: the manual page of `git-config`, "Includes".
use Rattle.std.specs.Prelude.{◌≡◌, ℕ, Bool, true, false, not, if◌then◌else◌, List, Option, Some, None, Result, Ok, Err, ◌&&◌, ◌==◌, string_bytes}
use Rattle.std.specs.Option.{option_map}
use Rattle.std.specs.Borrow.{Bor}
use Rattle.std.specs.declared.string.String.{String}
use Rattle.std.specs.declared.alloc.Global.{Global}
use Rattle.gitconf_sources.specs.Metadata.{Meta}
use Rattle.gitconf_values.specs.Interpolated.{interpolated}
use Rattle.gitconf_values.specs.Paths.{parent, join, begins_slash}
use Rattle.gitconf_includes.specs.Errors.{says}
use Rattle.gitconf_includes.specs.Rules.{Rules}
use Rattle.gitconf_includes.specs.Said.{NoFolder, NoPath, Said}
use Rattle.gitconf_includes.specs.declared.includes.Error.{Error}
use Rattle.gitconf_includes.specs.declared.includes.Error.TheVariants.{Interpolate, MissingConfigPath, Memory}

-- what was found is passed on; a refusal stays, and so does nothing
abbrev pub found : {T U : Type 0} → Result (Option T) Said → (T → Result (Option U) Said) → Result (Option U) Said
found (Ok None) f = Ok None
found (Ok (Some t)) f = f t
found (Err said) f = Err said

-- A path with its shorthands replaced. If its shorthand stands for nothing, the path is left out, or refused if the rules ask for that.
abbrev pub replaced : Rules → (path : List ℕ) → Result (Option (List ℕ)) Said
replaced rules path = elim (interpolated rules.install rules.home rules.homes path) [
  | Ok text ↦ Ok (Some text)
  | Err number ↦ if number == 12 && not rules.refuses_shorthand then Ok None else Err (NoPath number)
]

-- The folder of the file that a section comes from. If the file has no path, what needs it is left out, or refused if the rules ask for
-- that; a path that is in no folder is refused.
abbrev pub folder : Rules → (from : Meta) → Result (Option (List ℕ)) Said
folder rules from = elim from.path [
  | None ↦ if rules.refuses_no_path then Err NoFolder else Ok None
  | Some path ↦ elim (parent path) [ None ↦ Err NoFolder | Some above ↦ Ok (Some above) ]
]

-- a text that begins with `/` is a path itself, any other is in the folder of the section's file
abbrev pub placed : Rules → (from : Meta) → (text : List ℕ) → Result (Option (List ℕ)) Said
placed rules from text = if begins_slash text then Ok (Some text) else found (folder rules from) (λ above. Ok (Some (join above text)))

-- The file that a path of a section names; none if the path is left out, or what its refusal says. `from` is where the section
-- comes from.
abbrev pub file_named : Rules → (from : Meta) → (path : List ℕ) → Result (Option (List ℕ)) Said
file_named rules from path = found (replaced rules path) (placed rules from)

-- a call returns that, or memory ran out
abbrev pub Tells : {T : Type 0} → (T → List ℕ) → Result (Option T) Error → Result (Option (List ℕ)) Said → Type 0
Tells bytes (Ok text) answer = answer ≡ Ok (option_map bytes text)
Tells bytes (Err Memory) answer = Unit {0}
Tells bytes (Err e) answer = answer ≡ Err (says e)

-- the same, for a text that is returned
abbrev pub Names : Result (Option (String Global)) Error → Result (Option (List ℕ)) Said → Type 0
Names = Tells string_bytes

-- the same, for a part of a text that is returned
abbrev pub IsFolder : Result (Option (Bor (List ℕ))) Error → Result (Option (List ℕ)) Said → Type 0
IsFolder = Tells (λ text. text.now)
