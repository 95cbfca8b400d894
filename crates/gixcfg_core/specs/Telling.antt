-- What `get` prints of the entries that it found, as they are.
-- Source: the manual page of `git-config`, `get`, `--all` and `--default`.
use Rattle.std.specs.Prelude.{ℕ, ◌-◌, List, [], ◌∷◌, length, drop, flat_map, Option, Some, None, Result, Ok, Err}
use Rattle.gixcfg_words.specs.declared.command.Choice.{Choice}
use Rattle.gixcfg_words.specs.declared.command.Choice.TheVariants.{Last, All}
use Rattle.gixcfg_words.specs.declared.command.Fallback.{Fallback}
use Rattle.gixcfg_words.specs.declared.command.Form.{Form}
use Rattle.gixcfg_core.specs.Entries.{PlainFound, line_of}
use Rattle.gixcfg_core.specs.Origins.{before_given, values_line}
use Rattle.gixcfg_core.specs.declared.trouble.Trouble.{Trouble}
use Rattle.gixcfg_core.specs.declared.trouble.Trouble.TheVariants.{Missing}

-- the line of an entry that is found
abbrev pub found_line : Form → PlainFound → List ℕ
found_line form f = line_of (values_line form) f.before f.names f.value

-- the line of what is given for an entry that is missing: as if the command line had it, under the word that it was asked for by
abbrev pub default_line : Form → Fallback → List ℕ
default_line form default = line_of (values_line form) (before_given form) default.word.now (Some default.value.now)

-- the last of some entries, or none
abbrev pub last_of : List PlainFound → List PlainFound
last_of found = drop (length found - 1) found

-- what is given where nothing is found, on a line; or nothing is given
abbrev pub given_line : Form → Option Fallback → Result (List ℕ) Trouble
given_line form None = Err Missing
given_line form (Some default) = Ok (default_line form default)

-- the lines of what is found: of the last, or of all; where nothing is, of what is given
abbrev pub found_lines : Form → Choice → List PlainFound → Result (List ℕ) Trouble
found_lines form (Last default) [] = given_line form default
found_lines form (Last default) (f ∷ found) = Ok (flat_map (found_line form) (last_of (f ∷ found)))
found_lines form All [] = Err Missing
found_lines form All (f ∷ found) = Ok (flat_map (found_line form) (f ∷ found))
