-- What is printed before an entry: its scope and where it comes from.
-- Source: the manual page of `git-config`, `--show-scope` and `--show-origin`.
use Rattle.std.specs.Prelude.{ℕ, Bool, true, List, [], ◌∷◌, ◌++◌, Option, Some, None, codes, if◌then◌else◌, string_bytes}
use Rattle.gitconf_sources.specs.Metadata.{Meta}
use Rattle.gitconf_sources.specs.declared.source.Source.{Source}
use Rattle.gitconf_sources.specs.declared.source.Source.TheVariants as sources
use Rattle.gixcfg_words.specs.declared.command.Form.{Form}
use Rattle.gixcfg_words.specs.declared.command.Place.{Place}
use Rattle.gixcfg_words.specs.declared.command.Place.TheVariants as places
use Rattle.gixcfg_core.specs.Quoted.{quoted}
use Rattle.gixcfg_core.specs.declared.lines.Line.{Line}
use Rattle.gixcfg_core.specs.declared.origins.Located.{Located}
use Rattle.gixcfg_core.specs.declared.origins.Located.TheVariants.{Input, File, Effective}

-- the path of what is read, if it is a file
abbrev pub path_of : Located → Option (List ℕ)
path_of Input = None
path_of (File path place) = Some (string_bytes path)
path_of Effective = None

-- the scope of a source, by git's word for it
abbrev pub scope_of_source : Source → List ℕ
scope_of_source sources.GitInstallation = codes "system"
scope_of_source sources.System = codes "system"
scope_of_source sources.Git = codes "global"
scope_of_source sources.User = codes "global"
scope_of_source sources.Local = codes "local"
scope_of_source sources.Worktree = codes "worktree"
scope_of_source sources.Env = codes "command"
scope_of_source sources.Cli = codes "command"
scope_of_source sources.Api = codes "command"
scope_of_source sources.EnvOverride = codes "command"

-- the scope of one of git's files; a working tree's file that is named has that of the repository's, as in git
abbrev pub scope_of_place : Option Place → List ℕ
scope_of_place None = codes "command"
scope_of_place (Some places.System) = codes "system"
scope_of_place (Some places.Global) = codes "global"
scope_of_place (Some places.Local) = codes "local"
scope_of_place (Some places.Worktree) = codes "local"

-- the scope of what was read
abbrev pub scope_of : Meta → Located → List ℕ
scope_of meta Effective = scope_of_source meta.source
scope_of meta (File path place) = scope_of_place place
scope_of meta Input = codes "command"

-- what a file is called: its path as it is where bytes 0 end what is printed, else as git quotes it
abbrev pub file_named : (is_null : Bool) (path : List ℕ) → List ℕ
file_named is_null path = codes "file:" ++ (if is_null then path else quoted path)

-- what an entry without a file of its own comes from
abbrev pub origin_read : (is_null : Bool) → Located → List ℕ
origin_read is_null Input = codes "standard input:"
origin_read is_null (File path place) = file_named is_null (string_bytes path)
origin_read is_null Effective = codes "command line:"

-- what the file is called from which something was read
abbrev pub origin_of : (is_null : Bool) → Meta → Located → List ℕ
origin_of is_null meta read = elim meta.path [ Some path ↦ file_named is_null path | None ↦ origin_read is_null read ]

-- what ends that
abbrev pub end_of : Form → ℕ
end_of form = if form.is_null then 0 else 9

-- a text with its end, if it is asked for
abbrev pub ended_if : (is_asked : Bool) → Form → (text : List ℕ) → List ℕ
ended_if is_asked form text = if is_asked then text ++ end_of form ∷ [] else []

-- what is printed before an entry: its scope and where it comes from, as far as that is asked for
abbrev pub before_of : Form → Meta → Located → List ℕ
before_of form meta read = ended_if form.has_scope form (scope_of meta read) ++ ended_if form.has_origin form (origin_of form.is_null meta read)

-- what is printed before a value that the call itself gives
abbrev pub before_given : Form → List ℕ
before_given form = ended_if form.has_scope form (codes "command") ++ ended_if form.has_origin form (codes "command line:")

-- how `diff` prints entries: all of them
abbrev pub differences_line : (is_null : Bool) → Line
differences_line is_null = record {
  has_names = true;
  has_value = true;
  between = if is_null then 10 else 61;
  end = if is_null then 0 else 10;
}

-- how `list` prints entries: `=` between the names and the value
abbrev pub entries_line : Form → Line
entries_line form = record {
  has_names = form.has_names;
  has_value = form.has_value;
  between = if form.is_null then 10 else 61;
  end = if form.is_null then 0 else 10;
}

-- how `get` prints them: a blank between the names and the value
abbrev pub values_line : Form → Line
values_line form = record (entries_line form) { between = if form.is_null then 10 else 32 }
