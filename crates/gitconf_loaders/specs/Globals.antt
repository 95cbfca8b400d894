-- The configuration of the machine and of the user: the files at the places of their sources.
-- Source: git-config's manual page, under "FILES"; the order is that in which Git reads them.
use Rattle.std.specs.Prelude.{◌≡◌, ◌⊎◌, ℕ, true, false, List, [], Option, None, Result, Ok, Err, string_bytes}
use Rattle.std.specs.Option.{option_map, unwrap_or}
use Rattle.gitconf_sources.specs.Metadata.{api_meta, Meta}
use Rattle.gitconf_sources.specs.Reports.{FileReport, VariableReport}
use Rattle.gitconf_sources.specs.declared.host.Places.{Places}
use Rattle.gitconf_includes.specs.Rules.{Rules}
use Rattle.gitconf_sources.specs.FoundFiles.{global_sources, AreFound}
use Rattle.gitconf_state.specs.State.{State}
use Rattle.gitconf_loaders.specs.Paths.{IsLoadOfPaths, Then}
use Rattle.gitconf_loaders.specs.Refused.{OutOfMemory, Refused}

-- The rules of their includes: ten files deep, with the user's home folder and those of users; nothing is known that conditions ask for.
abbrev pub home_rules : Places → Rules
home_rules places = record {
  max_depth = 10;
  refuses_depth = true;
  refuses_shorthand = false;
  refuses_no_path = true;
  install = None;
  home = option_map string_bytes places.home;
  homes = places.homes;
  git_dir = None;
  branch = None;
  lossy = false;
}

-- a file without front and sections
abbrev pub empty_file : Meta → State
empty_file meta = record { front = []; meta = meta; next = 0; used = 0; sections = [] }

-- what was loaded, or the empty file if nothing was
abbrev pub IsOrEmpty : Option State → Result State Refused → Type 0
IsOrEmpty loaded r = r ≡ Ok (unwrap_or loaded (empty_file api_meta))

-- the files of the machine and of the user, one after the other; memory may run out
abbrev pub IsGlobal : Option (List ℕ → VariableReport) → Places → Option (List ℕ → FileReport) → Result State Refused → Type 0
IsGlobal variables places table r = (r ≡ Err OutOfMemory)
    ⊎ (found : List Meta) × AreFound variables places table global_sources found
    × Then (IsLoadOfPaths true false (record { rules = home_rules places; table = table }) found) IsOrEmpty r
