-- What an expansion depends on: the options of includes, in plain bytes.
use Rattle.std.specs.Prelude.{ℕ, Bool, false, List, Option, Some, None, Result, Ok, Err}
use Rattle.std.specs.Option.{option_copied, option_map}
use Rattle.std.specs.Borrow.{Bor}
use Rattle.gitconf_sources.specs.declared.fault.FileFault.{FileFault}
use Rattle.gitconf_includes.specs.declared.includes.conditional.GitDir.{GitDir}
use Rattle.gitconf_includes.specs.declared.includes.Options.{Options as Includes}
use Rattle.gitconf_includes.specs.declared.init.Options.{Options as Init}

-- The folder of a repository: the path as it is given, and the one with its symbolic links resolved, or why it could not be.
pub record GitFolder : Type 0 where
  pub path : List ℕ
  pub real : Result (List ℕ) FileFault

-- the rules of an expansion: how deep it goes, what it refuses, what shorthands and conditions mean, and what a load keeps
pub record Rules : Type 0 where
  -- how many files deep includes are followed
  pub max_depth : ℕ
  -- deeper ones are refused
  pub refuses_depth : Bool
  -- a path whose shorthand stands for nothing is refused, and so is a condition on a git folder if there is none
  pub refuses_shorthand : Bool
  -- a path that needs the folder of a file is refused if the file has no path
  pub refuses_no_path : Bool
  -- the folder where git is installed, that of the user who runs the program, and those of users
  pub install : Option (List ℕ)
  pub home : Option (List ℕ)
  pub homes : Option (List (List ℕ × List ℕ))
  -- what conditions are about: the folder of the repository, and the full name of the branch
  pub git_dir : Option GitFolder
  pub branch : Option (List ℕ)
  -- blanks, comments and line endings are left out
  pub lossy : Bool

-- the resolved folder, or why it could not be resolved
abbrev pub resolved : Result (Bor (List ℕ)) FileFault → Result (List ℕ) FileFault
resolved (Ok folder) = Ok folder.now
resolved (Err fault) = Err fault

-- the folder of a repository as options give it: its path, and the resolved one, or why there is none
abbrev pub git_folder : GitDir → GitFolder
git_folder g = record { path = g.path.now; real = resolved g.real }

-- the rules of the options of includes, which don't say what a load keeps: everything
abbrev pub rules_of_includes : Includes → Rules
rules_of_includes o = record {
  max_depth = o.max_depth;
  refuses_depth = o.err_on_max_depth_exceeded;
  refuses_shorthand = o.err_on_interpolation_failure;
  refuses_no_path = o.err_on_missing_config_path;
  install = option_copied o.interpolate.git_install_dir;
  home = option_copied o.interpolate.home_dir;
  homes = option_copied o.interpolate.home_for_user;
  git_dir = option_map git_folder o.conditional.git_dir;
  branch = option_copied o.conditional.branch_name;
  lossy = false;
}

-- the rules of the options of a file: those of its includes, and whether loads are lossy
abbrev pub rules_of : Init → Rules
rules_of o = record (rules_of_includes o.includes) { lossy = o.lossy }
