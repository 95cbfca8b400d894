-- What the functions that make options return.
use Rattle.std.specs.Prelude.{true, false, None}
use Rattle.gitconf_values.specs.declared.path.interpolate.Context.{Context as Folders}
use Rattle.gitconf_includes.specs.declared.includes.conditional.Context.{Context}
use Rattle.gitconf_includes.specs.declared.includes.Options.{Options}

-- no folder for any shorthand of a path
abbrev pub no_folders : Folders
no_folders = record { git_install_dir = None; home_dir = None; home_for_user = None }

-- no git folder, and no branch
abbrev pub no_conditions : Context
no_conditions = record { git_dir = None; branch_name = None }

-- no include is followed, and nothing is refused
abbrev pub no_follow : Options
no_follow = record {
  max_depth = 0;
  err_on_max_depth_exceeded = false;
  err_on_interpolation_failure = false;
  err_on_missing_config_path = false;
  interpolate = no_folders;
  conditional = no_conditions;
}

-- includes are followed ten files deep; deeper ones are refused, and so are paths that need the folder of a file without a path
abbrev pub follow : Folders → Context → Options
follow interpolate conditional = record {
  max_depth = 10;
  err_on_max_depth_exceeded = true;
  err_on_interpolation_failure = false;
  err_on_missing_config_path = true;
  interpolate = interpolate;
  conditional = conditional;
}

-- the same, refusing wherever the options can ask for it
abbrev pub strict : Options → Options
strict options = record options { err_on_max_depth_exceeded = true; err_on_interpolation_failure = true; err_on_missing_config_path = true }
