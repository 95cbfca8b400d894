-- The rules that rows go by.
use Rattle.std.specs.Prelude.{◌∷◌, true, false, List, [], Some, None, ℕ, Result, codes}
use Rattle.gitconf_sources.specs.Metadata.{Meta, api_meta}
use Rattle.gitconf_sources.specs.declared.fault.FileFault.{FileFault}
use Rattle.gitconf_sources.specs.declared.fault.Stage.TheVariants.{Open}
use Rattle.gitconf_includes.specs.Rules.{Rules}

-- `follow`: nothing is installed, the home folder is /h, that of u is /u; no git folder and no branch
abbrev pub loose : Rules
loose = record {
  max_depth = 10;
  refuses_depth = true;
  refuses_shorthand = false;
  refuses_no_path = true;
  install = None;
  home = Some (codes "/h");
  homes = Some ((codes "u", codes "/u") ∷ []);
  git_dir = None;
  branch = None;
  lossy = false;
}

-- the same, refusing wherever options may
abbrev pub strict : Rules
strict = record loose { refuses_shorthand = true }

-- the same, leaving out what needs the path of a file that has none
abbrev pub lax : Rules
lax = record loose { refuses_no_path = false }

abbrev pub on_branch : List ℕ → Rules
on_branch branch = record loose { branch = Some branch }

-- why a folder can't be resolved
abbrev pub unknown : FileFault
unknown = record { stage = Open; not_found = true }

-- in a repository, whose folder may be resolved
abbrev pub in_repository : Rules → List ℕ → Result (List ℕ) FileFault → Rules
in_repository rules path real = record rules { git_dir = Some (record { path = path; real = real }) }

-- what comes from a file
abbrev pub of_file : List ℕ → Meta
of_file path = record api_meta { path = Some path }

abbrev pub of_none : Meta
of_none = api_meta
