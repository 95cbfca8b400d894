-- How includes are followed, as a program in C says it.
use Rattle.std.specs.Prelude.{ℕ, Bool, true, List, if◌then◌else◌, Option, Some, None, Ok}
use Rattle.std.specs.Option.{option_and_then, option_map}
use Rattle.gitconf_text.specs.SectionKeys.{as_utf8}
use Rattle.gitconf_includes.specs.Rules.{GitFolder, Rules}
use Rattle.gix_config_c.specs.Folders.{KnownFolders, folders_of, text_if}
use Rattle.gix_config_c.specs.declared.includes.Includes.{Includes}

-- the folder of the repository, if there is one; none if it isn't text
abbrev pub git_folder_of : Includes → Option (Option GitFolder)
git_folder_of i =
    if i.has_git_folder
    then option_and_then (λ path. option_map (λ real. Some (record { path = path; real = Ok real })) (as_utf8 i.real_git_folder.now)) (as_utf8 i.git_folder.now)
    else Some None

-- the rules of these folders, of this repository and of this branch
abbrev pub rules_with : (strict lossy : Bool) → KnownFolders → Option GitFolder → (branch : Option (List ℕ)) → Rules
rules_with strict lossy known git branch = record {
  max_depth = 10;
  refuses_depth = true;
  refuses_shorthand = strict;
  refuses_no_path = true;
  install = known.installation;
  home = known.home;
  homes = known.homes;
  git_dir = git;
  branch = branch;
  lossy = lossy;
}

-- the rules that a program gives; none if a text that is known isn't text
abbrev pub rules_of : Includes → Option Rules
rules_of i =
    option_and_then
    (λ known. option_and_then (λ git. option_map (λ branch. rules_with i.strict i.lossy known git branch) (text_if i.has_branch i.branch.now)) (git_folder_of i))
    (folders_of i.folders)
