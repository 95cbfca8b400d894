-- The folders that the shorthands of paths stand for.
use Rattle.std.specs.Prelude.{ℕ, Bool, List, if◌then◌else◌, Option, Some, None}
use Rattle.std.specs.Option.{option_and_then, option_copied, option_map}
use Rattle.gix_config_c.specs.declared.folders.Folders.{Folders}
use Rattle.gitconf_text.specs.SectionKeys.{as_utf8}
use Rattle.gitconf_values.specs.declared.path.interpolate.Context.{Context}

-- the folder where git is installed, the user's home folder, and those of users, as far as they are known
pub record KnownFolders : Type 0 where
  pub installation : Option (List ℕ)
  pub home : Option (List ℕ)
  pub homes : Option (List (List ℕ × List ℕ))

-- those that a call is given
abbrev pub known_folders : Context → KnownFolders
known_folders c = record { installation = option_copied c.git_install_dir; home = option_copied c.home_dir; homes = option_copied c.home_for_user }

-- a folder as text, if it is known; none for one that isn't text
abbrev pub text_if : (is_known : Bool) → List ℕ → Option (Option (List ℕ))
text_if is_known folder = if is_known then option_map Some (as_utf8 folder) else Some None

-- those that a program gives; none if one that is known isn't text
abbrev pub folders_of : Folders → Option KnownFolders
folders_of folders =
    option_and_then
    (λ installation. option_map (λ home. record { installation = installation; home = home; homes = None }) (text_if folders.has_home folders.home.now))
    (text_if folders.has_installation folders.installation.now)
