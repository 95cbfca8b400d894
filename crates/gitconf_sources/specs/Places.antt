-- Where the configuration of each source is, by the variables of the environment and the places that a program knows.
-- Source: git-config's manual page, under "FILES" and "ENVIRONMENT". That a variable that isn't UTF-8 and an empty XDG_CONFIG_HOME count
-- as unset are this project's own rules.
use Rattle.std.specs.Prelude.{◌≡◌, ℕ, Bool, false, List, [], ◌∷◌, Option, Some, None, codes, if◌then◌else◌, string_bytes}
use Rattle.std.specs.Option.{option_map, option_or, unwrap_or}
use Rattle.gitconf_text.specs.Typed.{boolean_of}
use Rattle.gitconf_values.specs.Paths.{join}
use Rattle.gitconf_sources.specs.declared.source.Source.{Source}
use Rattle.gitconf_sources.specs.declared.source.Source.TheVariants.{GitInstallation, System, Git, User, Local, Worktree, Env, Cli, Api, EnvOverride}
use Rattle.gitconf_sources.specs.Reports.{VariableReport, NotSet, HasText, NoText}
pub use Rattle.gitconf_sources.specs.Reports.{May}
use Rattle.gitconf_sources.specs.declared.host.Places.{Places}

-- the text that a variable is set to; bytes that aren't UTF-8 count as unset
abbrev pub reported_text : VariableReport → Option (List ℕ)
reported_text NotSet = None
reported_text (HasText text) = Some text
reported_text NoText = None

-- whether a text is a true boolean; one that is not a boolean counts as false
abbrev pub is_true : (text : List ℕ) → Bool
is_true text = unwrap_or (boolean_of text) false

-- whether there is a text, and it is a true boolean
abbrev pub is_on : (text : Option (List ℕ)) → Bool
is_on text = unwrap_or (option_map is_true text) false

-- an empty text counts as unset
abbrev pub unless_empty : Option (List ℕ) → Option (List ℕ)
unless_empty None = None
unless_empty (Some []) = None
unless_empty (Some (b ∷ text)) = Some (b ∷ text)

-- the path of a file in a folder, if there is a folder
abbrev pub in_folder : (file : List ℕ) → (folder : Option (List ℕ)) → Option (List ℕ)
in_folder file folder = option_map (λ f. join f file) folder

-- the path of what was installed with Git, unless that is switched off
abbrev pub installation_place : Places → (off : Option (List ℕ)) → Option (List ℕ)
installation_place places off = if is_on off then None else option_map string_bytes places.installation_config

-- the path of the machine's configuration, by its variable, otherwise below the prefix
abbrev pub machine_place : Places → (system : Option (List ℕ)) → Option (List ℕ)
machine_place places system = option_or system (Some (join (string_bytes places.system_prefix) (codes "etc/gitconfig")))

-- the same, unless it is switched off
abbrev pub system_place : Places → (off system : Option (List ℕ)) → Option (List ℕ)
system_place places off system = if is_on off then None else machine_place places system

-- the path in the folder for configuration, otherwise in the home folder
abbrev pub folder_place : (folder home : Option (List ℕ)) → Option (List ℕ)
folder_place folder home = option_or (in_folder (codes "git/config") (unless_empty folder)) (in_folder (codes ".config/git/config") home)

-- the same, unless the variable for both files of the user names another path
abbrev pub git_place : (global folder home : Option (List ℕ)) → Option (List ℕ)
git_place global folder home = option_or global (folder_place folder home)

-- the path of the user's file in the home folder, unless the variable for both names another one
abbrev pub user_place : (global home : Option (List ℕ)) → Option (List ℕ)
user_place global home = option_or global (in_folder (codes ".gitconfig") home)

-- the text that a variable is set to, by its name
abbrev pub text_of : (var : List ℕ → VariableReport) → (name : List ℕ) → Option (List ℕ)
text_of var name = reported_text (var name)

-- the path of the configuration of a source, if it has one
abbrev pub place_of : (var : List ℕ → VariableReport) → Places → Source → Option (List ℕ)
place_of var places GitInstallation = installation_place places (text_of var (codes "GIT_CONFIG_NOSYSTEM"))
place_of var places System = system_place places (text_of var (codes "GIT_CONFIG_NOSYSTEM")) (text_of var (codes "GIT_CONFIG_SYSTEM"))
place_of var places Git = git_place (text_of var (codes "GIT_CONFIG_GLOBAL")) (text_of var (codes "XDG_CONFIG_HOME")) (text_of var (codes "HOME"))
place_of var places User = user_place (text_of var (codes "GIT_CONFIG_GLOBAL")) (text_of var (codes "HOME"))
place_of var places Local = Some (codes "config")
place_of var places Worktree = Some (codes "config.worktree")
place_of var places Env = None
place_of var places Cli = None
place_of var places Api = None
place_of var places EnvOverride = None

-- A place that variables decide: by what the environment says they are set to, if it does. If it doesn't, each variable counts as set to
-- what was returned for it; each is asked at most once.
abbrev pub IsPlaced : (variables : Option (List ℕ → VariableReport)) → ((var : List ℕ → VariableReport) → Option (List ℕ)) → (place : Option (List ℕ)) → Type 0
IsPlaced variables placed place = (var : List ℕ → VariableReport) × May variables (λ told. var ≡ told) × (place ≡ placed var)

-- if the environment says what the variable is set to, this is its text
abbrev pub IsText : (variables : Option (List ℕ → VariableReport)) → (name : List ℕ) → (text : Option (List ℕ)) → Type 0
IsText variables name text = May variables (λ told. text ≡ text_of told name)
