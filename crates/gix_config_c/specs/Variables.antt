-- What a program told of variables of the environment.
use Rattle.std.specs.Prelude.{ℕ, List, [], ◌∷◌, if◌then◌else◌, Option, Some, None, codes, string_bytes}
use Rattle.gitconf_text.specs.SectionKeys.{as_utf8}
use Rattle.gitconf_sources.specs.Reports.{HasText, NoText, NotSet, VariableReport}
use Rattle.gix_config_c.specs.Told.{is_told}
use Rattle.gix_config_c.specs.declared.variables.Variable.{Variable}
use Rattle.gix_config_c.specs.declared.variables.Variable.TheVariants as variables

-- what is known of a variable by what was told of it
abbrev pub reported : Variable → VariableReport
reported variables.Unset = NotSet
reported (variables.Text text) = HasText (string_bytes text)
reported variables.IllFormed = NoText

-- what is known of a variable that is set to these bytes
abbrev pub set_to : (bytes : List ℕ) → VariableReport
set_to bytes = elim (as_utf8 bytes) [ Some text ↦ HasText text | None ↦ NoText ]

-- the first of these variables of which nothing was told
unfoldable pub first_untold : List (List ℕ × VariableReport) → (names : List (List ℕ)) → Option (List ℕ)
first_untold told [] = None
first_untold told (name ∷ names) = if is_told told name then first_untold told names else Some name

-- the variables that say where the configuration of the machine and of the user is
abbrev pub place_variables : List (List ℕ)
place_variables =
    codes "GIT_CONFIG_NOSYSTEM" ∷ codes "GIT_CONFIG_SYSTEM" ∷ codes "GIT_CONFIG_GLOBAL" ∷ codes "XDG_CONFIG_HOME" ∷ codes "HOME" ∷ []

-- the variable that says how many entries the variables set
abbrev pub count_variable : List ℕ
count_variable = codes "GIT_CONFIG_COUNT"
