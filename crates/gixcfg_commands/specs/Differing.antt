-- What `diff` prints.
-- Source: this project's manual page, `diff`.
use Rattle.std.specs.Prelude.{◌≡◌, ℕ, List, [], ◌∷◌, Bool, flat_map}
use Rattle.gitconf_diff.specs.Differences.{Different, AreDifferences}
use Rattle.gitconf_diff.specs.declared.setting.Side.{Side}
use Rattle.gitconf_diff.specs.declared.setting.Side.TheVariants.{One, Other}
use Rattle.gitconf_state.specs.State.{State}
use Rattle.gixcfg_core.specs.Entries.{key_text, line_of}
use Rattle.gixcfg_core.specs.Origins.{differences_line}

-- what a line begins with: `-` for what the first file has, `+` for the other
abbrev pub sign_of : Side → List ℕ
sign_of One = 45 ∷ []
sign_of Other = 43 ∷ []

-- the line of a difference
abbrev pub difference_line : (is_null : Bool) → Different → List ℕ
difference_line is_null d = line_of (differences_line is_null) (sign_of d.side) (key_text d.names.section d.names.subsection d.names.name) d.value

-- the lines are those of the differences of two files
abbrev pub AreDifferenceLines : (is_null : Bool) (one other : State) (lines : List ℕ) → Type 0
AreDifferenceLines is_null one other lines = (differences : List Different) × AreDifferences one.sections other.sections differences × (lines ≡ flat_map (difference_line is_null) differences)
