-- What a visit of a section reports.
use Rattle.std.specs.Prelude.{◌≡◌, ℕ, List, [], ◌∷◌, Option, Some, None, map}
use Rattle.std.specs.Option.{option_map}
use Rattle.bstr.specs.Owned.{bstring_bytes}
use Rattle.gitconf_state.specs.Including.{visited}
use Rattle.gitconf_state.specs.State.{SectionState, State}
use Rattle.gitconf_includes.specs.declared.config_file.Directive.{Directive}
use Rattle.gitconf_includes.specs.declared.config_file.Visited.{Visited}
use Rattle.gitconf_includes.specs.declared.config_file.Visited.TheVariants.{Plain, Includes}
use Rattle.gitconf_includes.specs.Inclusion as inclusions
use Rattle.gitconf_includes.specs.Inclusion.{inclusion}

-- the condition of a directive, if it has one
abbrev pub condition_of : Directive → Option (List ℕ)
condition_of d = option_map bstring_bytes d.condition

-- the paths of a directive
abbrev pub paths_of : Directive → List (List ℕ)
paths_of d = map bstring_bytes d.paths.items

-- what was reported is what the section includes
abbrev pub TellsInclusion : Visited → SectionState → Type 0
TellsInclusion Plain s = inclusion s ≡ inclusions.NoInclude
TellsInclusion (Includes d) s = (inclusion s ≡ inclusions.Includes (condition_of d) (paths_of d)) × (d.meta.value ≡ s.meta)

-- the first section that was left is now done, and what it includes is reported
pub record IsStep (told : Visited) (done : State) (rest : List SectionState) (now : State) (left : List SectionState) : Type 0 where
  pub section : SectionState
  pub first : rest ≡ section ∷ left
  pub done_is : now ≡ visited done section
  pub tells : TellsInclusion told section

-- a visit: a step with the first section that was left, or none was left and nothing changed
abbrev pub IsVisited : Option Visited → (done : State) → (rest : List SectionState) → (now : State) → (left : List SectionState) → Type 0
IsVisited (Some told) done rest now left = IsStep told done rest now left
IsVisited None done rest now left = (rest ≡ []) × (now ≡ done) × (left ≡ [])
