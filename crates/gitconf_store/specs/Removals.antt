-- What is left after a section was removed, and what is returned.
use Rattle.std.specs.Prelude.{◌≡◌, ◌≢◌, Option, Some, None, Result, IfOk, OnErr, OnOk}
use Rattle.std.specs.Option.{option_map}
use Rattle.gitconf_state.specs.Edits.{Detached, without_numbered}
use Rattle.gitconf_state.specs.State.{SectionState, State}
use Rattle.gitconf_views.specs.Alone.{copied_alone}

-- the state without a section, if there is one
abbrev pub without_section : Option SectionState → State → State
without_section None state = state
without_section (Some s) state = without_numbered s.number state

-- This section was removed and returned alone, with its own bytes, if there is one; a refusal comes only if there is.
pub record IsTakenOut {E : Type 0} (section : Option SectionState) (result : Result (Option Detached) E) (old new : State) : Type 0 where
  pub ok : OnOk result (new ≡ without_section section old)
  pub gone : IfOk result (λ gone. gone ≡ option_map copied_alone section)
  pub refused : OnErr result (section ≢ None)
