-- Sections that are renamed, whatever a filter answers.
use Rattle.std.specs.Prelude.{◌≡◌, ◌+◌, ℕ, List, Option, Result, OnErr, OnOk}
use Rattle.gitconf_state.specs.Edit.{header_bytes}
use Rattle.gitconf_state.specs.State.{State}
use Rattle.gitconf_store.specs.declared.rename_section.Error.{Error}
use Rattle.gitconf_store.specs.Renamings.{AreSomeRenamed, IsToldOfSome}

-- For any filter: one or more of the sections of the names got the others, whose bytes are in the buffer once; or it is refused as if some of
-- them passed, or none, and the file is as it was.
pub record IsRenamedOfSome (name : List ℕ) (subsection : Option (List ℕ)) (new_name : List ℕ) (new_subsection : Option (List ℕ)) (result : Result (Unit {0}) Error) (old new : State) : Type 0 where
  pub renamed : OnOk result (AreSomeRenamed name subsection new_name new_subsection old new)
  pub put : OnOk result (new.used ≡ old.used + header_bytes new_name new_subsection)
  pub err : OnErr result (new ≡ old)
  pub told : IsToldOfSome name subsection new_name new_subsection result old
