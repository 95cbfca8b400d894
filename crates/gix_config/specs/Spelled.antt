-- What an editor of a value writes besides the value.
use Rattle.std.specs.Prelude.{ℕ, List}
use Rattle.gitconf_state.specs.Edit.{Spacing}

-- the name as it was given, and the blanks
pub record Spelled : Type 0 where
  pub key : List ℕ
  pub spacing : Spacing
