-- What comes before an item, as the code has it.
use Rattle.gitconf_state.specs.Writing as spec
use Rattle.gitconf_print.specs.declared.open.Open.{Open}
use Rattle.gitconf_print.specs.declared.open.Open.TheVariants as kinds

-- what the code has noted of what comes before
abbrev pub open_of : Open → spec.Open
open_of kinds.Closed = spec.Closed
open_of kinds.Key = spec.OpenKey
open_of kinds.KeyAndBlanks = spec.OpenKeyAndBlanks
open_of kinds.Value = spec.OpenValue
open_of kinds.Comment = spec.OpenComment
