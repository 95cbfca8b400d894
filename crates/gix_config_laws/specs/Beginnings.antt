-- Files with which the main theorem begins.
use Rattle.std.specs.Prelude.{List}
use Rattle.gitconf_text.specs.Document.{Reads}
use Rattle.gitconf_state.specs.Printing.{printed}
use Rattle.gitconf_state.specs.State.{State, document_of}
use Rattle.gix_config_laws.specs.Headline.{AreCleanCalls, Call, Runs}

-- what is written after clean calls on a file reads back, whichever these are
abbrev pub AlwaysReads : State → Type 0
AlwaysReads file = (calls : List Call) (new : State) (runs : Runs calls file new) → AreCleanCalls calls file new runs → Reads (printed new) (document_of new)
