use Rattle.gitconf_state.proofs.Edits.Leaves.{leaves}
use Rattle.gitconf_parse.proofs.state_laws.edits_leave_other_keys.Goals as goal

pub returns : goal.returns
returns c = λ edit name subsection key state is differ. leaves name subsection key edit state is differ
