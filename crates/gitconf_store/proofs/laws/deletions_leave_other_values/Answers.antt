use Rattle.gitconf_store.proofs.Edits.Deleting.{others_left}
use Rattle.gitconf_store.proofs.laws.deletions_leave_other_values.Goals as goal

pub returns : goal.returns
returns c = λ gone place state other. others_left gone place state other
