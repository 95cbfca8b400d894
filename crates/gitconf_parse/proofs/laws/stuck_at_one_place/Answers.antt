use Rattle.gitconf_read.proofs.OneFault.{one_fault}
use Rattle.gitconf_parse.proofs.laws.stuck_at_one_place.Goals as goal

pub returns : goal.returns
returns c = one_fault
