use Rattle.gitconf_layout.proofs.AgainLaws.{laid_out_holds}
use Rattle.gitconf_layout.proofs.laws.layouts_hold_their_line_end.Goals as goal

pub returns : goal.returns
returns c = laid_out_holds
