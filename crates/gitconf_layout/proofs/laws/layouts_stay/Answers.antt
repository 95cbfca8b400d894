use Rattle.gitconf_layout.proofs.AgainLaws.{laid_out_again}
use Rattle.gitconf_layout.proofs.laws.layouts_stay.Goals as goal

pub returns : goal.returns
returns c = laid_out_again
