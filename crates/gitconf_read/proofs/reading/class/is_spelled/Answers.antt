use Rattle.std.proofs.Common.{refl, arith}
use Rattle.gitconf_parse.specs.Places.{is_spelled}
use Rattle.gitconf_read.proofs.Classes.{agree_below, from_table}
use Rattle.gitconf_parse.specs.declared.lookup.class.TheConstants.{CLASS}
use Rattle.gitconf_parse.proofs.lookup.class.is_spelled.Goals as goal

pub returns : goal.returns
unfolding agree_below
returns c = from_table CLASS 16 is_spelled c.args.byte (omega arith) refl
