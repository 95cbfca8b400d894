use Rattle.std.proofs.Common.{refl, arith}
use Rattle.gitconf_read.specs.Reading.{is_plain}
use Rattle.gitconf_read.specs.declared.reading.class.TheConstants.{CLASS}
use Rattle.gitconf_read.proofs.Classes.{agree_below, from_table}
use Rattle.gitconf_read.proofs.reading.class.is_plain.Goals as goal

pub returns : goal.returns
unfolding agree_below
returns c = from_table CLASS 2 is_plain c.args.byte (omega arith) refl
