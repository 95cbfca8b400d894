use Rattle.std.proofs.Common.{refl, arith}
use Rattle.gitconf_text.specs.Bytes.{is_header_byte}
use Rattle.gitconf_read.specs.declared.reading.class.TheConstants.{CLASS}
use Rattle.gitconf_read.proofs.Classes.{agree_below, from_table}
use Rattle.gitconf_read.proofs.reading.class.is_header_byte.Goals as goal

pub returns : goal.returns
unfolding agree_below
returns c = from_table CLASS 8 is_header_byte c.args.byte (omega arith) refl
