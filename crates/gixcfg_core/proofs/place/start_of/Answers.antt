use Rattle.std.proofs.Common.{arith, sym}
use Rattle.std.proofs.lemmas.List.{take_all}
use Rattle.gixcfg_core.specs.Line.{most_behind}
use Rattle.gixcfg_core.proofs.place.start_of.Goals as goal

pub returns-else-line-gt-MOST_BEHIND : goal.returns-else-line-gt-MOST_BEHIND
returns-else-line-gt-MOST_BEHIND c = sym (take_all most_behind c.args.line.now (omega (arith, c.if-line-gt-MOST_BEHIND.false)))
