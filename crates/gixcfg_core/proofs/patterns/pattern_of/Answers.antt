use Rattle.std.proofs.Common.{ap, sym}
use Rattle.std.specs.Prelude.{not}
use lib.Utf8.{encode}
use Rattle.gixcfg_core.proofs.Negated.{all_sought, unmarked}
use Rattle.gixcfg_core.proofs.patterns.pattern_of.Goals as goal

pub returns-in-None-clause-pattern : goal.returns-in-None-clause-pattern
unfolding encode
returns-in-None-clause-pattern c = all_sought c.args.pattern.now (unmarked c.args.pattern.now c.in-None.ensures.cases)

pub returns-in-None-clause-wanted : goal.returns-in-None-clause-wanted
unfolding encode
returns-in-None-clause-wanted c = ap not (sym (unmarked c.args.pattern.now c.in-None.ensures.cases))
