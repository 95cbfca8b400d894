use Rattle.std.proofs.Common.{sym, ap, ◌∙◌}
use Rattle.std.specs.Result.{result_ok}
use Rattle.gixcfg_words.proofs.Counts.{counted}
use Rattle.gixcfg_words.proofs.spelled.count_of.Goals as goal

pub returns-in-Ok : goal.returns-in-Ok
returns-in-Ok c = ap result_ok (sym c.in-Ok.is) ∙ counted c.args.digits.now c.parse.result c.parse.ensures.value.0

pub returns-in-Err : goal.returns-in-Err
returns-in-Err c = ap result_ok (sym c.in-Err.is) ∙ counted c.args.digits.now c.parse.result c.parse.ensures.value.0
