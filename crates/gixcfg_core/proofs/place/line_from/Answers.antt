use Rattle.std.proofs.Common.{◌∙◌, ap}
use Rattle.gixcfg_core.proofs.LineLemmas.{line_at, line_none}
use Rattle.gixcfg_core.specs.Line.{without_return}
use Rattle.gixcfg_core.proofs.place.line_from.Goals as goal

pub returns-in-Some : goal.returns-in-Some
returns-in-Some c =
    c.without_return.ensures ∙ ap without_return c.split_at.ensures.front
    ∙ line_at c.args.text.now c.in-Some.end c.in-Some.ensures.0.high c.in-Some.ensures.0.before c.in-Some.ensures.1

pub returns-in-None : goal.returns-in-None
returns-in-None c = line_none c.args.text.now c.in-None.ensures
