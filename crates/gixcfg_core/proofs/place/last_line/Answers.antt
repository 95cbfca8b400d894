use Rattle.std.proofs.Common.{◌∙◌}
use Rattle.gixcfg_core.proofs.LineLemmas.{last_at, last_none}
use Rattle.gixcfg_core.proofs.place.last_line.Goals as goal

pub returns-in-Some : goal.returns-in-Some
returns-in-Some c =
    c.split_at.ensures.back
    ∙ last_at c.args.text.now c.in-Some.end c.in-Some.ensures.0.high c.in-Some.ensures.0.after c.in-Some.ensures.1

pub returns-in-None : goal.returns-in-None
returns-in-None c = last_none c.args.text.now c.in-None.ensures
