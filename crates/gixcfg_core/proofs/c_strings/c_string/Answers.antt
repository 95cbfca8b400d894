use Rattle.std.proofs.Common.{◌∙◌}
use Rattle.gixcfg_core.proofs.LineLemmas.{all_none, ended_at}
use Rattle.gixcfg_core.specs.CStrings.{is_null}
use Rattle.gixcfg_core.proofs.c_strings.c_string.Goals as goal

pub returns-in-Some : goal.returns-in-Some
returns-in-Some c =
    c.split_at.ensures.front
    ∙ ended_at is_null c.args.text.now c.in-Some.end c.in-Some.ensures.0.high c.in-Some.ensures.0.before c.in-Some.ensures.1

pub returns-in-None : goal.returns-in-None
returns-in-None c = all_none is_null c.args.text.now c.in-None.ensures
