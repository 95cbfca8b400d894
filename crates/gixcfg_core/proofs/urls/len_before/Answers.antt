use Rattle.gixcfg_core.specs.Urls.{is_end}
use Rattle.gixcfg_core.proofs.UrlLemmas.{none_at_all}
use Rattle.gixcfg_core.proofs.urls.len_before.Goals as goal

pub returns-in-None-clause-before : goal.returns-in-None-clause-before
returns-in-None-clause-before c = none_at_all (is_end c.args.ends.now) c.args.text.now c.in-None.ensures.place
