use Rattle.std.proofs.Common.{rules}
use Rattle.gixcfg_core.proofs.UrlLemmas.{ended, ended_before}
use Rattle.gixcfg_core.proofs.urls.fits_host.Goals.{then-loop-patterns-test+else-not-is_empty, else-loop-patterns-test}
use Rattle.gixcfg_core.proofs.urls.fits_host.Goals as goal

pub returns-then-is_empty : goal.returns-then-is_empty
returns-then-is_empty c =
    let is = ended c.loop-patterns.patterns.now c.loop-patterns.labels.now (search rules) in
    search (rules, is)

pub returns-else-is_empty : goal.returns-else-is_empty
returns-else-is_empty c =
    elim c.loop-patterns-test.branch [
      | then-loop-patterns-test+else-not-is_empty w ↦
          let is = ended_before c.loop-patterns.patterns.now c.loop-patterns.labels.now (search rules) (search rules) in
          search (rules, is)
      | else-loop-patterns-test w ↦ search rules
    ]
