use Rattle.std.proofs.Common.{◌≡◌, Some, length}
use Rattle.gixcfg_core.specs.Urls.{joined, normal}
use Rattle.gixcfg_core.proofs.urls.add_text.Given as goal

abbrev pub invariant-loop-rest : goal.invariant-loop-rest
invariant-loop-rest l = joined (Some l.normal.items) (normal l.rest) ≡ joined (Some l.fn.normal.items) (normal l.fn.text)

abbrev pub decreases-loop-rest : goal.decreases-loop-rest
decreases-loop-rest l = length l.rest
