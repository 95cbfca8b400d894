use Rattle.std.proofs.Common.{◌≡◌, length}
use Rattle.gixcfg_core.specs.Urls.{fits_labels, labels}
use Rattle.gixcfg_core.proofs.urls.fits_host.Given as goal

abbrev pub invariant-loop-patterns : goal.invariant-loop-patterns
invariant-loop-patterns l = fits_labels (labels l.patterns) (labels l.labels) ≡ fits_labels (labels l.fn.pattern) (labels l.fn.host)

abbrev pub decreases-loop-patterns : goal.decreases-loop-patterns
decreases-loop-patterns l = length l.patterns
