use Rattle.std.proofs.Common.{◌≡◌, Some, length}
use Rattle.gixcfg_core.specs.Urls.{segments, with_segments}
use Rattle.gixcfg_core.proofs.urls.add_segments.Given as goal

abbrev pub invariant-loop-segment : goal.invariant-loop-segment
invariant-loop-segment l = with_segments (Some l.path.items) (segments l.rest) ≡ with_segments (Some l.fn.path.items) (segments l.fn.text)

abbrev pub decreases-loop-segment : goal.decreases-loop-segment
decreases-loop-segment l = length l.rest
