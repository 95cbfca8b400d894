use Rattle.std.proofs.Common.{◌≡◌, length}
use Rattle.gitconf_text.specs.Stripped as spec
use Rattle.gitconf_text.proofs.value.decoding.stripped.Given as goal

abbrev pub invariant-loop-left : goal.invariant-loop-left
invariant-loop-left l = spec.stripped l.left ≡ spec.stripped l.text

abbrev pub decreases-loop-left : goal.decreases-loop-left
decreases-loop-left l = length l.left
