use Rattle.std.proofs.Common.{◌≡◌, ◌≤◌, length, take}
use Rattle.gitconf_layout.specs.Layout.{trimmed}
use Rattle.gitconf_layout.proofs.trimming.trimmed_len.Given as goal

-- after what is kept are CRs and LFs alone
abbrev pub invariant-loop-kept : goal.invariant-loop-kept
invariant-loop-kept l = (l.kept ≤ length l.text) × (trimmed (take l.kept l.text) ≡ trimmed l.text)

abbrev pub decreases-loop-kept : goal.decreases-loop-kept
decreases-loop-kept l = l.kept
