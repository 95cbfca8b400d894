use Rattle.std.proofs.Common.{◌≡◌, None, drop}
use Rattle.gitconf_body.specs.Spacings.{leading_span}
use Rattle.gitconf_body.proofs.spacing.leading_blanks.Given as goal

abbrev pub invariant-loop-item : goal.invariant-loop-item
invariant-loop-item l = leading_span l.last (drop l.item-index l.items) ≡ leading_span None l.items
