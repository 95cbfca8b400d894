use Rattle.std.proofs.Common.{◌≡◌, drop}
use Rattle.gitconf_body.specs.Spacings.{separator_spans}
use Rattle.gitconf_body.proofs.spacing.separator_blanks.Given as goal

abbrev pub invariant-loop-item : goal.invariant-loop-item
invariant-loop-item l = separator_spans (drop l.item-index l.items) ≡ separator_spans l.items
