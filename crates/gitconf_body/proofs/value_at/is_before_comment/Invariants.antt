use Rattle.std.proofs.Common.{◌≡◌, drop}
use Rattle.gitconf_body.specs.ValuesAt.{is_before_comment}
use Rattle.gitconf_body.proofs.value_at.is_before_comment.Given as goal

abbrev pub invariant-loop-item : goal.invariant-loop-item
invariant-loop-item l = is_before_comment (drop l.item-index l.items) ≡ is_before_comment l.items
