use Rattle.std.proofs.Common.{◌≡◌, length}
use Rattle.gitconf_text.specs.Names.{name_order}
use Rattle.gitconf_text.proofs.parse.section.bytes.name_order.Given as goal

abbrev pub invariant-loop-x : goal.invariant-loop-x
invariant-loop-x l = name_order l.left l.right ≡ name_order l.a l.b

abbrev pub decreases-loop-x : goal.decreases-loop-x
decreases-loop-x l = length l.left
