use Rattle.std.proofs.Common.{◌≡◌, length}
use Rattle.std.specs.Str.{bytes_eq}
use Rattle.gitconf_text.specs.Value.{plain}
use Rattle.gitconf_lookups.specs.RawBytes.{raw_left}
use Rattle.gitconf_lookups.proofs.equality.same_meaning.Given as goal

-- what is left decides
abbrev pub invariant-loop-x : goal.invariant-loop-x
invariant-loop-x l = bytes_eq (plain (raw_left l.left)) (plain (raw_left l.right)) ≡ bytes_eq (plain (raw_left l.one)) (plain (raw_left l.other))

abbrev pub decreases-loop-x : goal.decreases-loop-x
decreases-loop-x l = length (plain (raw_left l.left))
