use Rattle.std.proofs.Common.{◌≡◌, length}
use Rattle.gitconf_text.specs.Value.{plain}
use Rattle.gitconf_lookups.specs.RawBytes.{raw_left}
use Rattle.gitconf_lookups.proofs.equality.next_meaning.Given as goal

-- what is left means the same
abbrev pub invariant-loop-byte : goal.invariant-loop-byte
invariant-loop-byte l = plain (raw_left l.left) ≡ plain (raw_left l.bytes)

abbrev pub decreases-loop-byte : goal.decreases-loop-byte
decreases-loop-byte l = length (raw_left l.left)
