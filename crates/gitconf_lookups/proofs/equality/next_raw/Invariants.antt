use Rattle.std.proofs.Common.{◌≡◌, ◌+◌, length}
use Rattle.gitconf_lookups.specs.RawBytes.{raw_left}
use Rattle.gitconf_lookups.proofs.equality.next_raw.Given as goal

-- the same bytes are left
abbrev pub invariant-loop-byte : goal.invariant-loop-byte
invariant-loop-byte l = raw_left l.left ≡ raw_left l.bytes

abbrev pub decreases-loop-byte : goal.decreases-loop-byte
decreases-loop-byte l = length l.left.pieces.now + length l.left.last.now
