use Rattle.std.proofs.Common.{◌≡◌, ◌++◌, drop}
use Rattle.gitconf_text.specs.Bytes.{fold}
use Rattle.gitconf_items.proofs.decode.append_lower.Given as goal

-- what was added, and what is left to add
abbrev pub invariant-loop-byte : goal.invariant-loop-byte
invariant-loop-byte l = l.copies.items ++ fold (drop l.byte-index l.bytes) ≡ l.fn.copies.items ++ fold l.bytes
