use Rattle.std.proofs.Common.{◌≡◌, ◌++◌, drop, flat_map}
use Rattle.gixcfg_core.specs.Quoted.{quoted_byte}
use Rattle.gixcfg_core.proofs.quoted.add_bytes.Given as goal

-- what was added, and the bytes that are left
abbrev pub invariant-loop-byte : goal.invariant-loop-byte
invariant-loop-byte l = l.text.items ++ flat_map quoted_byte (drop l.byte-index l.bytes) ≡ l.fn.text.items ++ flat_map quoted_byte l.fn.bytes
