use Rattle.std.proofs.Common.{◌≡◌, ◌+◌, ◌++◌, drop, length}
use Rattle.std.specs.Prelude.{flat_map, vec_len, vec_capacity}
use Rattle.gitconf_text.specs.Value.{escaped_byte}
use Rattle.gitconf_text.proofs.value.escaping.put_bytes.Given as goal

abbrev pub invariant-loop-b : goal.invariant-loop-b
invariant-loop-b l = record {
  items : l.out.items ++ flat_map escaped_byte (drop l.b-index l.bytes) ≡ l.initial.out.items ++ flat_map escaped_byte l.bytes;
  room : vec_len l.out + length (flat_map escaped_byte (drop l.b-index l.bytes)) ≡ vec_len l.initial.out + length (flat_map escaped_byte l.bytes);
  capacity : vec_capacity l.out ≡ vec_capacity l.initial.out;
}
