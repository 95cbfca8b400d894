use Rattle.std.proofs.Common.{◌≡◌, ◌+◌, ◌*◌, ◌≤◌, drop, length}
use Rattle.std.specs.Prelude.{◌||◌, flat_map}
use Rattle.std.specs.List.{list_any}
use Rattle.gitconf_text.specs.Unit.{is_mark}
use Rattle.gitconf_text.specs.Value.{escaped_byte}
use Rattle.gitconf_text.proofs.value.escaping.spelling_of.Given as goal

abbrev pub invariant-loop-b : goal.invariant-loop-b
invariant-loop-b l = record {
  marked : (l.marked || list_any is_mark (drop l.b-index l.bytes)) ≡ list_any is_mark l.bytes;
  exact : l.length + length (flat_map escaped_byte (drop l.b-index l.bytes)) ≡ length (flat_map escaped_byte l.bytes);
  few : l.length ≤ 2 * l.b-index;
}
