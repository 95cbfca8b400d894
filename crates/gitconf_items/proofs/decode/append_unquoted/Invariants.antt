use Rattle.std.proofs.Common.{◌≡◌, ◌++◌, drop}
use Rattle.std.specs.List.{flat_map}
use Rattle.gitconf_text.specs.Unit.{units_behind}
use Rattle.gitconf_text.specs.Header.{subsection_byte, unquoted}
use Rattle.gitconf_items.proofs.decode.append_unquoted.Given as goal

-- what was added, and what the units that are left stand for
abbrev pub invariant-loop-byte : goal.invariant-loop-byte
invariant-loop-byte l = l.copies.items ++ flat_map subsection_byte (units_behind l.escaped (drop l.byte-index l.spelling)) ≡ l.fn.copies.items ++ unquoted l.spelling
