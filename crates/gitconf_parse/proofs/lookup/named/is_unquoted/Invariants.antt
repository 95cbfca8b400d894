use Rattle.std.proofs.Common.{◌≡◌, drop}
use Rattle.std.specs.List.{flat_map}
use Rattle.std.specs.Str.{bytes_eq}
use Rattle.gitconf_text.specs.Header.{subsection_byte, unquoted}
use Rattle.gitconf_text.specs.Unit.{units_behind}
use Rattle.gitconf_parse.proofs.lookup.named.is_unquoted.Given as goal

-- what is left spells the rest of the name just where all spells the name
abbrev pub invariant-loop-byte : goal.invariant-loop-byte
invariant-loop-byte l = bytes_eq (flat_map subsection_byte (units_behind l.escaped (drop l.byte-index l.spelling))) l.left ≡ bytes_eq (unquoted l.spelling) l.fn.name
