use Rattle.std.proofs.Common.{◌≡◌, drop, false}
use Rattle.gixcfg_commands.specs.Beginnings.{end_of_indent}
use Rattle.gixcfg_commands.proofs.beginnings.end_of_indent.Given as goal

-- what is found in the bytes that are left
abbrev pub invariant-loop-byte : goal.invariant-loop-byte
invariant-loop-byte l =
    (l.at ≡ l.byte-index) × (end_of_indent l.at l.is_comment l.is_blank (drop l.byte-index l.text) ≡ end_of_indent 0 false false l.text)
