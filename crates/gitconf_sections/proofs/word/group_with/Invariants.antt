use Rattle.std.proofs.Common.{◌≡◌, drop}
use Rattle.gitconf_sections.specs.Word.{group_with}
use Rattle.gitconf_sections.proofs.word.group_with.Given as goal

abbrev pub invariant-loop-byte : goal.invariant-loop-byte
invariant-loop-byte l = group_with l.group (drop l.byte-index l.bytes) ≡ group_with l.fn.first l.fn.bytes
