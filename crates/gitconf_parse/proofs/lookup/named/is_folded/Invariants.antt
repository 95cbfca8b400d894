use Rattle.std.proofs.Common.{◌≡◌, drop}
use Rattle.std.specs.Str.{bytes_eq}
use Rattle.gitconf_text.specs.Bytes.{fold}
use Rattle.gitconf_parse.proofs.lookup.named.is_folded.Given as goal

-- what is left is the rest of the name just where all is the name
abbrev pub invariant-loop-byte : goal.invariant-loop-byte
invariant-loop-byte l = bytes_eq (fold (drop l.byte-index l.spelled)) l.left ≡ bytes_eq (fold l.spelled) l.name
