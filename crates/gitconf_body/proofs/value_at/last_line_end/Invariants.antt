use Rattle.std.proofs.Common.{◌≡◌, drop}
use Rattle.gitconf_body.specs.ValuesAt.{last_end, last_end_or}
use Rattle.gitconf_body.proofs.value_at.last_line_end.Given as goal

abbrev pub invariant-loop-piece : goal.invariant-loop-piece
invariant-loop-piece l = last_end_or l.last (drop l.piece-index l.value.pieces.items) ≡ last_end l.value.pieces.items
