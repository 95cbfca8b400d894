use Rattle.std.proofs.Common.{◌≡◌, drop, map}
use Rattle.gitconf_text.specs.Token.{value_tokens}
use Rattle.gitconf_items.specs.Events.{bytes_of}
use Rattle.gitconf_items.specs.Items.{piece_of, tokens_of_value}
use Rattle.gitconf_print.specs.LineEnds.{first_newline}
use Rattle.gitconf_print.proofs.line_end.value_line_end.Given as goal

-- no newline among the pieces before
abbrev pub invariant-loop-piece : goal.invariant-loop-piece
invariant-loop-piece l =
    first_newline (value_tokens (map (piece_of l.buffer) (drop l.piece-index l.piece-items)) (bytes_of l.buffer l.value.last))
    ≡ first_newline (tokens_of_value l.buffer l.value)
