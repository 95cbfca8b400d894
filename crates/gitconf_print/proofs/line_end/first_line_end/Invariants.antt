use Rattle.std.proofs.Common.{◌≡◌, drop}
use Rattle.gitconf_items.specs.Items.{items_of, tokens_in}
use Rattle.gitconf_print.specs.LineEnds.{first_newline}
use Rattle.gitconf_print.proofs.line_end.first_line_end.Given as goal

-- no newline among the items before
abbrev pub invariant-loop-item : goal.invariant-loop-item
invariant-loop-item l =
    first_newline (tokens_in (items_of l.buffer (drop l.item-index l.items))) ≡ first_newline (tokens_in (items_of l.buffer l.items))
