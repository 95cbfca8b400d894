use Rattle.std.proofs.Common.{◌≡◌, ℕ, List, length}
use Rattle.gitconf_state.specs.Printing as spec
use Rattle.gitconf_items.specs.Items.{items_of}
use Rattle.gitconf_print.proofs.sections.begins_on_a_line.Given as goal

-- blanks and comments come before
abbrev pub invariant-loop-item : goal.invariant-loop-item
invariant-loop-item l =
    (buffer : List ℕ) → spec.begins_on_a_line (items_of buffer l.rest) ≡ spec.begins_on_a_line (items_of buffer l.items)

abbrev pub decreases-loop-item : goal.decreases-loop-item
decreases-loop-item l = length l.rest
