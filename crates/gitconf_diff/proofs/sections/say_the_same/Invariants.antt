use Rattle.std.proofs.Common.{◌≡◌, length}
use Rattle.std.specs.Cmp.Lexicographic.{pointwise}
use Rattle.gitconf_items.specs.Items.{items_of}
use Rattle.gitconf_state.specs.State.{entries_of}
use Rattle.gitconf_diff.specs.PlainSections.{plain_section, same_entry}
use Rattle.gitconf_diff.proofs.sections.say_the_same.Given as goal

-- the entries that are left say the same exactly if all do
abbrev pub invariant-loop-entry : goal.invariant-loop-entry
invariant-loop-entry l =
    pointwise same_entry (entries_of (items_of l.one.buffer.now l.rest)) (entries_of (items_of l.other.buffer.now l.others))
    ≡ pointwise same_entry (plain_section l.one).entries (plain_section l.other).entries

abbrev pub decreases-loop-entry : goal.decreases-loop-entry
decreases-loop-entry l = length l.rest
