use Rattle.std.proofs.Common.{sym, ◌∙◌}
use Rattle.std.specs.Cmp.Lexicographic.{pointwise}
use Rattle.gitconf_items.specs.Items.{items_of}
use Rattle.gitconf_state.specs.State.{entries_of}
use Rattle.gitconf_diff.specs.PlainSections.{same_entry}
use Rattle.gitconf_diff.proofs.sections.say_the_same.Goals as goal

pub returns-in-None : goal.returns-in-None
returns-in-None c =
    (λ i. pointwise same_entry (sym (c.in-Some.ensures.entry c.args.one.now.buffer.now) i) (sym (c.in-None.ensures.entry c.args.other.now.buffer.now) i)) ∙ c.loop-entry.invariant

pub returns : goal.returns
returns c =
    let buffer = c.args.other.now.buffer.now in
    c.has_no_entry.ensures buffer
    ∙ (λ i. pointwise same_entry (sym (c.in_default.ensures.entry c.args.one.now.buffer.now) i) (entries_of (items_of buffer c.loop-entry.others.now)))
    ∙ c.loop-entry.invariant
