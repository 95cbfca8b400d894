use Rattle.std.proofs.Common.{sym, ◌∙◌}
use Rattle.std.specs.Cmp.Lexicographic.{pointwise}
use Rattle.gitconf_lookups.specs.Same.{same_entry}
use Rattle.gitconf_lookups.proofs.equality.same_entries.Goals as goal

pub returns-in-None-None : goal.returns-in-None-None
returns-in-None-None c =
    let left = c.in-None-None.ensures.entry c.args.buffer.now in
    let right = c.in-None-None.ensures'.entry c.args.other_buffer.now in
    sym (λ i. pointwise same_entry (left i) (right i)) ∙ c.loop-entry.invariant

pub returns-in_default : goal.returns-in_default
returns-in_default c =
    let left = c.in_default.ensures.entry c.args.buffer.now in
    let right = c.in_default.ensures'.entry c.args.other_buffer.now in
    sym (λ i. pointwise same_entry (left i) (right i)) ∙ c.loop-entry.invariant

pub returns-in_default-2 : goal.returns-in_default-2
returns-in_default-2 c =
    let left = c.in_default.ensures.entry c.args.buffer.now in
    let right = c.in_default.ensures'.entry c.args.other_buffer.now in
    sym (λ i. pointwise same_entry (left i) (right i)) ∙ c.loop-entry.invariant
