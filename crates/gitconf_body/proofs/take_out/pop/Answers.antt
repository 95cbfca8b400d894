use Rattle.std.proofs.Common.{rules, ◌≡◌, false, ap, sym, ◌∙◌}
use Rattle.std.specs.List.{list_any}
use Rattle.gitconf_items.specs.Items.{items_of}
use Rattle.gitconf_body.specs.Places.{IsLastAt}
use Rattle.gitconf_body.specs.Spacings.{is_stored_entry}
use Rattle.gitconf_body.proofs.Taken.{popped_none, popped_entry_none, some_popped}
use Rattle.gitconf_body.proofs.take_out.pop.Goals as goal

pub returns-in_default-clause-ok : goal.returns-in_default-clause-ok
returns-in_default-clause-ok c =
    let none : list_any is_stored_entry c.args.items.now.items ≡ false = search rules in
    ap (items_of c.args.buffer.now) c.clear.ensures.items ∙ sym (popped_none c.args.buffer.now c.args.items.now.items none)

pub returns-in_default-clause-answer : goal.returns-in_default-clause-answer
returns-in_default-clause-answer c =
    let none : list_any is_stored_entry c.args.items.now.items ≡ false = search rules in
    sym (popped_entry_none c.args.buffer.now c.args.items.now.items none)

pub returns-in_err-pop_at-clause-none : goal.returns-in_err-pop_at-clause-none
returns-in_err-pop_at-clause-none c =
    let l : IsLastAt is_stored_entry c.args.items.now.items c.in-Some.at = search rules in
    λ none. absurd (some_popped c.args.buffer.now c.args.items.now.items c.in-Some.at l none)
