use Rattle.std.proofs.Common.{◌≡◌, get_or, ap, sym, subst, ◌∙◌}
use Rattle.gitconf_items.specs.Items.{item_of}
use Rattle.gitconf_items.specs.declared.items.Item.TheVariants as kinds
use Rattle.gitconf_state.specs.Editors.{key_and_meaning}
use Rattle.gitconf_body.specs.Spacings.{is_stored_entry}
use Rattle.gitconf_body.proofs.Places.{found_at}
use Rattle.gitconf_body.proofs.Taken.{popped_at, popped_entry_at, popped_within}
use Rattle.gitconf_body.proofs.take_out.pop_at.Goals as goal

pub returns-clause-ok : goal.returns-clause-ok
returns-clause-ok c =
    let l = c.requires.last in
    popped_at c.args.buffer.now c.args.items.now.items c.truncate.new.self.items c.drop_blanks.new.items.items c.args.at l c.truncate.ensures.items c.drop_blanks.ensures

pub returns-clause-answer : goal.returns-clause-answer
returns-clause-answer c =
    let l = c.requires.last in
    let here = subst (λ i. i ≡ get_or c.args.items.now.items c.args.at i) c.in-Entry.is c.index.ensures in
    let found = found_at is_stored_entry c.args.items.now.items c.args.at (kinds.Entry c.in-Entry.entry) l here in
    c.in_ok-told-in-Entry.ensures ∙ ap (λ i. key_and_meaning (item_of c.args.buffer.now i)) found ∙ sym (popped_entry_at c.args.buffer.now c.args.items.now.items c.args.at l)

pub returns-clause-within : goal.returns-clause-within
returns-clause-within c =
    popped_within c.args.items.now.items c.truncate.new.self.items c.drop_blanks.new.items.items c.args.at c.truncate.ensures.items c.drop_blanks.ensures
