use Rattle.std.proofs.Common.{rules, ◌≡◌, Some, ap, sym, ◌∙◌}
use Rattle.gitconf_items.specs.Items.{item_of, items_of}
use Rattle.gitconf_state.specs.Edit.{is_entry_of, item_raw}
use Rattle.gitconf_state.proofs.Edits.Places.{old_value_at}
use Rattle.gitconf_body.proofs.Places.{found_at}
use Rattle.gitconf_body.proofs.EntryLemmas.{last_shown}
use Rattle.gitconf_body.proofs.Taken.{removed_at, taken_within}
use Rattle.gitconf_body.proofs.take_out.remove_at.Goals as goal

pub returns-clause-ok : goal.returns-clause-ok
returns-clause-ok c = λ key l. removed_at c.args.buffer.now key c.args.items.now.items c.take_out.new.items.items c.args.at l c.take_out.ensures

pub returns-clause-answer : goal.returns-clause-answer
returns-clause-answer c = λ key l.
    let b = c.args.buffer.now in
    let is = c.args.items.now.items in
    let k = last_shown (is_entry_of key) (item_of b) is c.args.at l in
    let raw : c.in_ok-old.old.items ≡ item_raw (item_of b c.index.result.now) = search rules in
    let found = found_at (λ i. is_entry_of key (item_of b i)) is c.args.at c.index.result.now l c.index.ensures in
    ap (λ t. Some t) (raw ∙ ap (λ i. item_raw (item_of b i)) found) ∙ sym (old_value_at key (items_of b is) k.before k.found k.behind k.is k.passes k.none)

pub returns-clause-within : goal.returns-clause-within
returns-clause-within c = taken_within c.args.items.now.items c.take_out.new.items.items c.args.at c.take_out.ensures
