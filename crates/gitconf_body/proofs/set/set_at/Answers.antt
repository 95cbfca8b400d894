use Rattle.std.proofs.Common.{rules, arith, ◌≡◌, false, ap, sym, Some, ◌∙◌}
use Rattle.std.specs.List.{list_any}
use Rattle.gitconf_items.specs.Items.{item_of, items_of}
use Rattle.gitconf_state.specs.Edit.{is_entry_of, item_raw}
use Rattle.gitconf_state.proofs.Edits.Places.{old_value_at, old_value_none}
use Rattle.gitconf_body.specs.Editors.{editor_in}
use Rattle.gitconf_body.specs.Places.{IsLastAt}
use Rattle.gitconf_body.proofs.Buffers.{grows_ok, grows_err}
use Rattle.gitconf_body.proofs.Places.{any_shown, found_at}
use Rattle.gitconf_body.proofs.EntryLemmas.{last_shown}
use Rattle.gitconf_body.proofs.Changing.{value_set_new, set_put_new}
use Rattle.gitconf_body.proofs.set.set_at.Goals as goal

pub returns-in_err-push-clause-grows : goal.returns-in_err-push-clause-grows
returns-in_err-push-clause-grows c =
    let none : list_any (λ i. is_entry_of c.args.key.now (item_of c.args.buffer.now.items i)) c.args.items.now.items ≡ false = search rules in
    let n = any_shown (is_entry_of c.args.key.now) (item_of c.args.buffer.now.items) c.args.items.now.items ∙ none in
    rw (set_put_new c.args.editor.now c.args.key.now c.args.value.now (items_of c.args.buffer.now.items c.args.items.now.items) n) (search (rules, grows_err))

pub returns-in_default-clause-ok : goal.returns-in_default-clause-ok
returns-in_default-clause-ok c =
    let none : list_any (λ i. is_entry_of c.args.key.now (item_of c.args.buffer.now.items i)) c.args.items.now.items ≡ false = search rules in
    let n = any_shown (is_entry_of c.args.key.now) (item_of c.args.buffer.now.items) c.args.items.now.items ∙ none in
    c.in_ok-push.ensures.ok
    ∙ sym (value_set_new (editor_in c.args.buffer.now.items c.args.editor.now) c.args.key.now c.args.value.now (items_of c.args.buffer.now.items c.args.items.now.items) n)

pub returns-in_default-clause-answer : goal.returns-in_default-clause-answer
returns-in_default-clause-answer c =
    let none : list_any (λ i. is_entry_of c.args.key.now (item_of c.args.buffer.now.items i)) c.args.items.now.items ≡ false = search rules in
    let n = any_shown (is_entry_of c.args.key.now) (item_of c.args.buffer.now.items) c.args.items.now.items ∙ none in
    sym (old_value_none c.args.key.now (items_of c.args.buffer.now.items c.args.items.now.items) n)

pub returns-in_default-clause-grows : goal.returns-in_default-clause-grows
returns-in_default-clause-grows c =
    let none : list_any (λ i. is_entry_of c.args.key.now (item_of c.args.buffer.now.items i)) c.args.items.now.items ≡ false = search rules in
    let n = any_shown (is_entry_of c.args.key.now) (item_of c.args.buffer.now.items) c.args.items.now.items ∙ none in
    let put = set_put_new c.args.editor.now c.args.key.now c.args.value.now (items_of c.args.buffer.now.items c.args.items.now.items) n in
    grows_ok _ _ _ _ _ _ c.in_ok-push.ensures.grows (omega (arith, put))

pub returns-clause-answer : goal.returns-clause-answer
returns-clause-answer c =
    let l : IsLastAt (λ i. is_entry_of c.args.key.now (item_of c.args.buffer.now.items i)) c.args.items.now.items c.in-Some.at = search rules in
    let k = last_shown (is_entry_of c.args.key.now) (item_of c.args.buffer.now.items) c.args.items.now.items c.in-Some.at l in
    let raw : c.in_ok-old.old.items ≡ item_raw (item_of c.args.buffer.now.items c.index.result.now) = search rules in
    let found = found_at (λ i. is_entry_of c.args.key.now (item_of c.args.buffer.now.items i)) c.args.items.now.items c.in-Some.at c.index.result.now l c.index.ensures in
    ap (λ t. Some t) (raw ∙ ap (λ i. item_raw (item_of c.args.buffer.now.items i)) found)
    ∙ sym (old_value_at c.args.key.now (items_of c.args.buffer.now.items c.args.items.now.items) k.before k.found k.behind k.is k.passes k.none)
