use Rattle.std.proofs.Common.{rules, ◌≡◌, false, subst, sym, ◌∙◌}
use Rattle.std.specs.Prelude.{◌↔◌, ◌≤◌, ◌+◌, ◌^◌, length, IsErrOf}
use Rattle.std.specs.List.{list_any}
use Rattle.gitconf_items.specs.Items.{item_of, items_of}
use Rattle.gitconf_state.specs.Edit.{is_entry_of}
use Rattle.gitconf_body.proofs.Changing.{set_put_new}
use Rattle.gitconf_body.proofs.Places.{any_shown}
use Rattle.gitconf_body.proofs.set.place_to_set.Goals as goal

pub returns-in_err-check_push-in-None-clause-too_large : goal.returns-in_err-check_push-in-None-clause-too_large
returns-in_err-check_push-in-None-clause-too_large c =
    let none : list_any (λ i. is_entry_of c.args.key.now (item_of c.args.buffer.now i)) c.args.items.now ≡ false = search rules in
    let n = any_shown (is_entry_of c.args.key.now) (item_of c.args.buffer.now) c.args.items.now ∙ none in
    let put = set_put_new c.args.editor.now c.args.key.now c.args.value.now (items_of c.args.buffer.now c.args.items.now) n in
    let told = subst (λ m. IsErrOf c.check_push.result 3 ↔ (2 ^ 32 ≤ length c.args.buffer.now + m)) (sym put) c.check_push.ensures.too_large in
    search (rules, told)
