use Rattle.std.proofs.Common.{rules, ◌≡◌, Some, None, sym, subst, ◌∙◌}
use Rattle.gitconf_items.specs.Items.{item_of}
use Rattle.gitconf_state.specs.Edit.{is_entry_of}
use Rattle.gitconf_body.specs.Places.{IsLastAt, IsLastPlace}
use Rattle.gitconf_body.proofs.Places.{found_at}
use Rattle.gitconf_body.proofs.LastEntry.{last_found, last_missing}
use Rattle.gitconf_body.proofs.meanings.last_entry.Goals as goal

pub returns-in_err-at : goal.returns-in_err-at
returns-in_err-at c =
    let none : c.last_place.result ≡ None = search rules in
    let result : c.from_residual.result ≡ None = search rules in
    let missing = subst (IsLastPlace (λ i. is_entry_of c.args.key.now (item_of c.args.buffer.now i)) c.args.items.now) none c.last_place.ensures in
    rw result (sym (last_missing c.args.buffer.now c.args.key.now c.args.items.now missing))

pub returns : goal.returns
returns c =
    let is : c.last_place.result ≡ Some c.in_ok-at.at = search rules in
    let l : IsLastAt (λ i. is_entry_of c.args.key.now (item_of c.args.buffer.now i)) c.args.items.now c.in_ok-at.at =
    subst (IsLastPlace (λ i. is_entry_of c.args.key.now (item_of c.args.buffer.now i)) c.args.items.now) is c.last_place.ensures in
    let found = found_at (λ i. is_entry_of c.args.key.now (item_of c.args.buffer.now i)) c.args.items.now c.in_ok-at.at c.in-Some-Entry.field-0.now l c.in-Some-Entry.ensures.lookup.1 in
    sym (last_found c.args.buffer.now c.args.key.now c.args.items.now c.in_ok-at.at c.in-Some-Entry.entry l (sym found ∙ c.in-Some-Entry.field-0-is))
