use Rattle.std.proofs.Common.{◌≡◌, Some, sym, subst}
use Rattle.std.specs.Prelude.{IfOk, OnOk}
use Rattle.gitconf_items.specs.Items.{item_of, items_of}
use Rattle.gitconf_state.specs.Edit.{is_entry_of, old_value}
use Rattle.gitconf_state.specs.Editors.{removed}
use Rattle.gitconf_body.specs.Places.{IsLastAt}
use Rattle.gitconf_body.proofs.items_edits.RemoveEntryItemsEdit.edit.Goals as goal

pub returns-clause-ok : goal.returns-clause-ok
returns-clause-ok c =
    let key = c.args.self.now.key.now in
    let is = c.args.items.now.items in
    let last = subst (λ b. IsLastAt (λ i. is_entry_of key (item_of b i)) is c.args.place) (sym c.deref.ensures.value) c.requires.found in
    let done = subst (λ r. OnOk r (items_of c.deref.result.now c.remove_at.new.items.items ≡ removed key (items_of c.deref.result.now is))) c.in_ok-value.was (c.remove_at.ensures.ok key last) in
    subst (λ b. items_of b c.remove_at.new.items.items ≡ removed key (items_of b is)) c.deref.ensures.value done

pub returns-clause-tells : goal.returns-clause-tells
returns-clause-tells c =
    let key = c.args.self.now.key.now in
    let is = c.args.items.now.items in
    let last = subst (λ b. IsLastAt (λ i. is_entry_of key (item_of b i)) is c.args.place) (sym c.deref.ensures.value) c.requires.found in
    let told = subst (λ r. IfOk r (λ v. Some v.items ≡ old_value key (items_of c.deref.result.now is))) c.in_ok-value.was (c.remove_at.ensures.answer key last) in
    subst (λ b. Some c.in_ok-value.value.items ≡ old_value key (items_of b is)) c.deref.ensures.value told

pub returns-clause-within : goal.returns-clause-within
returns-clause-within c = c.remove_at.ensures.within _ c.requires.within
