use Rattle.std.proofs.Common.{rules, arith, ◌≡◌, get_or, refl, subst}
use Rattle.gitconf_body.proofs.Buffers.{extended_fit, grows_ok, grows_err}
use Rattle.gitconf_body.proofs.Changing.{entry_put_at, entry_replaced}
use Rattle.gitconf_body.specs.Editors.{editor_in, leading_in}
use Rattle.gitconf_body.proofs.set.change.Goals as goal

pub returns-in_err-entry-in-Entry-clause-within : goal.returns-in_err-entry-in-Entry-clause-within
returns-in_err-entry-in-Entry-clause-within c =
    extended_fit c.args.buffer.now.items c.changed_entry.new.buffer.items c.args.items.now.items c.changed_entry.ensures.grows.extended c.requires.within

pub returns-in_err-entry-in-Entry-clause-grows : goal.returns-in_err-entry-in-Entry-clause-grows
returns-in_err-entry-in-Entry-clause-grows c =
    let here = subst (λ i. i ≡ get_or c.args.items.now.items c.args.at i) c.in-Entry.is c.index.ensures in
    rw (entry_put_at c.args.buffer.now.items c.args.editor.now c.args.key.now c.args.value.now c.args.items.now.items c.args.at c.in-Entry.entry c.requires.last here)
    (search (rules, grows_err))

pub returns-clause-ok : goal.returns-clause-ok
returns-clause-ok c =
    let here = subst (λ i. i ≡ get_or c.args.items.now.items c.args.at i) c.in-Entry.is c.index.ensures in
    (entry_replaced c.args.buffer.now.items c.changed_entry.new.buffer.items c.args.items.now.items _ c.args.at c.in-Entry.entry c.in_ok-entry-in-Entry.entry
    (editor_in c.args.buffer.now.items c.args.editor.now) c.args.key.now c.args.value.now c.requires.last here c.changed_entry.ensures.grows.extended c.requires.within
    (c.in_ok-entry-in-Entry.ensures.stands (leading_in c.args.buffer.now.items c.args.editor.now.leading)) refl).shown_are

pub returns-clause-within : goal.returns-clause-within
returns-clause-within c =
    let here = subst (λ i. i ≡ get_or c.args.items.now.items c.args.at i) c.in-Entry.is c.index.ensures in
    (entry_replaced c.args.buffer.now.items c.changed_entry.new.buffer.items c.args.items.now.items _ c.args.at c.in-Entry.entry c.in_ok-entry-in-Entry.entry
    (editor_in c.args.buffer.now.items c.args.editor.now) c.args.key.now c.args.value.now c.requires.last here c.changed_entry.ensures.grows.extended c.requires.within
    (c.in_ok-entry-in-Entry.ensures.stands (leading_in c.args.buffer.now.items c.args.editor.now.leading)) refl).within

pub returns-clause-grows : goal.returns-clause-grows
returns-clause-grows c =
    let here = subst (λ i. i ≡ get_or c.args.items.now.items c.args.at i) c.in-Entry.is c.index.ensures in
    let put = entry_put_at c.args.buffer.now.items c.args.editor.now c.args.key.now c.args.value.now c.args.items.now.items c.args.at c.in-Entry.entry c.requires.last here in
    grows_ok _ _ _ _ _ _ c.in_ok-entry-in-Entry.ensures.grows (omega (arith, put))
