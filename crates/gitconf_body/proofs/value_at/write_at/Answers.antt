use Rattle.std.proofs.Common.{rules, ◌≡◌, ◌∷◌, ◌++◌, drop, take, length, min, ap, ◌∙◌}
use Rattle.gitconf_items.specs.declared.items.Item.TheVariants as kinds
use Rattle.gitconf_body.specs.Editors.{editor_in, leading_in}
use Rattle.gitconf_body.specs.ValuesAt.{behind_way, way_before}
use Rattle.gitconf_body.proofs.Buffers.{extended_fit}
use Rattle.gitconf_body.proofs.ValuesAt.{written_stand}
use Rattle.gitconf_body.proofs.value_at.write_at.Goals as goal

pub returns-in_err-entry-clause-within : goal.returns-in_err-entry-clause-within
returns-in_err-entry-clause-within c =
    extended_fit c.args.buffer.now.items c.put_entry.new.buffer.items c.args.items.now.items c.put_entry.ensures.grows.extended c.requires.within

pub returns-in_err-put-clause-within : goal.returns-in_err-put-clause-within
returns-in_err-put-clause-within c =
    let same : c.put.new.items.items ≡ c.args.items.now.items = search rules in
    rw same (extended_fit c.args.buffer.now.items c.put_entry.new.buffer.items c.args.items.now.items c.put_entry.ensures.grows.extended c.requires.within)

pub returns-clause-ok : goal.returns-clause-ok
returns-clause-ok c =
    let is = c.args.items.now.items in
    let at = c.min-at.result in
    let there : at ≡ min c.args.place (length is) = search rules in
    let way : c.way_before-way.result ≡ way_before c.args.in_place_of (drop at is) =
    c.way_before-way.ensures ∙ ap (way_before c.args.in_place_of) (c.split_at.ensures.back ∙ ap (drop at) c.deref.ensures.value) in
    let put : c.put.new.items.items ≡ take at is ++ kinds.Entry c.in_ok-entry.entry ∷ behind_way c.way_before-way.result (drop at is) = search rules in
    (written_stand c.args.buffer.now.items c.put_entry.new.buffer.items is c.put.new.items.items c.args.place at c.args.in_place_of (kinds.Entry c.in_ok-entry.entry)
    (editor_in c.args.buffer.now.items c.args.editor.now) c.args.key.now c.args.value.now c.put_entry.ensures.grows.extended c.requires.within there
    (c.in_ok-entry.ensures.stands (leading_in c.args.buffer.now.items c.args.editor.now.leading))
    (put ∙ ap (λ w. take at is ++ kinds.Entry c.in_ok-entry.entry ∷ behind_way w (drop at is)) way)).shown_are

pub returns-clause-within : goal.returns-clause-within
returns-clause-within c =
    let is = c.args.items.now.items in
    let at = c.min-at.result in
    let there : at ≡ min c.args.place (length is) = search rules in
    let way : c.way_before-way.result ≡ way_before c.args.in_place_of (drop at is) =
    c.way_before-way.ensures ∙ ap (way_before c.args.in_place_of) (c.split_at.ensures.back ∙ ap (drop at) c.deref.ensures.value) in
    let put : c.put.new.items.items ≡ take at is ++ kinds.Entry c.in_ok-entry.entry ∷ behind_way c.way_before-way.result (drop at is) = search rules in
    (written_stand c.args.buffer.now.items c.put_entry.new.buffer.items is c.put.new.items.items c.args.place at c.args.in_place_of (kinds.Entry c.in_ok-entry.entry)
    (editor_in c.args.buffer.now.items c.args.editor.now) c.args.key.now c.args.value.now c.put_entry.ensures.grows.extended c.requires.within there
    (c.in_ok-entry.ensures.stands (leading_in c.args.buffer.now.items c.args.editor.now.leading))
    (put ∙ ap (λ w. take at is ++ kinds.Entry c.in_ok-entry.entry ∷ behind_way w (drop at is)) way)).within
