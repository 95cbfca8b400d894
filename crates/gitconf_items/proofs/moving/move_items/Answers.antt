use Rattle.std.proofs.Common.{rules, ◌≡◌, ◌+◌, ◌-◌, length, get_or, sym, subst, ◌∙◌, arith, add-one}
use Rattle.gitconf_items.specs.Items.{item_of}
use Rattle.gitconf_items.specs.ItemsFit.{ItemFits}
use Rattle.gitconf_items.specs.Moves.{IsMoved}
use Rattle.gitconf_items.proofs.Moves.{AreChanged, all_at, all_moved, next_changed, next_same, set_twice}
use Rattle.gitconf_items.proofs.moving.move_items.Goals as goal

pub moved_item-requires : goal.moved_item-requires
moved_item-requires c =
    let old = c.args.items.now in
    let taken : c.replace-item.result ≡ get_or c.loop-at.items c.loop-at.at c.replace-item.result = search rules in
    let here = taken ∙ next_same (IsMoved item_of ItemFits c.args.by) c.loop-at.at old c.loop-at.items c.replace-item.result c.loop-at.invariant in
    all_at (ItemFits (4294967295 - c.args.by)) old c.loop-at.at c.replace-item.result c.loop-at-test.true here c.requires

pub loop-at-preserved : goal.loop-at-preserved
loop-at-preserved c =
    let old = c.args.items.now in
    let items = c.loop-at.items in
    let at = c.loop-at.at in
    let taken : c.replace-item.result ≡ get_or items at c.replace-item.result = search rules in
    let here = taken ∙ next_same (IsMoved item_of ItemFits c.args.by) at old items c.replace-item.result c.loop-at.invariant in
    let put : c.replace.new.dest ≡ c.moved_item.result = search rules in
    let moved = subst (λ i. IsMoved item_of ItemFits c.args.by c.replace-item.result i) (sym put) c.moved_item.ensures in
    subst (λ xs. AreChanged (IsMoved item_of ItemFits c.args.by) (at + 1) old xs) (sym (set_twice items at c.replace-item.new.dest c.replace.new.dest))
    (rw add-one (next_changed (IsMoved item_of ItemFits c.args.by) at old items c.replace-item.result c.replace.new.dest c.loop-at.invariant c.loop-at-test.true here moved))

pub returns-clause-moved : goal.returns-clause-moved
returns-clause-moved c =
    let old = c.args.items.now in
    let whole : c.loop-at.at ≡ length old = omega (arith, c.loop-at-test.false, c.loop-at.auto.at-end) in
    all_moved item_of ItemFits c.args.by old c.loop-at.items (subst (λ n. AreChanged (IsMoved item_of ItemFits c.args.by) n old c.loop-at.items) whole c.loop-at.invariant)
