use Rattle.std.proofs.Common.{rules, ◌≡◌, [], ◌∷◌, ◌++◌, ap, arith}
use Rattle.gitconf_items.specs.Items.{item_of, items_of}
use Rattle.gitconf_items.specs.ItemsFit.{ItemFits}
use Rattle.gitconf_body.specs.Copies.{items_size}
use Rattle.gitconf_body.proofs.Copies.{longer_then, one_copied, item_stays}
use Rattle.gitconf_body.proofs.copying.copied_items.Goals as goal

pub loop-item-preserved : goal.loop-item-preserved
loop-item-preserved c =
    let first : c.loop-item.rest.now ≡ c.in-Some.item.now ∷ c.in-Some.behind.now = search rules in
    let is : c.push.new.self.items ≡ c.loop-item.copies.items ++ c.in_ok-copy.copy ∷ [] = search rules in
    let sizes = ap (λ xs. items_size (items_of c.args.from.now xs)) first in
    record {
      longer = longer_then c.args.to.now.items c.loop-item.to.items c.copied_item.new.to.items c.loop-item.invariant.longer c.in_ok-copy.ensures.longer;
      put = omega (arith, sizes, c.loop-item.invariant.put, c.in_ok-copy.ensures.put);
      copying = one_copied item_of ItemFits item_stays c.args.from.now c.loop-item.to.items c.copied_item.new.to.items c.loop-item.copies.items c.push.new.self.items
          c.loop-item.rest.now c.in-Some.behind.now c.args.items.now c.in-Some.item.now c.in_ok-copy.copy c.loop-item.invariant.copying first
          c.in_ok-copy.ensures.longer.extended c.in_ok-copy.ensures.copy is;
    }
