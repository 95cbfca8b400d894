use Rattle.std.proofs.Common.{◌≡◌, ◌∙◌, ◌++◌, take, drop, subst, sym, ap, refl}
use Rattle.gitconf_items.specs.Moves.{AreItemsMoved}
use Rattle.gitconf_sections.proofs.Parts.{but_part, part_is}
use Rattle.gitconf_sections.proofs.part.move_part.Goals as goal

pub returns-clause-same : goal.returns-clause-same
returns-clause-same c =
    but_part c.args.list.now _ c.split_at_mut-behind.result.0.now c.split_at_mut-behind.result.1.now c.split_at_mut-part.result.0.now c.move_items.new.items c.split_at_mut-part.result.1.now c.args.from c.args.len
    c.split_at_mut-behind.ensures.value c.split_at_mut-part.ensures.value refl c.split_at_mut-behind.ensures.front_len c.split_at_mut-part.ensures.front_len c.move_items.ensures.len

pub returns-clause-moved : goal.returns-clause-moved
returns-clause-moved c =
    let front = c.split_at_mut-behind.result.0.now in
    let part = c.split_at_mut-part.result.0.now in
    let rest = c.split_at_mut-part.result.1.now in
    let was : take c.args.len (drop c.args.from c.args.list.now) ≡ part =
    ap (λ xs. take c.args.len (drop c.args.from xs)) (c.split_at_mut-behind.ensures.value ∙ ap (λ xs. front ++ xs) c.split_at_mut-part.ensures.value)
    ∙ part_is front part rest c.args.from c.args.len c.split_at_mut-behind.ensures.front_len c.split_at_mut-part.ensures.front_len in
    let is = part_is front c.move_items.new.items rest c.args.from c.args.len c.split_at_mut-behind.ensures.front_len (c.move_items.ensures.len ∙ c.split_at_mut-part.ensures.front_len) in
    subst (λ xs. AreItemsMoved c.args.by xs (take c.args.len (drop c.args.from (front ++ (c.move_items.new.items ++ rest))))) (sym was) (subst (λ xs. AreItemsMoved c.args.by part xs) (sym is) c.move_items.ensures.moved)
