use Rattle.std.proofs.Common.{rules, ◌≡◌, ◌+◌, ◌<◌, ◌∷◌, ◌++◌, drop, take, length, slice_set, Some, None, ap, subst, ◌∙◌}
use Rattle.gitconf_items.specs.declared.items.Item.TheVariants as kinds
use Rattle.gitconf_body.specs.declared.value_at.Way.TheVariants.{Over}
use Rattle.gitconf_body.specs.ValuesAt.{IfReplaces}
use Rattle.gitconf_body.proofs.ValuesAt.{set_before, set_over}
use Rattle.gitconf_body.proofs.value_at.put.Goals as goal

pub returns-in-Over-None-clause-ok : goal.returns-in-Over-None-clause-ok
returns-in-Over-None-clause-ok c =
    let way : c.args.way ≡ Over None = search rules in
    let within = subst (λ w. IfReplaces w (c.args.at < length c.args.items.now.items)) way c.requires.over in
    rw way (set_over c.args.items.now.items c.args.at (kinds.Entry c.args.entry) within)

pub returns-in_ok-insert-in-Over-Some-clause-ok : goal.returns-in_ok-insert-in-Over-Some-clause-ok
returns-in_ok-insert-in-Over-Some-clause-ok c =
    let way : c.args.way ≡ Over (Some c.in-Over-Some.run') = search rules in
    let within = subst (λ w. IfReplaces w (c.args.at < length c.args.items.now.items)) way c.requires.over in
    let put : c.insert-in-Over-Some.new.self.items ≡ take (c.args.at + 1) c.args.items.now.items ++ kinds.LineEnds c.in-Over-Some.run' ∷ drop (c.args.at + 1) c.args.items.now.items = search rules in
    rw way (ap (λ is. slice_set is c.args.at (kinds.Entry c.args.entry)) put
    ∙ set_before c.args.items.now.items c.args.at (kinds.Entry c.args.entry) (kinds.LineEnds c.in-Over-Some.run') within)
