use Rattle.std.proofs.Common.{rules, ◌≡◌, length}
use Rattle.gitconf_sections.proofs.SetWords.{none_set}
use Rattle.gitconf_sections.proofs.index.WordIndex.set_each.Goals as goal

pub returns-then-is_empty : goal.returns-then-is_empty
returns-then-is_empty c =
    let none : length c.self.inside.links.items ≡ 0 = search rules in
    rw (← c.self.view_is) (none_set c.self.inside.links.items c.args.places.now c.args.word none)

pub move_each-requires-clause-within : goal.move_each-requires-clause-within
move_each-requires-clause-within c = rw (← c.self.view_is) at c.requires
