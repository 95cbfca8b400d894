use Rattle.std.proofs.Common.{rules, ◌≡◌, true, false, drop, ◌∙◌}
use Rattle.gitconf_body.specs.Taken.{begins_line_ends}
use Rattle.gitconf_body.proofs.Taken.{line_ends_out_at, no_line_ends_out}
use Rattle.gitconf_body.proofs.take_out.drop_line_ends.Goals as goal

pub returns-then-begins_line_ends : goal.returns-then-begins_line_ends
returns-then-begins_line_ends c =
    let there : begins_line_ends (drop c.args.at c.args.items.now.items) ≡ true = search rules in
    c.remove.ensures.by_index.2 ∙ line_ends_out_at c.args.items.now.items c.args.at there

pub returns-else-begins_line_ends : goal.returns-else-begins_line_ends
returns-else-begins_line_ends c =
    let none : begins_line_ends (drop c.args.at c.args.items.now.items) ≡ false = search rules in
    no_line_ends_out c.args.items.now.items c.args.at none
