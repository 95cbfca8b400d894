use Rattle.std.proofs.Common.{rules, ◌≡◌, true, false, take, ◌∙◌}
use Rattle.gitconf_body.specs.Taken.{ends_blanks}
use Rattle.gitconf_body.proofs.Taken.{blanks_out_at, no_blanks_out}
use Rattle.gitconf_body.proofs.take_out.drop_blanks.Goals as goal

pub returns-then-ends_blanks : goal.returns-then-ends_blanks
returns-then-ends_blanks c =
    let there : ends_blanks (take c.args.at c.args.items.now.items) ≡ true = search rules in
    c.remove.ensures.by_index.2 ∙ blanks_out_at c.args.items.now.items c.args.at there c.requires.within

pub returns-else-ends_blanks : goal.returns-else-ends_blanks
returns-else-ends_blanks c =
    let none : ends_blanks (take c.args.at c.args.items.now.items) ≡ false = search rules in
    no_blanks_out c.args.items.now.items c.args.at none
