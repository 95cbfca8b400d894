use Rattle.std.proofs.Common.{◌∙◌, sym, rules}
use Rattle.gitconf_glob.proofs.Closing.{close_first, one_before, none_before, close_within}
use Rattle.gitconf_glob.proofs.bracket.close_with.Goals as goal

pub returns-then-first-eq93 : goal.returns-then-first-eq93
returns-then-first-eq93 c = sym (close_first c.args.first c.args.rest.now c.if-first-eq93.true)

pub overflow_add-result : goal.overflow_add-result
overflow_add-result c = let h = close_within 0 c.args.rest.now c.in-Some.n (sym c.requires ∙ c.in-Some.is) in search rules

pub returns-in-Some : goal.returns-in-Some
returns-in-Some c = sym (one_before c.args.first c.args.rest.now c.in-Some.n c.if-first-eq93.false (sym c.requires ∙ c.in-Some.is))

pub returns-in-None : goal.returns-in-None
returns-in-None c = sym (none_before c.args.first c.args.rest.now c.if-first-eq93.false (sym c.requires ∙ c.in-None.is))
