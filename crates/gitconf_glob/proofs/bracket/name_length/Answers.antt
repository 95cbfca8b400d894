use Rattle.std.proofs.Common.{◌∙◌, sym, arith}
use Rattle.gitconf_glob.proofs.Closing.{close_within}
use Rattle.gitconf_glob.proofs.bracket.name_length.Goals as goal

pub bounds-text-n : goal.bounds-text-n
bounds-text-n c = omega (arith, close_within 0 c.args.text.now c.in-Some.n (sym c.requires ∙ c.in-Some.is))

pub returns-then-text-n-eq58-clause-within : goal.returns-then-text-n-eq58-clause-within
returns-then-text-n-eq58-clause-within c = let h = close_within 0 c.args.text.now c.in-Some.n (sym c.requires ∙ c.in-Some.is) in omega (arith, h, c.if-n-gt0.true)
