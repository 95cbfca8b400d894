use Rattle.std.proofs.Common.{◌∙◌, sym}
use Rattle.gitconf_glob.proofs.Closing.{anew, none_behind}
use Rattle.gitconf_glob.proofs.bracket.count_anew.Goals as goal

pub overflow_sub-result : goal.overflow_sub-result
overflow_sub-result c = (anew c.args.passed c.in-Some.n c.args.text.now (sym c.requires ∙ c.in-Some.is)).0

pub returns-in-Some : goal.returns-in-Some
returns-in-Some c = sym ((anew c.args.passed c.in-Some.n c.args.text.now (sym c.requires ∙ c.in-Some.is)).1)

pub returns-in-None : goal.returns-in-None
returns-in-None c = sym (none_behind 0 c.args.passed 0 c.args.text.now (sym c.requires ∙ c.in-None.is))
