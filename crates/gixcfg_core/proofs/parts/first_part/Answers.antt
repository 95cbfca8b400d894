use Rattle.std.proofs.Common.{rules, arith}
use Rattle.std.proofs.lemmas.Grind.{common_steps}
use Rattle.gixcfg_core.proofs.PartLemmas.{first_part}
use Rattle.gixcfg_core.proofs.parts.first_part.Goals as goal

pub returns-in-Some : goal.returns-in-Some
returns-in-Some c = first_part c.args.between.now c.args.text.now _ c.in-Some.end (search rules) (grind (arith, common_steps))
