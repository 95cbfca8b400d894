use Rattle.std.proofs.Common.{◌==◌, rules}
use Rattle.std.specs.HashSet.{IsFromIterResult}
use Rattle.std.proofs.lemmas.Iterator.Adapters.{YieldsList-from_vec, fact_from_collect}
use Rattle.gixcfg_commands.proofs.edits.set_of.Goals as goal

pub returns : goal.returns
returns c = fact_from_collect (IsFromIterResult (λ p q. p == q)) c.collect.result c.collect.ensures.ran (YieldsList-from_vec c.args.numbers.items c.into_iter.ensures.rest (search rules))
