use Rattle.gixcfg_commands.proofs.PlainLemmas.{get_so}
use Rattle.gixcfg_commands.proofs.reads.get.Goals as goal

pub returns-in-Key : goal.returns-in-Key
returns-in-Key g c = λ plain is on by at.
    get_so (λ lines. lines.items) c.args.get.now plain c.in-Key.key (g.I.Read.remaining c.args.inputs.now.input) c.values.result is on c.in-Key.is (c.values.ensures at)
