use Rattle.gixcfg_words.specs.Plain.{Print}
use Rattle.gixcfg_commands.specs.Plainly.{IsOutcome}
use Rattle.gixcfg_commands.proofs.PlainLemmas.{of_known, unread}
use Rattle.gixcfg_commands.proofs.reads.printed.Goals as goal

pub returns-in-Ok : goal.returns-in-Ok
returns-in-Ok g c = of_known (λ lines. lines.items) (IsOutcome Print) (g.I.Read.remaining c.args.inputs.now.input) c.in-Ok.text.items c.printed.result c.in-Ok.ensures.all c.printed.ensures

pub returns-in-Err : goal.returns-in-Err
returns-in-Err g c = unread (λ lines. lines.items) (IsOutcome Print) (g.I.Read.remaining c.args.inputs.now.input) c.in-Err.trouble c.in-Err.ensures.refused
