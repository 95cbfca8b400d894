use Rattle.gixcfg_words.specs.Plain.{Entries}
use Rattle.gixcfg_commands.specs.Plainly.{IsOutcome}
use Rattle.gixcfg_commands.proofs.PlainLemmas.{unread}
use Rattle.gixcfg_commands.proofs.reads.entries_of_input.Goals as goal

pub returns-in-Err : goal.returns-in-Err
returns-in-Err g c = unread (λ lines. lines.items) (IsOutcome Entries) (g.I.Read.remaining c.args.inputs.now.input) c.in-Err.trouble c.in-Err.ensures.refused
