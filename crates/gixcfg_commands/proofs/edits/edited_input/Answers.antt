use Rattle.gixcfg_commands.specs.ByWords.{IsEdit}
use Rattle.gixcfg_commands.specs.Edits.{command_of}
use Rattle.gixcfg_commands.specs.Plainly.{IsOutcome}
use Rattle.gixcfg_commands.proofs.PlainLemmas.{unread}
use Rattle.gixcfg_commands.proofs.edits.edited_input.Goals as goal

pub returns-in-Err-clause-plain : goal.returns-in-Err-clause-plain
returns-in-Err-clause-plain g c = λ plain is by. unread (λ text. text.items) (IsOutcome plain) (g.I.Read.remaining c.args.inputs.now.input) c.in-Err.trouble c.in-Err.ensures.refused

pub returns-in-Err-clause-by_git : goal.returns-in-Err-clause-by_git
returns-in-Err-clause-by_git g c = λ by. unread (λ text. text.items) (IsEdit (command_of c.args.edit) c.args.inputs.now.outside.is_colored) (g.I.Read.remaining c.args.inputs.now.input) c.in-Err.trouble c.in-Err.ensures.refused
