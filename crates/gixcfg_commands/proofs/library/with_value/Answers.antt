use Rattle.gixcfg_commands.proofs.PlainResults.{text_refused}
use Rattle.gixcfg_commands.proofs.library.with_value.Goals as goal

pub returns-in-Err-clause-set : goal.returns-in-Err-clause-set
returns-in-Err-clause-set c = text_refused (λ text. text.items) c.args.text.items _ c.in-Err.trouble c.in-Err.ensures.made
