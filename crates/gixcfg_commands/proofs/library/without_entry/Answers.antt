use Rattle.gixcfg_commands.proofs.PlainResults.{text_refused}
use Rattle.gixcfg_commands.proofs.library.without_entry.Goals as goal

pub returns-in-Err-clause-unset : goal.returns-in-Err-clause-unset
returns-in-Err-clause-unset c = text_refused (λ text. text.items) c.args.text.items _ c.in-Err.trouble c.in-Err.ensures.made
