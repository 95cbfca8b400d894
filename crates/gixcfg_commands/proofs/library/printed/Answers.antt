use Rattle.gixcfg_commands.proofs.PlainResults.{text_refused}
use Rattle.gixcfg_commands.proofs.library.printed.Goals as goal

pub returns-in-Err : goal.returns-in-Err
returns-in-Err c = text_refused (λ text. text.items) c.args.text.items _ c.in-Err.trouble c.in-Err.ensures.made
