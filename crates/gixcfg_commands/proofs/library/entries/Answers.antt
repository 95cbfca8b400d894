use Rattle.gixcfg_commands.proofs.PlainResults.{text_refused}
use Rattle.gixcfg_commands.proofs.library.entries.Goals as goal

pub returns-in-Err : goal.returns-in-Err
returns-in-Err c = text_refused (λ lines. lines.items) c.args.text.items _ c.in-Err.trouble c.in-Err.ensures
