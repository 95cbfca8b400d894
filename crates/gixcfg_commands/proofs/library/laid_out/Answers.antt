use Rattle.gixcfg_commands.proofs.PlainResults.{text_refused, told_refused}
use Rattle.gixcfg_commands.proofs.library.laid_out.Goals as goal

pub returns-in-Err : goal.returns-in-Err
returns-in-Err c = λ plain. text_refused (λ text. text.items) c.args.text.now _ c.in-Err.trouble
    (told_refused c.args.text.now c.normalize.result c.in-Err.trouble c.normalize.ensures.refused c.in-Err.ensures.refused)
