use Rattle.gixcfg_commands.proofs.PlainResults.{text_refused, told_refused}
use Rattle.gixcfg_commands.proofs.library.last_in.Goals as goal

pub returns-in-Err : goal.returns-in-Err
returns-in-Err c =
    text_refused (λ line. line.items) c.args.text.now _ c.in-Err.trouble (told_refused c.args.text.now c.value_in.result c.in-Err.trouble c.value_in.ensures.refused c.in-Err.ensures.refused)
