use Rattle.gixcfg_commands.proofs.Editing.{answer_done, answer_refused}
use Rattle.gixcfg_commands.proofs.edits.renamed.Goals as goal

pub returns-in-Ok : goal.returns-in-Ok
returns-in-Ok c = answer_done _ _ c.args.text.now c.args.file.now c.rename.new.file c.written.result c.in-Ok.ensures c.written.ensures

pub returns-in-Err : goal.returns-in-Err
returns-in-Err c = answer_refused _ _ c.args.text.now c.args.file.now c.rename.new.file c.in-Err.trouble c.in-Err.ensures
