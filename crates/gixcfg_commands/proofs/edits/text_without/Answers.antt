use Rattle.std.proofs.Common.{rules}
use Rattle.gixcfg_commands.proofs.Editing.{named_found, removal_done}
use Rattle.gixcfg_commands.proofs.edits.text_without.Goals as goal

pub returns-in_ok-text_of_others-in-Ok : goal.returns-in_ok-text_of_others-in-Ok
returns-in_ok-text_of_others-in-Ok c = removal_done _ _ c.args.file.now _ (named_found _ _ c.args.file.now _ c.in-Ok.ensures) (search rules)
