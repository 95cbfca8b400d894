use Rattle.std.proofs.Common.{inr}
use Rattle.std.proofs.lemmas.Result.{IfOk-weaker}
use Rattle.gitconf_state.specs.State.{document_of}
use Rattle.gixcfg_commands.proofs.Checking.{passed}
use Rattle.gixcfg_commands.proofs.checks.messages_in.Goals as goal

pub returns-in-Ok : goal.returns-in-Ok
returns-in-Ok c = passed c.args.read.now.text.now c.args.outside.is_colored c.args.is_lenient (document_of c.in-Ok.file) c.messages_of_file.result c.in-Ok.ensures.document c.messages_of_file.ensures

pub returns-in-Err : goal.returns-in-Err
returns-in-Err c = IfOk-weaker c.messages_of_refused.result _ _ (λ messages is. inr (c.in-Err.refusal, c.in-Err.ensures.refused, is)) c.messages_of_refused.ensures
