use Rattle.std.proofs.Common.{refl}
use Rattle.std.proofs.lemmas.Result.{IfOk-weaker}
use Rattle.gixcfg_core.proofs.outside.refusal_message.Goals as goal

pub returns : goal.returns
returns c =
    IfOk-weaker c.message.result _ _
    (λ message is. (record { file = c.as_str.result; text = c.args.text; kind = c.kind.result; rest = c.remaining_data.result }, refl, c.kind.ensures, c.remaining_data.ensures, is)) c.message.ensures
