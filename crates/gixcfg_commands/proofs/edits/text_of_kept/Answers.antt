use Rattle.std.proofs.Common.{◌==◌, ◌∙◌}
use Rattle.std.specs.HashSet.{contains_by}
use Rattle.std.proofs.lemmas.Result.{IfOk-weaker}
use Rattle.gixcfg_commands.proofs.Emptying.{kept_alike}
use Rattle.gixcfg_commands.proofs.edits.text_of_kept.Goals as goal

pub returns-in-Ok : goal.returns-in-Ok
returns-in-Ok c =
    IfOk-weaker c.text_beside.result _ _ (λ text is. is ∙ kept_alike c.args.gone.items (λ q. contains_by (λ n. q == n) c.in-Ok.numbers) c.args.file.now c.in-Ok.ensures.0) c.text_beside.ensures
