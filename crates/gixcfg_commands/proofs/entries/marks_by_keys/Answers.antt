use Rattle.std.proofs.Common.{◌∙◌, Bor, List, ap, map, ℕ}
use Rattle.std.proofs.lemmas.Result.{IfOk-weaker}
use Rattle.gixcfg_core.specs.Entries.{PlainFound, plain_found}
use Rattle.gixcfg_core.specs.Patterns.{is_found}
use Rattle.gixcfg_commands.proofs.Marking.{marks_of_texts}
use Rattle.gixcfg_commands.proofs.entries.marks_by_keys.Goals as goal

pub returns-clause-marks : goal.returns-clause-marks
returns-clause-marks c = IfOk-weaker c.marks_of_keys.result _ _
    (λ marks is. (is.0, is.1, is.2 ∙ marks_of_texts (is_found is.0) (λ (f : PlainFound). f.names) _ (map plain_found c.args.entries.now) (ap (map (λ (t : Bor (List ℕ)). t.now)) c.deref.ensures.value ∙ c.in_ok-keys.ensures)))
    c.marks_of_keys.ensures.marks
