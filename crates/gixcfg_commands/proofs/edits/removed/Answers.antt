use Rattle.std.proofs.Common.{ap, inl, inr, subst, sym, ⊎_elim}
use Rattle.bstr.specs.Owned.{bstring_bytes}
use Rattle.gixcfg_core.specs.Answers.{Answers}
use Rattle.gixcfg_commands.specs.Answered.{marked_answer}
use Rattle.gixcfg_commands.proofs.edits.removed.Goals as goal

pub returns-in-Ok : goal.returns-in-Ok
returns-in-Ok c = subst (λ answer. Answers bstring_bytes c.marked.result (marked_answer c.args.text.now answer)) (sym c.in-Ok.ensures) c.marked.ensures

pub returns-in-Err : goal.returns-in-Err
returns-in-Err c = ⊎_elim (λ memory. inl memory) (λ why. inr (ap (marked_answer c.args.text.now) why)) c.in-Err.ensures
