use Rattle.std.proofs.Common.{Err, inl, inr, ⊎_elim, ap, map, subst}
use Rattle.gixcfg_core.specs.Answers.{Answers}
use Rattle.gixcfg_core.specs.Entries.{plain_found}
use Rattle.gixcfg_core.specs.Telling.{found_lines}
use Rattle.gixcfg_commands.proofs.reads.lines_of_meant.Goals as goal

pub returns-in-Ok : goal.returns-in-Ok
returns-in-Ok c = λ plain. inl (
  map plain_found c.in-Ok.meant.items,
  c.in-Ok.ensures.found,
  subst (λ found. Answers (λ lines. lines.items) c.lines_of_found.result (found_lines c.args.get.now.form c.args.get.now.choice (map plain_found found))) c.deref.ensures.value (c.lines_of_found.ensures plain),
)

pub returns-in-Err : goal.returns-in-Err
returns-in-Err c = λ plain. inr (⊎_elim (λ memory. inl (ap Err memory)) (λ nothing. inr (ap Err nothing.0, nothing.1)) c.in-Err.ensures.refused)
