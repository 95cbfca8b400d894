use Rattle.gitconf_body.proofs.Outcomes.{on_ok}
use Rattle.gitconf_views.proofs.fronts.put_behind.Goals as goal

pub returns-then-is_empty-clause-ok : goal.returns-then-is_empty-clause-ok
returns-then-is_empty-clause-ok c = on_ok c.put_behind_front.result (λ put. put c.args.at) c.put_behind_front.ensures.ok
