use Rattle.gixcfg_core.proofs.Ending.{shown_by}
use Rattle.gixcfg_core.proofs.showing.show.Goals as goal

pub returns-clause-shown : goal.returns-clause-shown
returns-clause-shown g c =
    shown_by (λ text. text.items) c.args.answer c.put_made.result (g.W.Write.contents c.args.out.now) (g.W.Write.contents c.put_made.new.out) c.end.result c.put_made.ensures c.end.ensures.value
