use Rattle.std.proofs.Common.{ap, sym, subst, ◌∙◌}
use Rattle.gixcfg_core.specs.Pieces.{HasUpTo}
use Rattle.gixcfg_core.proofs.Piecewise.{none_more, some_more}
use Rattle.gixcfg_core.proofs.streams.put.Goals as goal
use Rattle.gixcfg_core.proofs.streams.put.Goals.{in-Ok, in-Err}

pub loop-preserved : goal.loop-preserved
loop-preserved g c =
    let text = c.args.text.now in
    let left = c.loop.rest.now in
    let old = g.W.Write.contents c.args.out.now in
    let now = g.W.Write.contents c.loop.out in
    let new = g.W.Write.contents c.write.new.self in
    elim c.match-write.branch [
      | in-Ok w ↦ subst (λ left. HasUpTo text left old new) (sym (ap (λ r. r.now) w.rest-is ∙ w.split_at.ensures.back)) (some_more text left w.in-Ok.count old now new c.loop.invariant w.in-Ok.ensures.bytes)
      | in-Err w ↦ subst (λ left. HasUpTo text left old new) (sym (ap (λ r. r.now) w.rest-is)) (none_more text left old now new c.loop.invariant w.in-Err.ensures.bytes)
    ]
