use Rattle.std.proofs.Common.{◌≤◌, length, ◌<◌, ap, sym, ◌∙◌, arith}
use Rattle.gitconf_sections.proofs.LeavingOut.{as_long, gone_here, kept_here, walked}
use Rattle.gitconf_sections.proofs.part.leave_out.Goals.{then-is_at, else-is_at}
use Rattle.gitconf_sections.proofs.part.leave_out.Goals as goal

pub loop-at-preserved : goal.loop-at-preserved
loop-at-preserved c =
    let l = c.loop-at in
    let within : l.at < length l.items = omega arith in
    elim c.if-is_at.branch [
      | then-is_at w ↦ (
        omega (arith, l.invariant.0, w.kept-is),
        ap length w.items-is ∙ l.invariant.1,
        rw (w.items-is, w.kept-is, w.left-is, w.split_at.ensures.back)
            (gone_here l.kept l.at l.left.now l.items within (sym c.is_at.ensures ∙ w.if-is_at.true) ∙ l.invariant.2),
      )
      | else-is_at w ↦ (
        omega (arith, l.invariant.0, w.kept-is),
        ap length w.items-is ∙ as_long l.kept l.at l.items w.swap.new.self w.swap.ensures.by_index within ∙ l.invariant.1,
        rw (w.items-is, w.kept-is, w.left-is)
            (kept_here l.kept l.at l.left.now l.items w.swap.new.self w.swap.ensures.by_index l.invariant.0 within (sym c.is_at.ensures ∙ w.if-is_at.false) ∙ l.invariant.2),
      )
    ]

pub returns-clause-left : goal.returns-clause-left
returns-clause-left c =
    let l = c.loop-at in
    let past : length l.items ≤ l.at = omega arith in
    walked l.kept l.at l.left.now c.args.places.now l.items c.args.items.now past c.requires l.invariant.2
