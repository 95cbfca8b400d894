use Rattle.std.proofs.Common.{refl}
use Rattle.gitconf_print.proofs.Left.{left_all, left_first, left_fault, left_last}
use Rattle.gitconf_print.proofs.SectionTexts.{held_is}
use Rattle.gitconf_print.proofs.sections.write_held.Goals as goal

pub returns-in_err-write_line_end_unless-clause-written : goal.returns-in_err-write_line_end_unless-clause-written
returns-in_err-write_line_end_unless-clause-written g c =
    left_fault c.from_residual.result _ _ _ _ _ _ _ c.from_residual.ensures.0 (left_all _ _)
    (held_is _ c.args.buffer.now c.args.items.now c.args.held.now _ c.if-is_empty.ensures c.ends_line-ended.ensures) c.in_err-write_line_end_unless.ensures.written

pub returns-clause-written : goal.returns-clause-written
returns-clause-written g c =
    left_last c.write_items.result _ _ _ _ (g.W.Sink.told c.write_line_end_unless.new.out) _
    (left_first _ _ _ _ _ (held_is _ c.args.buffer.now c.args.items.now c.args.held.now _ c.if-is_empty.ensures c.ends_line-ended.ensures) c.in_ok-write_line_end_unless.ensures.written)
    refl c.write_items.ensures.written
