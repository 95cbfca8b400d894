use Rattle.gitconf_items.specs.Items.{item_of}
use Rattle.gitconf_text.specs.LineEnds.{bytes_of_line_end}
use Rattle.gitconf_print.specs.Open.{open_of}
use Rattle.gitconf_print.specs.Runs.{run_of}
use Rattle.gitconf_print.proofs.RunLemmas.{next_begun, next_err, next_written, but_fault}
use Rattle.gitconf_print.proofs.items.write_words.Goals as goal

pub returns-in_err-before-clause-written : goal.returns-in_err-before-clause-written
returns-in_err-before-clause-written g c =
    but_fault c.from_residual.result _ _ _ _ c.from_residual.ensures.0
    (next_begun (run_of c.args.buffer.now c.args.before.run) c.args.in_body (bytes_of_line_end c.args.line_end) (open_of c.args.before.open) (item_of c.args.buffer.now c.args.item.now)
    (g.W.Sink.told c.args.out.now) (g.W.Sink.told c.end_before.new.out) c.in_err-before.ensures.written)

pub returns-in_err-run-clause-written : goal.returns-in_err-run-clause-written
returns-in_err-run-clause-written g c =
    but_fault c.from_residual-in_err-run.result _ _ _ _ c.from_residual-in_err-run.ensures.0
    (next_err (run_of c.args.buffer.now c.args.before.run) (run_of c.args.buffer.now c.in_ok-before.before.run) c.args.in_body (bytes_of_line_end c.args.line_end) (open_of c.args.before.open) (item_of c.args.buffer.now c.args.item.now)
    (g.W.Sink.told c.args.out.now) (g.W.Sink.told c.end_before.new.out) (g.W.Sink.told c.gather.new.out) c.in_ok-before.ensures.written c.in_err-run.ensures.written)

pub returns-clause-written : goal.returns-clause-written
returns-clause-written g c =
    next_written (run_of c.args.buffer.now c.args.before.run) (run_of c.args.buffer.now c.in_ok-before.before.run) (run_of c.args.buffer.now c.in_ok-run.run') c.args.in_body (bytes_of_line_end c.args.line_end) (open_of c.args.before.open) (item_of c.args.buffer.now c.args.item.now)
    (g.W.Sink.told c.args.out.now) (g.W.Sink.told c.end_before.new.out) (g.W.Sink.told c.gather.new.out) c.in_ok-before.ensures.written c.in_ok-run.ensures.written
