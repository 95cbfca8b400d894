use Rattle.gitconf_items.specs.Events.{header_of}
use Rattle.gitconf_items.proofs.SinkLaws.{Writes-fault}
use Rattle.gitconf_text.specs.Header.{spelled_header}
use Rattle.gitconf_text.specs.LineEnds.{bytes_of_line_end}
use Rattle.gitconf_print.specs.Runs.{run_of}
use Rattle.gitconf_print.proofs.RunLemmas.{but_begun_of_three, but_last, but_last_of_three}
use Rattle.gitconf_print.proofs.SectionTexts.{section_begun, section_ended}
use Rattle.gitconf_print.proofs.sections.write_section.Goals as goal

pub returns-then-stand_behind_header-clause-written : goal.returns-then-stand_behind_header-clause-written
returns-then-stand_behind_header-clause-written g c =
    let line_end = bytes_of_line_end c.body_line_end-line_end.result in
    let header = header_of c.args.buffer.now c.args.header.now in
    but_last c.write_behind.result _ (spelled_header header) _ (run_of c.args.buffer.now c.in_ok-run.run') (g.W.Sink.told c.args.out.now) (g.W.Sink.told c.begin_header.new.out) (g.W.Sink.told c.write_behind.new.out)
    (section_begun line_end c.args.buffer.now header c.args.items.now _ c.body_line_end-line_end.ensures (c.stand_behind_header.ensures c.args.buffer.now line_end) c.if-stand_behind_header.true)
    c.in_ok-run.ensures.written c.write_behind.ensures.written

pub returns-in_err-end_run-clause-written : goal.returns-in_err-end_run-clause-written
returns-in_err-end_run-clause-written g c =
    let line_end = bytes_of_line_end c.body_line_end-line_end.result in
    let header = header_of c.args.buffer.now c.args.header.now in
    Writes-fault c.from_residual-in_err-end_run.result _ _ _ c.from_residual-in_err-end_run.ensures.0
    (but_begun_of_three _ (spelled_header header) line_end _ (run_of c.args.buffer.now c.in_ok-run.run') (g.W.Sink.told c.args.out.now) (g.W.Sink.told c.begin_header.new.out) (g.W.Sink.told c.end_run.new.out)
    (section_ended line_end c.args.buffer.now header c.args.items.now _ c.body_line_end-line_end.ensures (c.stand_behind_header.ensures c.args.buffer.now line_end) c.if-stand_behind_header.false)
    c.in_ok-run.ensures.written c.in_err-end_run.ensures.written)

pub returns-clause-written : goal.returns-clause-written
returns-clause-written g c =
    let line_end = bytes_of_line_end c.body_line_end-line_end.result in
    let header = header_of c.args.buffer.now c.args.header.now in
    but_last_of_three c.write_items.result _ (spelled_header header) line_end _ (run_of c.args.buffer.now c.in_ok-run.run') (g.W.Sink.told c.args.out.now) (g.W.Sink.told c.begin_header.new.out) (g.W.Sink.told c.end_run.new.out) (g.W.Sink.told c.write_items.new.out)
    (section_ended line_end c.args.buffer.now header c.args.items.now _ c.body_line_end-line_end.ensures (c.stand_behind_header.ensures c.args.buffer.now line_end) c.if-stand_behind_header.false)
    c.in_ok-run.ensures.written c.in_ok-end_run.ensures.written c.write_items.ensures.written
