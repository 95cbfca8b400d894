use Rattle.std.proofs.Common.{rules, ◌≡◌, Err, Some, None, length, arith, refl, ap, subst, ◌∙◌}
use Rattle.gitconf_items.specs.Events.{bytes_of}
use Rattle.gitconf_items.specs.Items.{items_of}
use Rattle.gitconf_state.specs.Editors.{end_bytes, line_end_item}
use Rattle.gitconf_body.specs.Below.{lacking_put, IsLineEnd}
use Rattle.gitconf_body.specs.Buffers.{StandsAt}
use Rattle.gitconf_body.specs.Standing.{Stand, end_items}
use Rattle.std.proofs.Common.{take, drop}
use Rattle.gitconf_text.specs.LineEnds.{bytes_of_line_end}
use Rattle.gitconf_body.proofs.Buffers.{grows_none, grows_ok, grows_err}
use Rattle.gitconf_body.proofs.Gaps.{gap_some, gap_none, lacks_some, lacks_none}
use Rattle.gitconf_body.proofs.push_below.gap_of.Goals as goal

pub returns-in_err-append-in-None-clause-grows : goal.returns-in_err-append-in-None-clause-grows
returns-in_err-append-in-None-clause-grows c =
    let b = c.args.buffer.now.items in
    let e : IsLineEnd c.args.items.now None = search rules in
    let is : c.from_residual.result ≡ Err c.in_err-append-in-None.field-0.0 = search rules in
    let count : length c.as_bytes.result.now ≡ lacking_put c.args.editor.now (items_of b c.args.items.now) = ap length c.as_bytes.ensures ∙ rw (lacks_none b c.args.items.now e) refl in
    rw is (grows_err _ _ _ _ _ c.in_err-append-in-None.ensures.grows (omega (arith, count)))

pub returns-in-LineEnds-clause-gap : goal.returns-in-LineEnds-clause-gap
returns-in-LineEnds-clause-gap c =
    let e : IsLineEnd c.args.items.now (Some c.in-Some.at) = search rules in
    let run = c.in-LineEnds.run' in
    gap_some c.args.buffer.now.items (bytes_of_line_end c.args.editor.now.line_end) c.args.items.now c.in-Some.at run c.cut_run-behind.result.0 c.cut_run-behind.result.1
    c.index-items-at.result e c.index-items-at.is c.in-LineEnds.is
    (subst (λ b. StandsAt b c.cut_run-behind.result.0 (take (end_bytes (bytes_of b run)) (bytes_of b run))) c.deref.ensures.value c.cut_run-behind.ensures.first)
    (subst (λ b. Stand b (end_items c.cut_run-behind.result.1) (line_end_item (drop (end_bytes (bytes_of b run)) (bytes_of b run)))) c.deref.ensures.value c.cut_run-behind.ensures.behind)

pub returns-in-LineEnds-clause-grows : goal.returns-in-LineEnds-clause-grows
returns-in-LineEnds-clause-grows c =
    let b = c.args.buffer.now.items in
    let e : IsLineEnd c.args.items.now (Some c.in-Some.at) = search rules in
    let none : lacking_put c.args.editor.now (items_of b c.args.items.now) ≡ 0 = rw (lacks_some b c.args.items.now c.in-Some.at e) refl in
    grows_none _ _ b b c.requires.room refl none

pub returns-in_ok-append-in-None-clause-gap : goal.returns-in_ok-append-in-None-clause-gap
returns-in_ok-append-in-None-clause-gap c =
    let e : IsLineEnd c.args.items.now None = search rules in
    let stands : StandsAt c.append.new.buffer.items c.in_ok-append-in-None.field-0 (bytes_of_line_end c.args.editor.now.line_end) = search rules in
    gap_none c.args.buffer.now.items c.append.new.buffer.items (bytes_of_line_end c.args.editor.now.line_end) c.args.items.now c.in_ok-append-in-None.field-0 e stands

pub returns-in_ok-append-in-None-clause-grows : goal.returns-in_ok-append-in-None-clause-grows
returns-in_ok-append-in-None-clause-grows c =
    let b = c.args.buffer.now.items in
    let e : IsLineEnd c.args.items.now None = search rules in
    let count : length c.as_bytes.result.now ≡ lacking_put c.args.editor.now (items_of b c.args.items.now) = ap length c.as_bytes.ensures ∙ rw (lacks_none b c.args.items.now e) refl in
    grows_ok _ _ _ _ _ _ c.in_ok-append-in-None.ensures.grows count
