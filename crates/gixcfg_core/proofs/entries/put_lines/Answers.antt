use Rattle.std.proofs.Common.{◌++◌, ap, ◌∙◌, append-nil, subst}
use Rattle.std.specs.Prelude.{flat_map}
use Rattle.gitconf_text.specs.Bytes.{fold}
use Rattle.gitconf_text.specs.Document.{document_entry}
use Rattle.gitconf_items.specs.Items.{entry_of, items_of}
use Rattle.gitconf_state.specs.State.{entries_of}
use Rattle.gitconf_views.specs.Views.{shown}
use Rattle.gixcfg_core.proofs.CStringLemmas.{line_behind}
use Rattle.gixcfg_core.proofs.Piecewise.{breaks_off, failed, goes_on, line_added, nothing_yet}
use Rattle.gixcfg_core.specs.Entries.{entry_line, section_lines}
use Rattle.gixcfg_core.specs.Pieces.{HasUpTo}
use Rattle.gixcfg_core.proofs.entries.put_lines.Goals as goal

pub returns-in_err-head : goal.returns-in_err-head
returns-in_err-head g c =
    let text = c.args.held.now.items ++ section_lines c.args.line.now c.args.before.now (shown c.args.section.now) in
    let known = g.W.Write.contents c.args.out.now in
    failed text c.args.held.now.items c.from_residual.result known known c.from_residual.ensures.0 (text, nothing_yet text known)

pub returns-in_err-add_line : goal.returns-in_err-add_line
returns-in_err-add_line g c =
    failed _ c.add_line.new.lines.items c.from_residual-in_err-add_line.result (g.W.Write.contents c.args.out.now) (g.W.Write.contents c.loop-entry.out)
    c.from_residual-in_err-add_line.ensures.0 (_, c.loop-entry.invariant)

pub returns-in_err-put_if_whole : goal.returns-in_err-put_if_whole
returns-in_err-put_if_whole g c =
    let line = entry_line c.args.line.now c.args.before.now (shown c.args.section.now) in
    let buffer = c.args.section.now.buffer.now in
    let e = document_entry (entry_of buffer c.in-Some.entry.now) in
    let behind = entries_of (items_of buffer c.in-Some.behind.now) in
    let parts = line_added line (entries_of (items_of buffer c.loop-entry.rest.now)) behind e c.loop-entry.held.items c.add_line.new.lines.items _ (c.in-Some.ensures.entry buffer)
    c.in_ok-add_line.ensures (line_behind _ _ c.args.before.now _ _ (c.in_ok-head.ensures (fold e.name))) in
    failed _ c.put_if_whole.new.held.items c.from_residual-in_err-put_if_whole.result (g.W.Write.contents c.args.out.now) (g.W.Write.contents c.put_if_whole.new.out)
    c.from_residual-in_err-put_if_whole.ensures.0
    (breaks_off _ _ c.add_line.new.lines.items (flat_map line behind) (g.W.Write.contents c.args.out.now) (g.W.Write.contents c.loop-entry.out) (g.W.Write.contents c.put_if_whole.new.out)
    c.loop-entry.invariant parts c.in_err-put_if_whole.ensures.given)

pub loop-entry-preserved : goal.loop-entry-preserved
loop-entry-preserved g c =
    let line = entry_line c.args.line.now c.args.before.now (shown c.args.section.now) in
    let buffer = c.args.section.now.buffer.now in
    let e = document_entry (entry_of buffer c.in-Some.entry.now) in
    let behind = entries_of (items_of buffer c.in-Some.behind.now) in
    let parts = line_added line (entries_of (items_of buffer c.loop-entry.rest.now)) behind e c.loop-entry.held.items c.add_line.new.lines.items _ (c.in-Some.ensures.entry buffer)
    c.in_ok-add_line.ensures (line_behind _ _ c.args.before.now _ _ (c.in_ok-head.ensures (fold e.name))) in
    goes_on _ _ c.add_line.new.lines.items (flat_map line behind) c.put_if_whole.new.held.items (g.W.Write.contents c.args.out.now) (g.W.Write.contents c.loop-entry.out)
    (g.W.Write.contents c.put_if_whole.new.out) c.loop-entry.invariant parts c.in_ok-put_if_whole.ensures.given

pub returns : goal.returns
returns g c =
    let line = entry_line c.args.line.now c.args.before.now (shown c.args.section.now) in
    let held = c.loop-entry.held.items in
    subst (λ left. HasUpTo (c.args.held.now.items ++ section_lines c.args.line.now c.args.before.now (shown c.args.section.now)) left (g.W.Write.contents c.args.out.now) (g.W.Write.contents c.loop-entry.out))
    (ap (λ es. held ++ flat_map line es) (c.in_default.ensures.entry c.args.section.now.buffer.now) ∙ append-nil held)
    c.loop-entry.invariant
