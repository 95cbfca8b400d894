use Rattle.std.proofs.Common.{ap, ◌∙◌}
use Rattle.gitconf_text.specs.LineEnds.{bytes_of_line_end}
use Rattle.gitconf_store.specs.Appends.{kept_at, line_at}
use Rattle.gitconf_store.proofs.Files.AppendedFiles.{line_told}
use Rattle.gitconf_store.proofs.store.Store.line_at.Goals as goal

pub returns-then-parts_lines-clause-bytes : goal.returns-then-parts_lines-clause-bytes
returns-then-parts_lines-clause-bytes c =
    let here = c.self.inside in
    let there = c.other.inside in
    let line_end = bytes_of_line_end c.args.line_end in
    let told = line_told c.args.at here.buffer.items there.buffer.items here.front.items there.front.items c.items_at-items.result.now here.meta.value there.meta.value here.sections there.sections line_end c.parts_lines.result
    (c.items_at-items.ensures ∙ ap (λ f. kept_at c.args.at f here.sections.entries) c.deref.ensures)
    (rw (c.deref-2.ensures.value, c.deref-3.ensures.value, c.deref-4.ensures) at c.parts_lines.ensures) in
    c.as_bytes.ensures ∙ (rw c.if-parts_lines.true at told) ∙ (λ i. line_at c.args.at line_end (c.other.view_is i) (c.self.view_is i))

pub returns-else-parts_lines-clause-bytes : goal.returns-else-parts_lines-clause-bytes
returns-else-parts_lines-clause-bytes c =
    let here = c.self.inside in
    let there = c.other.inside in
    let line_end = bytes_of_line_end c.args.line_end in
    let told = line_told c.args.at here.buffer.items there.buffer.items here.front.items there.front.items c.items_at-items.result.now here.meta.value there.meta.value here.sections there.sections line_end c.parts_lines.result
    (c.items_at-items.ensures ∙ ap (λ f. kept_at c.args.at f here.sections.entries) c.deref.ensures)
    (rw (c.deref-2.ensures.value, c.deref-3.ensures.value, c.deref-4.ensures) at c.parts_lines.ensures) in
    (rw c.if-parts_lines.false at told) ∙ (λ i. line_at c.args.at line_end (c.other.view_is i) (c.self.view_is i))
