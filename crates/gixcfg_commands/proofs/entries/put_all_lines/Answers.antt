use Rattle.std.proofs.Common.{◌≡◌, [], ◌∷◌, ◌++◌, append-nil, refl, rules, sym, ap, ◌∙◌}
use Rattle.std.specs.Prelude.{flat_map}
use Rattle.gitconf_views.specs.Views.{sections_left, shown}
use Rattle.gixcfg_core.proofs.Piecewise.{breaks_off, failed_whole, goes_on, line_added, put_rest}
use Rattle.gixcfg_core.specs.Entries.{section_lines}
use Rattle.gixcfg_commands.specs.Entries.{file_lines, lines_in}
use Rattle.gixcfg_commands.proofs.entries.put_all_lines.Goals as goal

pub returns-in_err-put_lines : goal.returns-in_err-put_lines
returns-in_err-put_lines g c =
    let lines = lines_in c.args.form.now c.args.read.now in
    let behind = flat_map lines (sections_left c.next.new.self) in
    let held = c.loop-section.held.items in
    let part_of = section_lines c.of_entries-line.result c.deref.result.now (shown c.in-Some.section) in
    let steps : sections_left c.loop-section.section-iterator ≡ shown c.in-Some.section ∷ sections_left c.next.new.self = c.in-Some.ensures.steps in
    let same : part_of ≡ lines (shown c.in-Some.section) = search rules in
    let parts = line_added lines (sections_left c.loop-section.section-iterator) (sections_left c.next.new.self) (shown c.in-Some.section) held (held ++ part_of) part_of steps refl same in
    failed_whole (file_lines c.args.form.now c.args.read.now c.args.file.now) c.from_residual-in_err-put_lines.result (g.W.Write.contents c.args.out.now) (g.W.Write.contents c.put_lines.new.out)
    c.from_residual-in_err-put_lines.ensures.0
    (breaks_off _ _ (held ++ part_of) behind (g.W.Write.contents c.args.out.now) (g.W.Write.contents c.loop-section.out) (g.W.Write.contents c.put_lines.new.out)
    c.loop-section.invariant parts c.in_err-put_lines.ensures)

pub loop-section-preserved : goal.loop-section-preserved
loop-section-preserved g c =
    let lines = lines_in c.args.form.now c.args.read.now in
    let behind = flat_map lines (sections_left c.next.new.self) in
    let held = c.loop-section.held.items in
    let part_of = section_lines c.of_entries-line.result c.deref.result.now (shown c.in-Some.section) in
    let steps : sections_left c.loop-section.section-iterator ≡ shown c.in-Some.section ∷ sections_left c.next.new.self = c.in-Some.ensures.steps in
    let same : part_of ≡ lines (shown c.in-Some.section) = search rules in
    let parts = line_added lines (sections_left c.loop-section.section-iterator) (sections_left c.next.new.self) (shown c.in-Some.section) held (held ++ part_of) part_of steps refl same in
    goes_on _ _ (held ++ part_of) behind c.put_lines.new.held.items (g.W.Write.contents c.args.out.now) (g.W.Write.contents c.loop-section.out) (g.W.Write.contents c.put_lines.new.out)
    c.loop-section.invariant parts c.in_ok-put_lines.ensures

pub returns : goal.returns
returns g c =
    let held = c.loop-section.held.items in
    let lines = lines_in c.args.form.now c.args.read.now in
    let none : sections_left c.loop-section.section-iterator ≡ [] = c.in-None.ensures.steps.0 in
    let rest = ap (λ ss. held ++ flat_map lines ss) none ∙ append-nil held ∙ sym c.deref-2.ensures.value in
    put_rest (file_lines c.args.form.now c.args.read.now c.args.file.now) _ c.deref-2.result.now c.put.result (g.W.Write.contents c.args.out.now) (g.W.Write.contents c.loop-section.out) (g.W.Write.contents c.put.new.out)
    c.loop-section.invariant rest c.put.ensures.given
