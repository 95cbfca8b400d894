use Rattle.std.proofs.Common.{◌≡◌, ◌<◌, ◌≤◌, slice_index, length, ap, sym, ◌∙◌, arith}
use Rattle.std.proofs.lemmas.List.{get_or_read_under, length-map}
use Rattle.gitconf_sections.specs.Rows.{entries_of, entry_of_row}
use Rattle.gitconf_sections.proofs.RowLemmas.{entry_at}
use Rattle.gitconf_sections.proofs.TableLemmas.{not_written, past_rows, other_there, stands_there}
use Rattle.gitconf_sections.proofs.sections.SectionList.position.Goals as goal

pub returns-then-id-len-clause-place : goal.returns-then-id-len-clause-place
returns-then-id-len-clause-place c =
    let past : length c.self.inside.places.items ≤ c.args.id = omega (arith, c.if-id-len.true, c.len.ensures, c.self.inside.places.ok, c.id.view_is) in
    rw (← c.self.view_is) (sym (not_written c.self.inside.next c.args.id _ _ _ _ c.self.invariant.table past))

pub returns-then-at-len-clause-place : goal.returns-then-at-len-clause-place
returns-then-at-len-clause-place c =
    let letters = c.self.inside.letters.items in
    let list = c.self.inside.list.items in
    let rows = c.self.inside.rows.items in
    let at : c.index.result.now ≡ slice_index c.self.inside.places.items c.args.id =
    get_or_read_under _ _ c.len.result _ 0 c.index.ensures c.if-id-len.false (omega (arith, c.len.ensures, c.self.inside.places.ok)) ∙ ap (slice_index c.self.inside.places.items) c.id.view_is in
    let past : length (entries_of letters list rows) ≤ c.index.result.now = omega (arith, c.if-at-len.true, c.len-2.ensures, c.self.inside.rows.ok, length-map rows (entry_of_row letters list)) in
    rw (← c.self.view_is) (sym (past_rows c.self.inside.next c.args.id _ _ _ _ c.self.invariant.table c.index.result.now at past))

pub returns-then-eq-clause-place : goal.returns-then-eq-clause-place
returns-then-eq-clause-place c =
    let letters = c.self.inside.letters.items in
    let list = c.self.inside.list.items in
    let rows = c.self.inside.rows.items in
    let at : c.index.result.now ≡ slice_index c.self.inside.places.items c.args.id =
    get_or_read_under _ _ c.len.result _ 0 c.index.ensures c.if-id-len.false (omega (arith, c.len.ensures, c.self.inside.places.ok)) ∙ ap (slice_index c.self.inside.places.items) c.id.view_is in
    let within : c.index.result.now < length (entries_of letters list rows) = omega (arith, c.if-at-len.false, c.len-2.ensures, c.self.inside.rows.ok, length-map rows (entry_of_row letters list)) in
    let stands = entry_at letters list rows c.index.result.now c.index-row.result.now within c.index-row.ensures in
    rw (← c.self.view_is) (sym (stands_there c.self.inside.next c.args.id _ _ _ _ c.self.invariant.table c.index.result.now (entry_of_row letters list c.index-row.result.now) at stands (sym c.eq.ensures ∙ c.if-eq.true)))

pub returns-else-eq-clause-place : goal.returns-else-eq-clause-place
returns-else-eq-clause-place c =
    let letters = c.self.inside.letters.items in
    let list = c.self.inside.list.items in
    let rows = c.self.inside.rows.items in
    let at : c.index.result.now ≡ slice_index c.self.inside.places.items c.args.id =
    get_or_read_under _ _ c.len.result _ 0 c.index.ensures c.if-id-len.false (omega (arith, c.len.ensures, c.self.inside.places.ok)) ∙ ap (slice_index c.self.inside.places.items) c.id.view_is in
    let within : c.index.result.now < length (entries_of letters list rows) = omega (arith, c.if-at-len.false, c.len-2.ensures, c.self.inside.rows.ok, length-map rows (entry_of_row letters list)) in
    let stands = entry_at letters list rows c.index.result.now c.index-row.result.now within c.index-row.ensures in
    rw (← c.self.view_is) (sym (other_there c.self.inside.next c.args.id _ _ _ _ c.self.invariant.table c.index.result.now (entry_of_row letters list c.index-row.result.now) at stands (sym c.eq.ensures ∙ c.if-eq.false)))
