use Rattle.std.proofs.Common.{◌≡◌, ◌<◌, length, slice_index, ◌∙◌, arith}
use Rattle.std.proofs.lemmas.List.{length-map, length-set}
use Rattle.gitconf_sections.specs.Rows.{numbers_in}
use Rattle.gitconf_sections.proofs.TableLemmas.{placed_more}
use Rattle.gitconf_sections.proofs.RowLemmas.{row_number}
use Rattle.gitconf_sections.proofs.sections.relocate.Goals as goal

pub index_mut-requires : goal.index_mut-requires
index_mut-requires c =
    let rows = c.args.rows.now.items in
    let within : c.loop-at.at < length rows = omega (arith, c.loop-at-test.true, c.len-at-end.ensures, c.args.rows.now.ok) in
    let number : c.id.inside.number ≡ slice_index (numbers_in rows) c.loop-at.at = c.id.view_is ∙ row_number rows c.loop-at.at c.index-row.result.now within c.index-row.ensures in
    let below = c.requires.within c.loop-at.at (omega (arith, within, length-map rows (λ r. r.id))) in
    omega (arith, number, below, c.loop-at.invariant.len, c.loop-at.places.ok)

pub loop-at-preserved : goal.loop-at-preserved
loop-at-preserved c =
    let rows = c.args.rows.now.items in
    let within : c.loop-at.at < length rows = omega (arith, c.loop-at-test.true, c.len-at-end.ensures, c.args.rows.now.ok) in
    let number : c.id.inside.number ≡ slice_index (numbers_in rows) c.loop-at.at = c.id.view_is ∙ row_number rows c.loop-at.at c.index-row.result.now within c.index-row.ensures in
    let below = c.requires.within c.loop-at.at (omega (arith, within, length-map rows (λ r. r.id))) in
    record {
      placed = placed_more (numbers_in rows) c.loop-at.places.items c.loop-at.at c.id.inside.number number (omega (arith, within, length-map rows (λ r. r.id))) (omega (arith, number, below, c.loop-at.invariant.len)) c.requires.once c.loop-at.invariant.placed;
      len = length-set c.loop-at.places.items c.id.inside.number c.loop-at.at ∙ c.loop-at.invariant.len;
      within = omega (arith, within, length-map rows (λ r. r.id));
    }
