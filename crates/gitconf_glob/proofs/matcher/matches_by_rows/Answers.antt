use Rattle.std.proofs.Common.{◌∙◌, arith, ap}
use Rattle.std.specs.Prelude.{map, vec_items}
use Rattle.gitconf_glob.proofs.RowLemmas.{below_count, first_cell, first_row_long}
use Rattle.gitconf_glob.proofs.matcher.matches_by_rows.Goals as goal

pub first_cell-requires-clause-some : goal.first_cell-requires-clause-some
first_cell-requires-clause-some c = omega (arith, below_count vec_items c.in_ok-rows.rows.items c.args.ignore_case c.args.fresh c.args.pattern.now c.args.text.now c.in_ok-rows.ensures)

pub first_cell-requires-clause-long : goal.first_cell-requires-clause-long
first_cell-requires-clause-long c = first_row_long c.args.ignore_case c.args.fresh c.args.pattern.now c.args.text.now _ (ap (map vec_items) c.deref.ensures.value ∙ c.in_ok-rows.ensures)

pub returns : goal.returns
returns c = c.first_cell.ensures ∙ first_cell c.args.ignore_case c.args.fresh c.args.pattern.now c.args.text.now _ (ap (map vec_items) c.deref.ensures.value ∙ c.in_ok-rows.ensures)
