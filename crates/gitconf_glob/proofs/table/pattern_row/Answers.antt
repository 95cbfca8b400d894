use Rattle.std.proofs.Common.{◌≡◌, sym, subst}
use Rattle.std.specs.Prelude.{IfOk, map, vec_items}
use Rattle.gitconf_glob.specs.Shapes.{front_of, FitsIn}
use Rattle.gitconf_glob.specs.Cells.{AreLong}
use Rattle.gitconf_glob.specs.Cursor.{one_of}
use Rattle.gitconf_glob.proofs.RowLemmas.{below_count, rows_long, row_from}
use Rattle.gitconf_glob.proofs.Telling.{bracket_front, bracket_fits}
use Rattle.gitconf_glob.proofs.table.pattern_row.Goals as goal

pub row_of-requires-clause-fits : goal.row_of-requires-clause-fits
row_of-requires-clause-fits c = subst (λ n. FitsIn n (front_of c.read_front-shape.result))
    (below_count vec_items c.args.below.now c.args.ignore_case _ c.args.rest.now c.args.text.now c.requires.below) c.read_front-shape.ensures.within

pub row_of-requires-clause-long : goal.row_of-requires-clause-long
row_of-requires-clause-long c = subst (AreLong c.args.text.now) (sym c.requires.below) (rows_long c.args.ignore_case _ c.args.rest.now c.args.text.now)

pub bracket_row-requires-clause-count : goal.bracket_row-requires-clause-count
bracket_row-requires-clause-count c = sym (below_count vec_items c.args.below.now c.args.ignore_case _ c.args.rest.now c.args.text.now c.requires.below)

pub bracket_row-requires-clause-long : goal.bracket_row-requires-clause-long
bracket_row-requires-clause-long c = subst (AreLong c.args.text.now) (sym c.requires.below) (rows_long c.args.ignore_case _ c.args.rest.now c.args.text.now)

pub returns-else-first-eq91 : goal.returns-else-first-eq91
returns-else-first-eq91 c = subst (λ cs. IfOk c.row_of.result (λ row. row.items ≡ cs))
    (row_from c.args.ignore_case c.args.fresh c.args.first c.args.rest.now c.args.text.now (front_of c.read_front-shape.result) (map vec_items c.args.below.now)
    c.read_front-shape.ensures.value c.read_front-shape.ensures.within c.requires.below)
    c.row_of.ensures

pub returns-then-first-eq91 : goal.returns-then-first-eq91
returns-then-first-eq91 c = subst (λ cs. IfOk c.bracket_row.result (λ row. row.items ≡ cs))
    (row_from c.args.ignore_case c.args.fresh c.args.first c.args.rest.now c.args.text.now (one_of c.args.rest.now) (map vec_items c.args.below.now)
    (bracket_front c.args.fresh c.args.first c.args.rest.now c.if-first-eq91.true) (bracket_fits c.args.rest.now) c.requires.below)
    c.bracket_row.ensures
