use Rattle.std.proofs.Common.{◌+◌, ◌-◌, ◌∙◌, ap, sym, map, arith, length-set}
use Rattle.gitconf_glob.specs.Places.{all_known, shown}
use Rattle.gitconf_glob.proofs.Telling.{places_from}
use Rattle.std.specs.Prelude.{vec_items}
use Rattle.gitconf_glob.proofs.RowLemmas.{last_filled, row_filled, rest_is}
use Rattle.gitconf_glob.proofs.table.fill_rows.Goals as goal

pub loop-i-init : goal.loop-i-init
loop-i-init c = record {
  within = omega arith;
  count = length-set _ _ _ ∙ c.in_ok-rows.ensures;
  same = last_filled vec_items c.in_ok-rows.rows.items c.in_ok-rows-2.field-0 c.args.ignore_case _ c.args.pattern.now c.args.text.now c.in_ok-rows.ensures c.in_ok-rows-2.ensures;
}

pub loop-i-preserved : goal.loop-i-preserved
loop-i-preserved c = record {
  within = omega (arith, c.loop-i.invariant.within);
  count = length-set _ _ _ ∙ c.loop-i.invariant.count;
  same = row_filled vec_items c.loop-i.rows.items c.in_ok-rows-3.field-0 c.args.ignore_case c.args.fresh c.is_fresh_at-fresh_here.result c.args.pattern.now _ c.args.text.now
      (c.loop-i.i - 1) c.loop-i.i (omega (arith, c.loop-i-test.true)) (omega (arith, c.loop-i-test.true, c.loop-i.invariant.within)) c.loop-i.invariant.count c.loop-i.invariant.same
      c.is_fresh_at-fresh_here.ensures (rest_is c.args.pattern.now (c.loop-i.i - 1 + 1)) c.in_ok-rows-3.ensures;
}

pub pattern_row-requires-clause-places : goal.pattern_row-requires-clause-places
pattern_row-requires-clause-places c =
    ap (map shown) (rest_is c.args.places.now (c.loop-i.i - 1 + 1))
    ∙ places_from shown c.args.places.now c.args.ignore_case c.args.text.now c.args.pattern.now (c.loop-i.i - 1 + 1)
    (omega (arith, c.loop-i-test.true, c.loop-i.invariant.within)) c.requires.places
    ∙ sym (ap (all_known c.args.ignore_case c.args.text.now) (rest_is c.args.pattern.now (c.loop-i.i - 1 + 1)))
