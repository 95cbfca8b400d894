use Rattle.std.proofs.Common.{◌+◌, ◌-◌, ◌∷◌, ◌∙◌, get_or, ap, sym, refl, arith, length, drop, length-set, map}
use Rattle.std.proofs.Math.Seq.{drop-length}
use Rattle.std.proofs.lemmas.List.{drop_more, length-replicate}
use Rattle.gitconf_glob.specs.Counted.{close_from}
use Rattle.gitconf_glob.specs.Places.{told, shown}
use Rattle.gitconf_glob.proofs.RowLemmas.{rest_is}
use Rattle.gitconf_glob.proofs.Telling.{last_told, told_filled}
use Rattle.gitconf_glob.proofs.places.tell_places.Goals as goal

pub loop-i-init : goal.loop-i-init
unfolding close_from
loop-i-init c = record {
  within = omega arith;
  count = ap (λ xs. length xs) c.in_ok-places.ensures ∙ length-replicate _ _;
  close = sym (ap (close_from 0) (drop-length c.args.pattern.now));
  same = ap (λ xs. map shown (drop (length c.args.pattern.now) xs)) c.in_ok-places.ensures ∙ last_told shown c.args.ignore_case c.args.text.now c.args.pattern.now refl;
}

pub loop-i-preserved-in_ok-places-2 : goal.loop-i-preserved-in_ok-places-2
loop-i-preserved-in_ok-places-2 c = record {
  within = omega (arith, c.loop-i.invariant.within);
  count = length-set _ _ _ ∙ c.loop-i.invariant.count;
  close = c.close_with-close.ensures
      ∙ ap (λ rest. close_from 0 (get_or c.args.pattern.now (c.loop-i.i - 1) 0 ∷ rest)) (rest_is c.args.pattern.now (c.loop-i.i - 1 + 1))
      ∙ sym (ap (close_from 0) (drop_more c.args.pattern.now (c.loop-i.i - 1) 0 (omega (arith, c.loop-i-test.true, c.loop-i.invariant.within))));
  same = told_filled shown c.loop-i.places.items c.in_ok-places-2.field-0 c.args.ignore_case c.args.text.now c.args.pattern.now (c.loop-i.i - 1) c.loop-i.i
      (omega (arith, c.loop-i-test.true)) (omega (arith, c.loop-i-test.true, c.loop-i.invariant.within)) c.loop-i.invariant.count c.loop-i.invariant.same
      (c.in_ok-places-2.ensures ∙ ap (told c.args.ignore_case c.args.text.now) (rest_is c.args.pattern.now (c.loop-i.i - 1)));
}

pub loop-i-preserved : goal.loop-i-preserved
loop-i-preserved c = record {
  within = omega (arith, c.loop-i.invariant.within);
  count = length-set _ _ _ ∙ c.loop-i.invariant.count;
  close = c.close_with-close.ensures
      ∙ ap (λ rest. close_from 0 (get_or c.args.pattern.now (c.loop-i.i - 1) 0 ∷ rest)) (rest_is c.args.pattern.now (c.loop-i.i - 1 + 1))
      ∙ sym (ap (close_from 0) (drop_more c.args.pattern.now (c.loop-i.i - 1) 0 (omega (arith, c.loop-i-test.true, c.loop-i.invariant.within))));
  same = told_filled shown c.loop-i.places.items c.in_ok-places-2.field-0 c.args.ignore_case c.args.text.now c.args.pattern.now (c.loop-i.i - 1) c.loop-i.i
      (omega (arith, c.loop-i-test.true)) (omega (arith, c.loop-i-test.true, c.loop-i.invariant.within)) c.loop-i.invariant.count c.loop-i.invariant.same
      (c.in_ok-places-2.ensures ∙ ap (told c.args.ignore_case c.args.text.now) (rest_is c.args.pattern.now (c.loop-i.i - 1)));
}
