use Rattle.std.proofs.Common.{◌+◌, ◌<◌, ◌≤◌, ◌∙◌, arith, length, drop, sym, subst}
use Rattle.std.proofs.lemmas.List.{length-drop, drop_all}
use Rattle.gitconf_glob.proofs.Closing.{other_byte}
use Rattle.gitconf_glob.proofs.RowLemmas.{rest_is, at_end}
use Rattle.gitconf_glob.proofs.Passing.{text_ends, front_stops, front_goes_on}
use Rattle.gitconf_glob.proofs.Cutting.{matches_is}
use Rattle.gitconf_glob.proofs.matcher.wildmatch.Goals as goal

pub loop-i-init : goal.loop-i-init
loop-i-init c = record {
  pattern_within = omega arith;
  text_within = omega arith;
  same = matches_is c.args.ignore_case c.args.pattern.now c.args.text.now;
}

pub returns-then-j-text : goal.returns-then-j-text
returns-then-j-text c =
    sym (text_ends c.args.ignore_case c.args.pattern.now (drop c.loop-i.j c.args.text.now) c.loop-i.i c.loop-i-test.true (other_byte _ 42 c.if-pattern-i-eq42.false)
    (drop_all c.loop-i.j c.args.text.now (omega (arith, c.if-j-text.true))))
    ∙ c.loop-i.invariant.same

pub returns-in-None : goal.returns-in-None
returns-in-None c =
    sym (front_stops c.args.ignore_case c.args.pattern.now c.args.text.now _ c.loop-i.i c.loop-i.j c.loop-i-test.true (omega (arith, c.if-j-text.false, c.loop-i.invariant.text_within))
    (other_byte _ 42 c.if-pattern-i-eq42.false) (rest_is c.args.pattern.now (c.loop-i.i + 1)) (sym c.in-None.ensures.value))
    ∙ c.loop-i.invariant.same

pub loop-i-preserved : goal.loop-i-preserved
loop-i-preserved c =
    let rest = rest_is c.args.pattern.now (c.loop-i.i + 1) in
    let small : c.in-Some.more ≤ length (drop (c.loop-i.i + 1) c.args.pattern.now) = subst (λ r. c.in-Some.more ≤ length r) rest c.in-Some.ensures.within in
    let text_within : c.loop-i.j < length c.args.text.now = omega (arith, c.if-j-text.false, c.loop-i.invariant.text_within) in
    record {
      pattern_within = omega (arith, small, c.loop-i-test.true, length-drop (c.loop-i.i + 1) c.args.pattern.now);
      text_within = omega (arith, text_within);
      same = sym (front_goes_on c.args.ignore_case c.args.pattern.now c.args.text.now _ c.loop-i.i c.loop-i.j c.in-Some.more c.loop-i-test.true text_within
          (other_byte _ 42 c.if-pattern-i-eq42.false) rest (sym c.in-Some.ensures.value))
          ∙ c.loop-i.invariant.same;
    }

pub returns : goal.returns
returns c = at_end c.args.ignore_case c.args.pattern.now c.args.text.now c.loop-i.i c.loop-i.j (omega (arith, c.loop-i-test.false)) c.loop-i.invariant.pattern_within c.loop-i.invariant.text_within
    ∙ c.loop-i.invariant.same
