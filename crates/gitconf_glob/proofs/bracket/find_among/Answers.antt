use Rattle.std.proofs.Common.{◌≡◌, ℕ, ◌+◌, ◌<◌, ◌∙◌, false, get_or, refl, sym, ap, subst, arith, length, drop, rules}
use Rattle.std.specs.Prelude.{◌&&◌, ◌==◌, not}
use Rattle.std.proofs.lemmas.List.{length-drop, drop-drop, get_or-drop}
use Rattle.gitconf_glob.specs.Counted.{close_from, member, members, among}
use Rattle.gitconf_glob.proofs.RowLemmas.{rest_is}
use Rattle.gitconf_glob.proofs.Members.{among_so_far, one_so_far}
use Rattle.gitconf_glob.proofs.bracket.find_among.Goals as goal

pub loop-i-preserved : goal.loop-i-preserved
loop-i-preserved c =
    let rest = rest_is c.args.text.now c.loop-i.i in
    let more = c.in_ok-member.more in
    let small : more < length (drop c.loop-i.i c.args.text.now) = subst (λ r. more < length r) rest c.in_ok-member.ensures.within in
    let long = length-drop c.loop-i.i c.args.text.now in
    let further : drop (more + 1) (drop c.loop-i.i c.args.text.now) ≡ drop (c.loop-i.i + (more + 1)) c.args.text.now = drop-drop (more + 1) c.loop-i.i c.args.text.now in
    record {
      within = omega (arith, small, long, c.loop-i-test.true);
      close = c.close_past-close.ensures ∙ ap (λ r. close_from 0 (drop (more + 1) r)) rest ∙ ap (close_from 0) further;
      same = ap (λ r. among_so_far c.either-has.result (c.loop-i.i + (more + 1)) (among c.args.ignore_case c.args.b (members (c.loop-i.i + (more + 1) == 0) 0 r))) (sym further)
          ∙ ap (λ f. among_so_far c.either-has.result (c.loop-i.i + (more + 1)) (among c.args.ignore_case c.args.b (members f 0 (drop (more + 1) (drop c.loop-i.i c.args.text.now))))) (not_first c.loop-i.i more)
          ∙ one_so_far c.args.ignore_case c.loop-i.has c.either-has.result c.args.b c.loop-i.i (c.loop-i.i + (more + 1)) more (c.loop-i.i == 0) (drop c.loop-i.i c.args.text.now) c.in_ok-member.member
          (omega (arith, long, c.loop-i-test.true))
          (ap (λ x. x == 93 && not (c.loop-i.i == 0)) (get_or-drop c.loop-i.i c.args.text.now 0 0 ∙ ap (λ k. get_or c.args.text.now k 0) (omega arith)) ∙ sym c.closes.ensures ∙ c.if-closes.false)
          (ap member (sym rest) ∙ sym c.in_ok-member.ensures.value) (c.either-has.ensures ∙ search rules) refl
          ∙ c.loop-i.invariant.same;
    }
  where
    not_first : (i more : ℕ) → (i + (more + 1) == 0) ≡ false
    not_first i more = search rules
