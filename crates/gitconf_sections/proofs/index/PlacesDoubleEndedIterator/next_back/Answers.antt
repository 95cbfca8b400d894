use Rattle.std.proofs.Common.{◌-◌, sym, ◌∙◌, arith}
use Rattle.gitconf_sections.proofs.Places.{back_taken, back_passed, walked_back, behind_less, fewer}
use Rattle.gitconf_sections.proofs.index.PlacesDoubleEndedIterator.next_back.Goals as goal

pub invariant_of-self-then-link-self : goal.invariant_of-self-then-link-self
invariant_of-self-then-link-self c =
    (c.loop-self.invariant.walk.0, walked_back _ _ _ _ _ _ (omega (arith, c.loop-self-test.true)) c.loop-self.invariant.walk.1 c.loop-self-test.true)

pub returns-then-link-self-clause-steps : goal.returns-then-link-self-clause-steps
returns-then-link-self-clause-steps c =
    sym c.self.view_is ∙ sym c.loop-self.invariant.left
    ∙ back_taken _ _ _ _ _ _ (omega (arith, c.loop-self-test.true)) c.loop-self.invariant.walk.1 c.loop-self-test.true c.if-link-self.true

pub returns-then-link-self-clause-goes : goal.returns-then-link-self-clause-goes
returns-then-link-self-clause-goes c =
    rw (sym c.self.view_is ∙ sym c.loop-self.invariant.left
    ∙ back_taken _ _ _ _ _ _ (omega (arith, c.loop-self-test.true)) c.loop-self.invariant.walk.1 c.loop-self-test.true c.if-link-self.true)
    (record { on = λ _. (tt, tt, fewer _ _); keeps = tt; rests = λ _. tt })

pub loop-self-smaller : goal.loop-self-smaller
loop-self-smaller c =
    let p = c.loop-self.self-inside in
    let less = behind_less c.loop-self.invariant.walk.0 p.links.now p.word p.front (p.behind - 1) p.behind (omega (arith, c.loop-self-test.true)) c.loop-self.invariant.walk.1 c.loop-self-test.true in
    omega (arith, less, c.loop-self-test.true)

pub loop-self-preserved : goal.loop-self-preserved
loop-self-preserved c = record {
  left = sym (back_passed _ _ _ _ _ _ (omega (arith, c.loop-self-test.true)) c.loop-self.invariant.walk.1 c.loop-self-test.true c.if-link-self.false) ∙ c.loop-self.invariant.left;
  walk = (c.loop-self.invariant.walk.0, walked_back _ _ _ _ _ _ (omega (arith, c.loop-self-test.true)) c.loop-self.invariant.walk.1 c.loop-self-test.true);
}
