use Rattle.std.proofs.Common.{sym, ◌∙◌, rules}
use Rattle.gitconf_sections.proofs.Places.{left_taken, left_passed, walk_front}
use Rattle.gitconf_sections.proofs.index.PlacesIterator.next.Goals as goal

pub returns-then-link-self-clause-steps : goal.returns-then-link-self-clause-steps
returns-then-link-self-clause-steps c =
    sym c.self.view_is ∙ sym c.loop-self.invariant.left
    ∙ left_taken _ _ _ _ _ c.loop-self.invariant.walk.1 c.loop-self-test.true c.if-link-self.true

pub returns-then-link-self-clause-goes : goal.returns-then-link-self-clause-goes
returns-then-link-self-clause-goes c =
    rw (sym c.self.view_is ∙ sym c.loop-self.invariant.left
    ∙ left_taken _ _ _ _ _ c.loop-self.invariant.walk.1 c.loop-self-test.true c.if-link-self.true) (search rules)

pub loop-self-preserved : goal.loop-self-preserved
loop-self-preserved c = record {
  left = sym (left_passed _ _ _ _ _ c.loop-self.invariant.walk.1 c.loop-self-test.true c.if-link-self.false) ∙ c.loop-self.invariant.left;
  walk = (c.loop-self.invariant.walk.0, walk_front _ _ _ _ _ c.loop-self.invariant.walk.1 c.loop-self-test.true);
}
