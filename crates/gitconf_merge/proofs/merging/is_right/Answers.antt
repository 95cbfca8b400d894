use Rattle.std.proofs.Common.{List, subst, sym}
use Rattle.gitconf_state.specs.State.{AreNumbered, SectionState}
use Rattle.gitconf_merge.proofs.merging.is_right.Goals as goal

pub differences_of-requires-clause-one_numbered : goal.differences_of-requires-clause-one_numbered
differences_of-requires-clause-one_numbered c =
    (c.args.made.now.next, subst (λ (sections : List SectionState). AreNumbered c.args.made.now.next sections) (sym c.sections.ensures.left) c.sections.ensures.state.numbers)

pub differences_of-requires-clause-other_numbered : goal.differences_of-requires-clause-other_numbered
differences_of-requires-clause-other_numbered c =
    (c.args.judge.now.ours.now.next, subst (λ (sections : List SectionState). AreNumbered c.args.judge.now.ours.now.next sections) (sym c.sections-2.ensures.left) c.sections-2.ensures.state.numbers)

pub differences_of-requires-2-clause-one_numbered : goal.differences_of-requires-2-clause-one_numbered
differences_of-requires-2-clause-one_numbered c =
    (c.args.made.now.next, subst (λ (sections : List SectionState). AreNumbered c.args.made.now.next sections) (sym c.sections-3.ensures.left) c.sections-3.ensures.state.numbers)

pub differences_of-requires-2-clause-other_numbered : goal.differences_of-requires-2-clause-other_numbered
differences_of-requires-2-clause-other_numbered c =
    (c.args.judge.now.theirs.now.next, subst (λ (sections : List SectionState). AreNumbered c.args.judge.now.theirs.now.next sections) (sym c.sections-4.ensures.left) c.sections-4.ensures.state.numbers)
