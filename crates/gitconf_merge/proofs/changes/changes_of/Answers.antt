use Rattle.std.proofs.Common.{List, subst, sym}
use Rattle.gitconf_state.specs.State.{AreNumbered, SectionState}
use Rattle.gitconf_merge.proofs.changes.changes_of.Goals as goal

pub differences_of-requires-clause-one_numbered : goal.differences_of-requires-clause-one_numbered
differences_of-requires-clause-one_numbered c =
    (c.args.base.now.next, subst (λ (sections : List SectionState). AreNumbered c.args.base.now.next sections) (sym c.sections.ensures.left) c.sections.ensures.state.numbers)

pub differences_of-requires-clause-other_numbered : goal.differences_of-requires-clause-other_numbered
differences_of-requires-clause-other_numbered c =
    (c.args.ours.now.next, subst (λ (sections : List SectionState). AreNumbered c.args.ours.now.next sections) (sym c.sections-2.ensures.left) c.sections-2.ensures.state.numbers)

pub differences_of-requires-2-clause-one_numbered : goal.differences_of-requires-2-clause-one_numbered
differences_of-requires-2-clause-one_numbered c =
    (c.args.base.now.next, subst (λ (sections : List SectionState). AreNumbered c.args.base.now.next sections) (sym c.sections-3.ensures.left) c.sections-3.ensures.state.numbers)

pub differences_of-requires-2-clause-other_numbered : goal.differences_of-requires-2-clause-other_numbered
differences_of-requires-2-clause-other_numbered c =
    (c.args.theirs.now.next, subst (λ (sections : List SectionState). AreNumbered c.args.theirs.now.next sections) (sym c.sections-4.ensures.left) c.sections-4.ensures.state.numbers)

pub differences_of-requires-3-clause-one_numbered : goal.differences_of-requires-3-clause-one_numbered
differences_of-requires-3-clause-one_numbered c =
    (c.args.ours.now.next, subst (λ (sections : List SectionState). AreNumbered c.args.ours.now.next sections) (sym c.sections-5.ensures.left) c.sections-5.ensures.state.numbers)

pub differences_of-requires-3-clause-other_numbered : goal.differences_of-requires-3-clause-other_numbered
differences_of-requires-3-clause-other_numbered c =
    (c.args.theirs.now.next, subst (λ (sections : List SectionState). AreNumbered c.args.theirs.now.next sections) (sym c.sections-6.ensures.left) c.sections-6.ensures.state.numbers)
