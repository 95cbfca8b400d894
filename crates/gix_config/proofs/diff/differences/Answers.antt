use Rattle.std.proofs.Common.{List, subst, sym}
use Rattle.gitconf_state.specs.State.{AreNumbered, SectionState}
use Rattle.gix_config.proofs.diff.differences.Goals as goal

pub differences_of-requires-clause-one_numbered : goal.differences_of-requires-clause-one_numbered
differences_of-requires-clause-one_numbered c =
    (c.args.one.now.next, subst (λ (sections : List SectionState). AreNumbered c.args.one.now.next sections) (sym c.sections.ensures.left) c.sections.ensures.state.numbers)

pub differences_of-requires-clause-other_numbered : goal.differences_of-requires-clause-other_numbered
differences_of-requires-clause-other_numbered c =
    (c.args.other.now.next, subst (λ (sections : List SectionState). AreNumbered c.args.other.now.next sections) (sym c.sections-2.ensures.left) c.sections-2.ensures.state.numbers)
