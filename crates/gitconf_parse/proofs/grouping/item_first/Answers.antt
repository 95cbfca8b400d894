use Rattle.std.proofs.Common.{length, subst}
use Rattle.gitconf_items.specs.Events.{EventFits}
use Rattle.gitconf_parse.proofs.grouping.item_first.Goals as goal

pub returns-in_ok-try_new-in-SectionValueName-clause-first : goal.returns-in_ok-try_new-in-SectionValueName-clause-first
returns-in_ok-try_new-in-SectionValueName-clause-first c =
    c.in_ok-try_new-in-SectionValueName.ensures.fits (length c.args.buffer.now)
    (subst (EventFits (length c.args.buffer.now)) c.in-SectionValueName.is c.requires.first_within, c.blanks_first.ensures.first, c.in_ok-assigned-in-SectionValueName.ensures.first)
