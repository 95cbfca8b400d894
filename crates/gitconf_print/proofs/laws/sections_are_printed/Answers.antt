use Rattle.gitconf_print.proofs.Printed.{spelled-items, printed_section-is, held_items-text, ends_with_line-both}
use Rattle.gitconf_print.proofs.laws.sections_are_printed.Goals as goal

pub returns-clause-items : goal.returns-clause-items
returns-clause-items c = spelled-items

pub returns-clause-section : goal.returns-clause-section
returns-clause-section c = printed_section-is

pub returns-clause-held : goal.returns-clause-held
returns-clause-held c = held_items-text

pub returns-clause-ended : goal.returns-clause-ended
returns-clause-ended c = ends_with_line-both
