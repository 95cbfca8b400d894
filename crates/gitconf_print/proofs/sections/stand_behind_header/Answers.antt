use Rattle.gitconf_print.proofs.SectionTexts.{behind_header_is}
use Rattle.gitconf_print.proofs.sections.stand_behind_header.Goals as goal

pub returns-else-is_empty : goal.returns-else-is_empty
returns-else-is_empty c = λ buffer line_end. behind_header_is line_end buffer c.args.items.now _ c.if-is_empty.ensures (c.begins_on_a_line.ensures buffer)
