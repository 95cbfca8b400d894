use Rattle.gitconf_items.specs.Items.{tokens_in}
use Rattle.gitconf_print.proofs.Newlines.{line_end_of-first, file_line_end-first}
use Rattle.gitconf_print.proofs.laws.line_ends_are_told.Goals as goal

pub returns-clause-section : goal.returns-clause-section
returns-clause-section c = λ s. line_end_of-first (tokens_in s.items)

pub returns-clause-file : goal.returns-clause-file
returns-clause-file c = file_line_end-first
