use Rattle.gitconf_read.proofs.Whole.{reading, only_reading}
use Rattle.gitconf_read.proofs.reading.read.Goals as goal

pub returns-clause-found : goal.returns-clause-found
returns-clause-found c =
    reading _ c.mark_len.result _ _ c.mark_len.ensures.line c.mark_len.ensures.inside c.mark_len.ensures.unmarked (rw c.requires.empty at c.parts.ensures)

pub returns-clause-only : goal.returns-clause-only
returns-clause-only c = only_reading _ c.mark_len.result _ _ c.mark_len.ensures.unmarked (rw c.requires.empty at c.parts.ensures)
