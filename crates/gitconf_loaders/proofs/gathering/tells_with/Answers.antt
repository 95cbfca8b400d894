use Rattle.std.proofs.Common.{ap, ◌∙◌}
use Rattle.std.specs.Prelude.{is_some}
use Rattle.gitconf_text.specs.LineEnds.{bytes_of_line_end}
use Rattle.gitconf_loaders.proofs.Gathered.{some_made}
use Rattle.gitconf_loaders.proofs.gathering.tells_with.Goals as goal

pub returns-else-told : goal.returns-else-told
returns-else-told c = rw c.if-told.false (c.is_some.ensures ∙ some_made bytes_of_line_end c.first_line_end.result ∙ ap is_some c.first_line_end.ensures)
