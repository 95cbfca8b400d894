use Rattle.std.proofs.Common.{◌∙◌}
use Rattle.gitconf_text.specs.LineEnds.{bytes_of_line_end}
use Rattle.gitconf_store.proofs.Files.AppendedFiles.{included_at}
use Rattle.gitconf_body.proofs.Outcomes.{on_ok}
use Rattle.gitconf_store.proofs.store.Store.include.Goals as goal

pub returns-clause-ok : goal.returns-clause-ok
returns-clause-ok c = on_ok c.put_at.result (λ put. put ∙ included_at c.args.position (bytes_of_line_end c.args.line_end) c.args.other c.args.self.now c.requires) c.put_at.ensures.ok
