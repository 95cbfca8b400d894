use Rattle.gitconf_sections.specs.Section.{viewed}
use Rattle.gitconf_store.proofs.Files.AppendedFiles.{kept_there}
use Rattle.gitconf_store.proofs.store.append.items_at.Goals as goal

pub returns-else-is_empty : goal.returns-else-is_empty
returns-else-is_empty c = kept_there c.args.front.now c.args.sections.now.entries c.args.at (viewed c.at.result) c.at.ensures
