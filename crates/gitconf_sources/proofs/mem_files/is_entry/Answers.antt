use Rattle.std.proofs.Common.{◌∙◌}
use Rattle.gitconf_sources.proofs.InMemoryLemmas.{is_entry_at}
use Rattle.gitconf_sources.proofs.mem_files.is_entry.Goals as goal

pub returns : goal.returns
returns c = c.contains_key.ensures ∙ is_entry_at c.args.path.now c.args.files.now.entries
