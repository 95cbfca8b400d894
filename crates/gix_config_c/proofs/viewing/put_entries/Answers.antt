use Rattle.std.proofs.Common.{sym, ◌∙◌}
use Rattle.gix_config_c.proofs.ViewLemmas.{none_laid}
use Rattle.gix_config_c.proofs.viewing.put_entries.Goals as goal

pub returns : goal.returns
returns c = sym (none_laid _ _ (c.in_default.ensures.entry c.args.section.now.buffer.now)) ∙ c.loop-entry.invariant
