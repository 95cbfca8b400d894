use Rattle.std.proofs.Common.{refl}
use Rattle.gitconf_sections.proofs.LinkLemmas.{words_set}
use Rattle.gitconf_sections.proofs.index.lead.Goals as goal

pub returns-then-behind-gt0-clause-words : goal.returns-then-behind-gt0-clause-words
returns-then-behind-gt0-clause-words c = words_set c.args.links.now _ _ refl
