use Rattle.std.proofs.Common.{refl}
use Rattle.gitconf_sections.proofs.LinkLemmas.{words_set}
use Rattle.gitconf_sections.proofs.index.moving.lead_back.Goals as goal

pub returns-then-at-links-clause-words : goal.returns-then-at-links-clause-words
returns-then-at-links-clause-words c = words_set c.args.links.now _ _ refl
