use Rattle.std.proofs.Common.{rules}
use Rattle.gix_config_c.proofs.loading.gix_config_resolve_includes_told.Goals.{in-File, in_default-deref_mut}
use Rattle.gix_config_c.proofs.loading.gix_config_resolve_includes_told.Goals as goal

-- by what the handle has
pub returns-clause-answer : goal.returns-clause-answer
returns-clause-answer c = elim c.match-deref_mut.branch [ in-File w ↦ search rules | in_default-deref_mut w ↦ search rules ]
