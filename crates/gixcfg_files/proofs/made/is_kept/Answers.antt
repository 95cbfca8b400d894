use Rattle.gixcfg_files.proofs.Acting.{grows_on, hold_grows, looks_grow}
use Rattle.gixcfg_files.proofs.made.is_kept.Goals as goal

pub returns-in-Ok-true-matches-clause-grows : goal.returns-in-Ok-true-matches-clause-grows
returns-in-Ok-true-matches-clause-grows g c = grows_on _ _ _ (hold_grows _ _ _ c.hold.result c.hold.ensures) (looks_grow _ _ _ _ c.is_at.result c.is_at.ensures.looks)

pub returns-in_default-matches-clause-grows : goal.returns-in_default-matches-clause-grows
returns-in_default-matches-clause-grows g c = grows_on _ _ _ (hold_grows _ _ _ c.hold.result c.hold.ensures) (looks_grow _ _ _ _ c.is_at.result c.is_at.ensures.looks)

pub returns-in_default-matches-2-clause-grows : goal.returns-in_default-matches-2-clause-grows
returns-in_default-matches-2-clause-grows g c = grows_on _ _ _ (hold_grows _ _ _ c.hold.result c.hold.ensures) (looks_grow _ _ _ _ c.is_at.result c.is_at.ensures.looks)
