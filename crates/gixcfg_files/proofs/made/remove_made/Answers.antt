use Rattle.gixcfg_files.proofs.Acting.{grows_on, looks_grow}
use Rattle.gixcfg_files.proofs.made.remove_made.Goals as goal

pub returns-in-Ok-true : goal.returns-in-Ok-true
returns-in-Ok-true g c = grows_on _ _ _ (looks_grow _ _ _ _ c.is_at.result c.is_at.ensures.looks) c.remove_there.ensures

pub returns-in-Ok-false : goal.returns-in-Ok-false
returns-in-Ok-false g c = looks_grow _ _ _ _ c.is_at.result c.is_at.ensures.looks

pub returns-in-Err : goal.returns-in-Err
returns-in-Err g c = grows_on _ _ _ (looks_grow _ _ _ _ c.is_at.result c.is_at.ensures.looks) c.remove_there-in-Err.ensures
