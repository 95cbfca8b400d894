use Rattle.gixcfg_files.proofs.Making.{replaced_on}
use Rattle.gixcfg_files.proofs.place.Edit.carry_out.Goals as goal

pub returns-in_default-Done : goal.returns-in_default-Done
returns-in_default-Done g c = λ done. replaced_on _ _ _ _ _ _ _ c.remove_left_drafts.ensures (c.in_ok-changed.ensures c.in_default-Done.is-1)
