use Rattle.gixcfg_files.proofs.Acting.{open_grows, read_grows, grows_on}
use Rattle.gixcfg_files.proofs.folder.read_at.Goals as goal

pub returns-in_err-read-in-Ok : goal.returns-in_err-read-in-Ok
returns-in_err-read-in-Ok g c = record { grows = grows_on _ _ _ (open_grows _ _ _ c.open.result c.open.ensures) (read_grows _ _ _ c.read.result c.read.ensures) }

pub returns-in_ok-read-in-Ok : goal.returns-in_ok-read-in-Ok
returns-in_ok-read-in-Ok g c = record { grows = grows_on _ _ _ (open_grows _ _ _ c.open.result c.open.ensures) (read_grows _ _ _ c.read.result c.read.ensures) }
