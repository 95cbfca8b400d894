use Rattle.std.proofs.Common.{arith}
use Rattle.gixcfg_replacing.proofs.logged.LoggedFolder.new.Goals as goal

pub put-requires-2 : goal.put-requires-2
put-requires-2 g c = omega (arith, c.put.ensures.room 31 c.in_ok-reserve.ensures.ok)

pub put-requires-3 : goal.put-requires-3
put-requires-3 g c = omega (arith, c.put-2.ensures.room 30 (c.put.ensures.room 31 c.in_ok-reserve.ensures.ok))
