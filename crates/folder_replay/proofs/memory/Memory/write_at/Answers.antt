use Rattle.std.proofs.Common.{rules, inr}
use Rattle.folder_replay.proofs.memory.Memory.write_at.Goals as goal

pub returns-then-fails-clause-written : goal.returns-then-fails-clause-written
returns-then-fails-clause-written c = inr (c.in_ok-at.at, c.in_ok-half.half, search rules, search rules)

pub returns-clause-written : goal.returns-clause-written
returns-clause-written c = (c.in_ok-at.at, c.in_ok-whole.whole, search rules, search rules, search rules)
