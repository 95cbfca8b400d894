use Rattle.std.proofs.Common.{rules, inr}
use Rattle.folder_replay.proofs.memory.Memory.remove_at.Goals as goal

pub returns-then-fails-2-clause-removed : goal.returns-then-fails-2-clause-removed
returns-then-fails-2-clause-removed c = inr (c.in_ok-at.at, search rules, search rules)

pub returns-clause-removed : goal.returns-clause-removed
returns-clause-removed c = (c.in_ok-at.at, search rules, search rules)
