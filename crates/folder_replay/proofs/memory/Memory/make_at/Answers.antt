use Rattle.std.proofs.Common.{rules}
use Rattle.folder_replay.proofs.memory.Memory.make_at.Goals as goal

pub returns-clause-made : goal.returns-clause-made
returns-clause-made c = (search rules, (c.in_ok-at.at, search rules, search rules))
