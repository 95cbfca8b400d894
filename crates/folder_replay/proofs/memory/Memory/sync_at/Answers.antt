use Rattle.std.proofs.Common.{rules}
use Rattle.folder_replay.proofs.memory.Memory.sync_at.Goals as goal

pub returns-clause-synced : goal.returns-clause-synced
returns-clause-synced c = (c.in_ok-at.at, search rules, search rules)
