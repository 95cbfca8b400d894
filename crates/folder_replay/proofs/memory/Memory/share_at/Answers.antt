use Rattle.std.proofs.Common.{rules}
use Rattle.folder_replay.proofs.memory.Memory.share_at.Goals as goal

pub returns-clause-shared : goal.returns-clause-shared
returns-clause-shared c = (c.in_ok-source.source, c.in_ok-target.target, search rules, search rules, search rules)
