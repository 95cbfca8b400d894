use Rattle.std.proofs.Common.{rules, inr}
use Rattle.folder_replay.proofs.memory.Memory.move_at.Goals as goal

pub returns-then-fails-2-clause-moved : goal.returns-then-fails-2-clause-moved
returns-then-fails-2-clause-moved c = inr (c.in_ok-old_name.old_name, c.in_ok-new_name.new_name, search rules, search rules, search rules)

pub returns-clause-moved : goal.returns-clause-moved
returns-clause-moved c = (c.in_ok-old_name.old_name, c.in_ok-new_name.new_name, search rules, search rules, search rules)
