use Rattle.gixcfg_core.specs.GitReading.{entries_left}
use Rattle.gixcfg_commands.proofs.beside_git.is_behind_front.Given as goal

abbrev pub decreases-loop-walk : goal.decreases-loop-walk
decreases-loop-walk l = entries_left l.walk
