use Rattle.gixcfg_core.specs.GitReading.{entries_left}
use Rattle.gixcfg_commands.proofs.beside_git.read_on.Given as goal

abbrev pub decreases-loop : goal.decreases-loop
decreases-loop l = entries_left l.walk
