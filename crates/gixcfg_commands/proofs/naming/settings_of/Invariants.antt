use Rattle.gixcfg_core.specs.GitReading.{entries_left}
use Rattle.gixcfg_commands.proofs.naming.settings_of.Given as goal

abbrev pub decreases-loop-kept : goal.decreases-loop-kept
decreases-loop-kept l = entries_left l.walk
