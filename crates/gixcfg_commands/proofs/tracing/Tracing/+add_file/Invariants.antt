use Rattle.gixcfg_commands.proofs.tracing.Tracing.+add_file.Given as goal

abbrev pub decreases-add_file : goal.decreases-add_file
decreases-add_file g l = l.left
