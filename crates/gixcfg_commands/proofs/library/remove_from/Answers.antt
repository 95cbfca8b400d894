use Rattle.gix_config.specs.SectionEditors.{edited, number_of}
use Rattle.gixcfg_commands.proofs.CleanEdits.{removed_clean}
use Rattle.gixcfg_commands.proofs.library.remove_from.Goals as goal

pub returns-in-Ok-clause-clean : goal.returns-in-Ok-clause-clean
returns-in-Ok-clause-clean c = λ clean.
    removed_clean (number_of c.args.section.now) c.args.name.now c.remove.result _ (edited c.args.section.now) (edited c.remove.new.self) c.remove.ensures.ok c.in-Ok.is clean
