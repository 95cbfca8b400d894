use Rattle.gitconf_sources.specs.Key.{key_of}
use Rattle.gixcfg_commands.proofs.PlainResults.{unset_refused}
use Rattle.gixcfg_commands.proofs.library.text_without.Goals as goal

pub returns-in-Err-remove-clause-unset : goal.returns-in-Err-remove-clause-unset
returns-in-Err-remove-clause-unset c =
    unset_refused (λ text. text.items) (key_of c.args.key) c.args.file.now c.in-Ok.id c.in-Err-remove.trouble c.in-Ok.ensures.found c.in-Err-remove.ensures.refused
