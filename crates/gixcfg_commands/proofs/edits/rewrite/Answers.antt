use Rattle.std.proofs.Common.{rules}
use Rattle.gitconf_sources.specs.Key.{key_of}
use Rattle.gixcfg_commands.proofs.SettingLemmas.{rewritten_as_told}
use Rattle.gixcfg_commands.proofs.edits.rewrite.Goals as goal

pub returns-in-Ok-clause-done : goal.returns-in-Ok-clause-done
returns-in-Ok-clause-done c =
    rewritten_as_told (key_of c.args.key) c.args.at c.args.value.now c.args.file.now c.in-Ok.editor c.write_at.new.editor c.file-1.given.0 c.write_at.result c.in-Ok.ensures.found c.in-Ok.ensures.same_state
    (search rules) c.write_at.ensures.done
