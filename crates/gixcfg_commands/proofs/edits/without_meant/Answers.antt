use Rattle.gitconf_sources.specs.Key.{key_of}
use Rattle.gixcfg_commands.proofs.Unsetting.{rest_answered, rest_refused}
use Rattle.gixcfg_commands.proofs.edits.without_meant.Goals as goal

pub returns-in-Ok : goal.returns-in-Ok
returns-in-Ok c = λ means is. rest_answered (key_of c.args.unset.now.key) means c.args.unset.now.is_all c.args.text.now c.args.file.now c.remove_found.new.file c.args.meant.now c.text_of_rest.result is
    (c.in-Ok.ensures means is) c.text_of_rest.ensures

pub returns-in-Err : goal.returns-in-Err
returns-in-Err c = λ means is. rest_refused (key_of c.args.unset.now.key) means c.args.unset.now.is_all c.args.text.now c.args.file.now c.remove_found.new.file c.in-Err.trouble
    (c.in-Err.ensures means is)
