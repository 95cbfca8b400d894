use Rattle.gitconf_sources.specs.Key.{key_of}
use Rattle.gixcfg_commands.specs.Setting.{added}
use Rattle.gixcfg_commands.proofs.SettingLemmas.{added_text_so, not_added_text}
use Rattle.gixcfg_commands.proofs.edits.added_text.Goals as goal

pub returns-in-Ok : goal.returns-in-Ok
returns-in-Ok c =
    let set = c.args.giving.now.set.now in
    added_text_so set.comment c.args.giving.now.before.now _ (added (key_of set.key) c.args.giving.now.value.now) c.args.file.now c.add.new.file c.with_comment.result c.in-Ok.ensures c.with_comment.ensures

pub returns-in-Err : goal.returns-in-Err
returns-in-Err c =
    let set = c.args.giving.now.set.now in
    not_added_text set.comment c.args.giving.now.before.now _ (added (key_of set.key) c.args.giving.now.value.now) c.args.file.now c.add.new.file c.in-Err.trouble c.in-Err.ensures
