use Rattle.gitconf_sources.specs.Key.{key_of}
use Rattle.gixcfg_commands.proofs.SettingLemmas.{alone_text_so, others_stand}
use Rattle.gixcfg_commands.proofs.edits.alone_text.Goals as goal

pub returns : goal.returns
returns c = λ means is.
    let set = c.args.giving.now.set.now in
    let key = key_of set.key in
    alone_text_so set.comment key means c.args.at c.args.giving.now.value.now c.args.giving.now.before.now c.args.file.now c.args.meant c.spare.new.self c.text_without_others.result
    is c.spare.ensures.marks c.spare.ensures.holders
    (c.text_without_others.ensures (others_stand key means c.args.file.now c.args.meant c.spare.new.self is c.spare.ensures.holders))
