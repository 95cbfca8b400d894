use Rattle.std.proofs.Common.{◌≡◌, Ok, map, rules, subst}
use Rattle.std.specs.Prelude.{is_some}
use Rattle.gitconf_sources.specs.Key.{key_of}
use Rattle.gixcfg_commands.specs.Meant.{values_of_key}
use Rattle.gixcfg_commands.specs.Setting.{IsSetText}
use Rattle.gixcfg_commands.specs.declared.edits.Setting.TheVariants.{GiveAlone}
use Rattle.gixcfg_commands.proofs.SettingLemmas.{setting_same}
use Rattle.gixcfg_commands.proofs.edits.meant_text.Goals as goal

pub returns-in-Ok-GiveAlone : goal.returns-in-Ok-GiveAlone
returns-in-Ok-GiveAlone c = λ means is.
    let set = c.args.giving.now.set.now in
    let key = key_of set.key in
    let value = c.args.giving.now.value.now in
    let same : c.setting_of.result ≡ Ok (GiveAlone c.in-Ok-GiveAlone.at) = search rules in
    subst (λ setting. IsSetText set.comment setting key value (map means (values_of_key key c.args.file.now)) c.args.giving.now.before.now c.args.file.now c.alone_text.result)
    (setting_same key means c.args.file.now c.args.meant c.args.is_all c.is_some-is_commented.result (is_some set.comment) value c.setting_of.result (Ok (GiveAlone c.in-Ok-GiveAlone.at)) is
    c.is_some-is_commented.ensures c.setting_of.ensures same)
    (c.alone_text.ensures means is)
