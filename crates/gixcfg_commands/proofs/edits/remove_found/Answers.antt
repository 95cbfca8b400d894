use Rattle.std.proofs.Common.{◌≡◌, Some, None, subst}
use Rattle.gitconf_sources.specs.Key.{key_of}
use Rattle.gixcfg_commands.specs.Edits.{unremoved}
use Rattle.gixcfg_commands.proofs.Unsetting.{not_removed_so, removed_so}
use Rattle.gixcfg_commands.proofs.edits.remove_found.Goals as goal

pub returns-in-Ok : goal.returns-in-Ok
returns-in-Ok c = λ means is. removed_so (key_of c.args.unset.now.key) means c.args.unset.now.is_all c.args.file.now c.remove_meant.new.file c.args.meant.now c.remove_meant.result is
    (subst (λ count. unremoved c.args.unset.now.is_all count ≡ None) c.count.ensures c.in-Ok.ensures) c.remove_meant.ensures.ok c.remove_meant.ensures.memory

pub returns-in-Err : goal.returns-in-Err
returns-in-Err c = λ means is. not_removed_so (key_of c.args.unset.now.key) means c.args.unset.now.is_all c.args.file.now c.args.file.now c.args.meant.now c.in-Err.trouble is
    (subst (λ count. unremoved c.args.unset.now.is_all count ≡ Some c.in-Err.trouble) c.count.ensures c.in-Err.ensures)
