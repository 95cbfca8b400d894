use Rattle.std.proofs.Common.{◌≡◌, map, subst, sym, true}
use Rattle.std.specs.List.{list_all}
use Rattle.gitconf_store.specs.Edited.{has_number}
use Rattle.gixcfg_commands.specs.Meant.{plain_holder}
use Rattle.gixcfg_commands.proofs.meant.remove_meant.Goals as goal

pub returns-clause-memory : goal.returns-clause-memory
returns-clause-memory c = λ stand.
    c.remove_from_each.ensures.memory (subst (λ holders. list_all (λ h. has_number h.0 c.args.file.now) (map plain_holder holders) ≡ true) (sym c.deref.ensures.value) stand)
