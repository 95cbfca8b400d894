use Rattle.std.proofs.Common.{◌≡◌, length, map, true}
use Rattle.std.specs.List.{list_all}
use Rattle.gitconf_state.specs.Edits.{apply_all}
use Rattle.gitconf_store.specs.Edited.{has_number}
use Rattle.gixcfg_commands.specs.Meant.{plain_holder, removals}
use Rattle.gixcfg_commands.proofs.meant.remove_from_each.Given as goal

-- what the file is after the removals that are left; and the sections of these are there
abbrev pub invariant-loop-holder : goal.invariant-loop-holder
invariant-loop-holder l =
    (apply_all (removals l.name l.rest (map plain_holder l.left)) l.file ≡ apply_all (removals l.name l.marks (map plain_holder l.holders)) l.fn.file)
    × (list_all (λ h. has_number h.0 l.fn.file) (map plain_holder l.holders) ≡ true → list_all (λ h. has_number h.0 l.file) (map plain_holder l.left) ≡ true)

abbrev pub decreases-loop-holder : goal.decreases-loop-holder
decreases-loop-holder l = length l.left
