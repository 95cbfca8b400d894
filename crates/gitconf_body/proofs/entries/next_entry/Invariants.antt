use Rattle.std.proofs.Common.{◌≡◌, ◌≤◌, ℕ, true, List, length}
use Rattle.std.specs.List.{list_all}
use Rattle.gitconf_state.specs.State.{entries_of, is_item}
use Rattle.gitconf_items.specs.Items.{items_of}
use Rattle.gitconf_body.proofs.entries.next_entry.Given as goal

-- no entry stands before these items
abbrev pub invariant-loop-item : goal.invariant-loop-item
invariant-loop-item l = record {
  entries : (buffer : List ℕ) → entries_of (items_of buffer l.items) ≡ entries_of (items_of buffer l.rest);
  fits : (buffer : List ℕ) → list_all is_item (items_of buffer l.items) ≡ true → list_all is_item (items_of buffer l.rest) ≡ true;
  fewer : length l.rest ≤ length l.items;
}

abbrev pub decreases-loop-item : goal.decreases-loop-item
decreases-loop-item l = length l.rest
