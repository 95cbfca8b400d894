use Rattle.std.proofs.Common.{◌≡◌, ◌++◌, map}
use Rattle.std.specs.Iterator.Adapters.{zip_first, zip_second}
use Rattle.std.specs.Slice.Iter.{iter_rest}
use Rattle.std.specs.Vec.Iter.{into_iter_items}
use Rattle.gixcfg_core.specs.Entries.{plain_found}
use Rattle.gixcfg_commands.specs.Entries.{marked}
use Rattle.gixcfg_commands.proofs.entries.marked.Given as goal

-- those that are kept so far, and those of the entries that are left
abbrev pub invariant-loop-entry : goal.invariant-loop-entry
invariant-loop-entry l =
    map plain_found l.found.items ++ marked (iter_rest (zip_second l.entry-iterator)) (map plain_found (into_iter_items (zip_first l.entry-iterator))) ≡ marked l.fn.marks (map plain_found l.fn.entries.items)
