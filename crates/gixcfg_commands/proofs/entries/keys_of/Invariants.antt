use Rattle.std.proofs.Common.{◌≡◌, ◌++◌, drop, map}
use Rattle.gixcfg_core.specs.Entries.{PlainFound, plain_found}
use Rattle.gixcfg_commands.proofs.entries.keys_of.Given as goal

-- the keys so far, and those of the entries that are left
abbrev pub invariant-loop-entry : goal.invariant-loop-entry
invariant-loop-entry l =
    map (λ k. k.now) l.keys.items ++ map (λ (f : PlainFound). f.names) (map plain_found (drop l.entry-index l.entries)) ≡ map (λ (f : PlainFound). f.names) (map plain_found l.entries)
