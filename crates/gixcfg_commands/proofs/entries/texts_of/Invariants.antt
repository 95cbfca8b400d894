use Rattle.std.proofs.Common.{◌≡◌, ◌++◌, drop, map}
use Rattle.gixcfg_core.specs.Entries.{plain_found}
use Rattle.gixcfg_commands.specs.Entries.{value_text}
use Rattle.gixcfg_commands.proofs.entries.texts_of.Given as goal

-- the texts so far, and those of the entries that are left
abbrev pub invariant-loop-entry : goal.invariant-loop-entry
invariant-loop-entry l =
    map (λ t. t.now) l.texts.items ++ map value_text (map plain_found (drop l.entry-index l.entries)) ≡ map value_text (map plain_found l.entries)
