use Rattle.std.proofs.Common.{◌≡◌, ◌++◌, drop, flat_map, map, None}
use Rattle.gixcfg_core.specs.Entries.{plain_found}
use Rattle.gixcfg_core.specs.Telling.{found_line}
use Rattle.gixcfg_core.proofs.telling.lines_of.Given as goal

-- the lines so far, and those of the entries that are left
abbrev pub invariant-loop-entry : goal.invariant-loop-entry
invariant-loop-entry l =
    l.form.kind ≡ None
    → l.lines.items ++ flat_map (found_line l.form) (map plain_found (drop l.entry-index l.found)) ≡ flat_map (found_line l.form) (map plain_found l.found)
