use Rattle.std.proofs.Common.{◌≡◌, drop, map}
use Rattle.gixcfg_names.specs.Known.{has_section}
use Rattle.gixcfg_names.specs.Rows.{plain}
use Rattle.gixcfg_names.proofs.known.has_section.Given as goal

abbrev pub invariant-loop-row : goal.invariant-loop-row
invariant-loop-row l =
    has_section (map plain (drop l.row-index l.rows)) l.section_name ≡ has_section (map plain l.rows) l.section_name
