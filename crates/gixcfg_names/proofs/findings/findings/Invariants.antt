use Rattle.std.proofs.Common.{◌≡◌, ◌≤◌, length, drop, map, reverse}
use Rattle.gixcfg_names.specs.Findings.{findings, plain_finding, plain_setting}
use Rattle.gixcfg_names.specs.Rows.{plain}
use Rattle.gixcfg_names.specs.Seen.{Sees}
use Rattle.gixcfg_names.proofs.findings.findings.Given as goal

abbrev pub invariant-loop-at : goal.invariant-loop-at
invariant-loop-at l = record {
  sees : Sees l.seen (map plain_setting (drop l.at l.settings));
  told : reverse (map plain_finding l.found.items) ≡ findings (map plain l.rows) (map plain_setting (drop l.at l.settings));
  within : l.at ≤ length l.settings;
}

abbrev pub decreases-loop-at : goal.decreases-loop-at
decreases-loop-at l = l.at
