use Rattle.std.proofs.Common.{◌≡◌, ◌+◌, ◌≤◌, drop, length}
use Rattle.gitconf_glob.specs.Cells.{taken_cells}
use Rattle.gitconf_glob.proofs.table.fill_taken.Given as goal

abbrev pub invariant-loop-j : goal.invariant-loop-j
invariant-loop-j l = record {
  within : l.j ≤ length l.text;
  long : length l.row ≡ length l.text + 1;
  same : drop l.j l.row ≡ taken_cells l.negated (drop l.j l.text) (drop l.j l.among) (drop l.j l.below);
}

abbrev pub decreases-loop-j : goal.decreases-loop-j
decreases-loop-j l = l.j
