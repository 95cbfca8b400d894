use Rattle.std.proofs.Common.{◌≡◌, ◌+◌, ◌≤◌, true, false, get_or, drop, length}
use Rattle.gitconf_glob.specs.Cells.{run_cells, folder_cells}
use Rattle.gitconf_glob.proofs.table.fill_folders.Given as goal

abbrev pub invariant-loop-j : goal.invariant-loop-j
invariant-loop-j l = record {
  within : l.j ≤ length l.text;
  long : length l.row ≡ length l.text + 1;
  reached : l.reached ≡ get_or (run_cells true (drop l.j l.text) (drop l.j l.below)) 0 false;
  same : drop l.j l.row ≡ folder_cells (drop l.j l.text) (drop l.j l.below) (drop l.j l.behind);
}

abbrev pub decreases-loop-j : goal.decreases-loop-j
decreases-loop-j l = l.j
