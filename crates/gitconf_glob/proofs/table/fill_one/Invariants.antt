use Rattle.std.proofs.Common.{◌≡◌, ◌+◌, ◌≤◌, drop, length}
use Rattle.gitconf_glob.specs.Cells.{one_cells}
use Rattle.gitconf_glob.specs.Pattern.{takes}
use Rattle.gitconf_glob.specs.Shapes.{element_of}
use Rattle.gitconf_glob.proofs.table.fill_one.Given as goal

abbrev pub invariant-loop-j : goal.invariant-loop-j
invariant-loop-j l = record {
  within : l.j ≤ length l.text;
  long : length l.row ≡ length l.text + 1;
  same : drop l.j l.row ≡ one_cells (takes l.ignore_case (element_of l.element)) (drop l.j l.text) (drop l.j l.below);
}

abbrev pub decreases-loop-j : goal.decreases-loop-j
decreases-loop-j l = l.j
