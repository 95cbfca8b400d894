use Rattle.std.proofs.Common.{◌≡◌, ◌≤◌, ◌-◌, true, drop, length}
use Rattle.std.specs.Prelude.{◌==◌}
use Rattle.gitconf_glob.specs.Counted.{close_from, members, among}
use Rattle.gitconf_glob.proofs.Members.{among_so_far}
use Rattle.gitconf_glob.proofs.bracket.find_among.Given as goal

abbrev pub invariant-loop-i : goal.invariant-loop-i
invariant-loop-i l = record {
  within : l.i ≤ length l.text;
  close : l.close ≡ close_from 0 (drop l.i l.text);
  same : among_so_far l.has l.i (among l.ignore_case l.b (members (l.i == 0) 0 (drop l.i l.text))) ≡ among l.ignore_case l.b (members true 0 l.text);
}

abbrev pub decreases-loop-i : goal.decreases-loop-i
decreases-loop-i l = length l.text - l.i
