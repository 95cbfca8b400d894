use Rattle.std.proofs.Common.{◌≡◌, ◌≤◌, ◌-◌, true, drop, length}
use Rattle.gitconf_glob.specs.Pattern.{matches}
use Rattle.gitconf_glob.specs.Cursor.{matches_after}
use Rattle.gitconf_glob.specs.Rows.{is_fresh_at}
use Rattle.gitconf_glob.proofs.matcher.wildmatch.Given as goal

abbrev pub invariant-loop-i : goal.invariant-loop-i
invariant-loop-i l = record {
  pattern_within : l.i ≤ length l.pattern;
  text_within : l.j ≤ length l.text;
  same : matches_after l.ignore_case 0 (is_fresh_at true l.i l.pattern) (drop l.i l.pattern) (drop l.j l.text) ≡ matches l.ignore_case l.pattern l.text;
}

abbrev pub decreases-loop-i : goal.decreases-loop-i
decreases-loop-i l = length l.pattern - l.i
