use Rattle.std.proofs.Common.{◌≡◌, vec_len}
use Rattle.gitconf_sections.proofs.RowLemmas.{moved_until}
use Rattle.gitconf_sections.proofs.sections.adding.move_rows.Given as goal

abbrev pub invariant-loop-at : goal.invariant-loop-at
invariant-loop-at l = record {
  moved : l.rows.items ≡ moved_until l.at l.next l.behind l.by l.initial.rows.items;
  same_len : vec_len l.rows ≡ vec_len l.initial.rows;
}
