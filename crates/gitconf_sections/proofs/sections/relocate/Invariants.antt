use Rattle.std.proofs.Common.{◌≡◌, ◌≤◌, length}
use Rattle.gitconf_sections.specs.Rows.{numbers_in}
use Rattle.gitconf_sections.specs.Tables.{ArePlacedTo}
use Rattle.gitconf_sections.proofs.sections.relocate.Given as goal

abbrev pub invariant-loop-at : goal.invariant-loop-at
invariant-loop-at l = record {
  placed : ArePlacedTo l.at (numbers_in l.rows.items) l.places.items;
  len : length l.places.items ≡ length l.initial.places.items;
  within : l.at ≤ length (numbers_in l.rows.items);
}
