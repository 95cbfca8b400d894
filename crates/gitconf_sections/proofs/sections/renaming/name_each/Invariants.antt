use Rattle.std.proofs.Common.{◌≡◌, ◌<◌, length}
use Rattle.std.specs.List.{AllByRecursion}
use Rattle.gitconf_sections.specs.Renames.{named_each}
use Rattle.gitconf_sections.proofs.sections.renaming.name_each.Given as goal

-- the rows at the places that are left get the names as all do
abbrev pub invariant-loop-at : goal.invariant-loop-at
invariant-loop-at l = record {
  rows : named_each l.names l.rows.items l.rest ≡ named_each l.names l.initial.rows.items l.fn.places;
  within : AllByRecursion (λ at. at < length l.initial.rows.items) l.rest;
  len : length l.rows.items ≡ length l.initial.rows.items;
}

abbrev pub decreases-loop-at : goal.decreases-loop-at
decreases-loop-at l = length l.rest
