use Rattle.std.proofs.Common.{◌≡◌, ◌<◌, length}
use Rattle.std.specs.List.{AllByRecursion}
use Rattle.gitconf_store.specs.Renamings.{with_headers}
use Rattle.gitconf_store.proofs.headings.set_headers.Given as goal

-- the sections at the places that are left get the header as all do
abbrev pub invariant-loop-at : goal.invariant-loop-at
invariant-loop-at l = record {
  headed : with_headers l.header l.rest l.table ≡ with_headers l.header l.fn.places l.initial.table;
  within : AllByRecursion (λ at. at < length l.initial.table.entries) l.rest;
  len : length l.table.entries ≡ length l.initial.table.entries;
}

abbrev pub decreases-loop-at : goal.decreases-loop-at
decreases-loop-at l = length l.rest
