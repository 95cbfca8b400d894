use Rattle.std.proofs.Common.{◌≡◌}
use Rattle.std.specs.List.{list_any}
use Rattle.gitconf_lookups.specs.Walks.{by_name_left}
use Rattle.gitconf_state.specs.Including.{whole}
use Rattle.gitconf_includes.specs.Inclusion.{has_url}
use Rattle.gitconf_loaders.specs.Urls.{has_url_in}
use Rattle.gitconf_loaders.proofs.expansion.ExpansionConfigFile.has_url.Given as goal

abbrev pub invariant-loop-section : goal.invariant-loop-section
invariant-loop-section l = record {
  can_next : (goal.iterator-loop-section).can_next l.section-iterator;
  is_finite : (goal.iterator-loop-section).is_finite l.section-iterator;
  found : list_any (has_url_in l.pattern) (by_name_left l.section-iterator) ≡ has_url (whole l.self.gathering.done l.self.gathering.rest) l.pattern;
}
