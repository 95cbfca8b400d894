use Rattle.std.proofs.Common.{◌≡◌, map, false}
use Rattle.std.specs.List.{list_any}
use Rattle.std.specs.Vec.Iter.{into_iter_items}
use Rattle.bstr.specs.Owned.{bstring_bytes}
use Rattle.gitconf_glob.specs.Pattern.{matches}
use Rattle.gitconf_views.specs.Views.{shown}
use Rattle.gitconf_loaders.specs.Urls.{has_url_in}
use Rattle.gitconf_loaders.proofs.expansion.has_url.Given as goal

abbrev pub invariant-loop-url : goal.invariant-loop-url
invariant-loop-url l = record {
  can_next : (goal.iterator-loop-url).can_next l.url-iterator;
  is_finite : (goal.iterator-loop-url).is_finite l.url-iterator;
  found : list_any (matches false l.pattern) (map bstring_bytes (into_iter_items l.url-iterator)) ≡ has_url_in l.pattern (shown l.section);
}
