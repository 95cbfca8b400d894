use Rattle.std.proofs.Common.{◌≡◌, ◌-◌, ◌<◌, ◌≢◌, length, map, ◌+◌, ◌*◌}
use Rattle.std.specs.Option.{option_copied, option_map}
use Rattle.std.specs.Vec.Iter.{into_iter_items}
use Rattle.bstr.specs.Owned.{bstring_bytes}
use Rattle.gitconf_state.specs.Including.{whole}
use Rattle.gitconf_includes.specs.Expansion.{Expands, FollowsAll, Reached}
use Rattle.gitconf_includes.specs.Outcomes.{asks_of}
use Rattle.gitconf_includes.proofs.Steps.{Suffices}
use Rattle.gitconf_includes.proofs.expanding.+expanding.Given as goal

abbrev pub decreases-expand : goal.decreases-expand
decreases-expand g l = 4 * l.left + 3

abbrev pub decreases-obey : goal.decreases-obey
decreases-obey g l = 4 * l.left + 2

abbrev pub decreases-follow_all : goal.decreases-follow_all
decreases-follow_all g l = 4 * l.left + 1

abbrev pub decreases-follow : goal.decreases-follow
decreases-follow g l = 4 * l.left

abbrev pub invariant-expand-loop-section : goal.invariant-expand-loop-section
invariant-expand-loop-section g l = record {
  table : g.F.Files.table l.files ≡ g.F.Files.table l.fn.files;
  failures : g.F.Files.failures l.files ≡ g.F.Files.failures l.fn.files;
  deep : l.fn.left ≢ 0;
  suffices : Suffices (Expands (l.fn.left - 1) (asks_of l.options (g.F.Files.table l.fn.files))) (asks_of l.options (g.F.Files.table l.fn.files))
      (option_map (λ s. whole (g.S.ConfigFile.done s) (g.S.ConfigFile.rest s)) (option_copied l.parent))
      (g.S.ConfigFile.rest l.fn.file) (g.S.ConfigFile.done l.fn.file) (g.S.ConfigFile.rest l.file) (g.S.ConfigFile.done l.file);
}

abbrev pub decreases-expand-loop-section : goal.decreases-expand-loop-section
decreases-expand-loop-section g l = length (g.S.ConfigFile.rest l.file)

abbrev pub invariant-follow_all-loop-path : goal.invariant-follow_all-loop-path
invariant-follow_all-loop-path g l = record {
  can_next : (goal.iterator-follow_all-loop-path g).can_next l.path-iterator;
  is_finite : (goal.iterator-follow_all-loop-path g).is_finite l.path-iterator;
  table : g.F.Files.table l.files ≡ g.F.Files.table l.fn.files;
  failures : g.F.Files.failures l.files ≡ g.F.Files.failures l.fn.files;
  rest : g.S.ConfigFile.rest l.file ≡ g.S.ConfigFile.rest l.fn.file;
  some : 0 < length (g.S.ConfigFile.done l.file).sections;
  suffices : (r : Reached)
      → FollowsAll (Expands (l.left - 1) (asks_of l.options (g.F.Files.table l.fn.files))) (asks_of l.options (g.F.Files.table l.fn.files)) l.from (map bstring_bytes (into_iter_items l.path-iterator))
      (g.S.ConfigFile.rest l.fn.file) (g.S.ConfigFile.done l.file) r
      → FollowsAll (Expands (l.left - 1) (asks_of l.options (g.F.Files.table l.fn.files))) (asks_of l.options (g.F.Files.table l.fn.files)) l.from (map bstring_bytes l.fn.paths.items)
      (g.S.ConfigFile.rest l.fn.file) (g.S.ConfigFile.done l.fn.file) r;
}
