use Rattle.std.proofs.Common.{◌≡◌, [], None, Option, Result}
use Rattle.std.specs.Vec.Iter.{into_iter_items}
use Rattle.gitconf_sources.specs.Reports.{IsNoLess}
use Rattle.gitconf_state.specs.State.{State}
use Rattle.gitconf_includes.specs.Outcomes.{asks_of}
use Rattle.gitconf_loaders.specs.Paths.{AreFilesLoaded, once}
use Rattle.gitconf_loaders.specs.Refused.{Refused}
use Rattle.gitconf_loaders.proofs.paths.from_paths.Given as goal

abbrev pub invariant-loop-meta : goal.invariant-loop-meta
invariant-loop-meta g l = record {
  can_next : (goal.iterator-loop-meta g).can_next l.meta-iterator;
  is_finite : (goal.iterator-loop-meta g).is_finite l.meta-iterator;
  table : g.F.Files.table l.files ≡ g.F.Files.table l.fn.files;
  counted : IsNoLess (g.F.Files.failures l.fn.files) (g.F.Files.failures l.files);
  suffices : (r : Result (Option State) Refused)
      → AreFilesLoaded l.must_exist l.options.ignore_io_errors (asks_of l.options (g.F.Files.table l.fn.files)) (into_iter_items l.meta-iterator) l.target r
      → AreFilesLoaded l.must_exist l.options.ignore_io_errors (asks_of l.options (g.F.Files.table l.fn.files)) (once [] l.fn.metas.items) None r;
}
