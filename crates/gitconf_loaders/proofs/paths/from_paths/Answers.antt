use Rattle.std.proofs.Common.{rules, ◌≡◌, [], ◌∷◌, Ok, Err, None, refl, sym, ◌∙◌, subst}
use Rattle.std.specs.Vec.Iter.{into_iter_items}
use Rattle.gitconf_includes.specs.Outcomes.{asks_of}
use Rattle.gitconf_loaders.specs.Errors.{paths_says}
use Rattle.gitconf_loaders.specs.Paths.{AreFilesLoaded, IsMetaLoaded, once}
use Rattle.gitconf_loaders.proofs.Counts.{no_less, none_less}
use Rattle.gitconf_loaders.proofs.Several.{ended_left, left_counts, went_on}
use Rattle.gitconf_loaders.proofs.paths.from_paths.Goals as goal

pub loop-meta-init : goal.loop-meta-init
loop-meta-init g c =
    let all : into_iter_items c.into_iter-meta-iterator.result ≡ once [] c.args.metas.items = search rules in
    record {
      can_next = tt;
      is_finite = tt;
      table = refl;
      counted = no_less (g.F.Files.failures c.args.files.now);
      suffices = λ r later. subst (λ l. AreFilesLoaded c.args.must_exist c.args.options.now.ignore_io_errors (asks_of c.args.options.now (g.F.Files.table c.args.files.now)) l None r) all later;
    }

pub loop-meta-preserved : goal.loop-meta-preserved
loop-meta-preserved g c =
    let next = into_iter_items c.next.new.self in
    let left : into_iter_items c.loop-meta.meta-iterator ≡ c.in-Some.meta ∷ next = search rules in
    let asks = asks_of c.args.options.now (g.F.Files.table c.args.files.now) in
    let loaded = subst (λ t. IsMetaLoaded c.args.must_exist c.args.options.now.ignore_io_errors (asks_of c.args.options.now t) c.in-Some.meta c.loop-meta.target (Ok c.load_behind.new.target))
    c.loop-meta.invariant.table c.in_ok-load_behind.ensures.loaded in
    record {
      can_next = tt;
      is_finite = tt;
      table = c.load_behind.ensures.table ∙ c.loop-meta.invariant.table;
      counted = none_less (g.F.Files.failures c.args.files.now) (g.F.Files.failures c.loop-meta.files) (g.F.Files.failures c.load_behind.new.files) c.loop-meta.invariant.counted c.in_ok-load_behind.ensures.counted;
      suffices = λ r later. c.loop-meta.invariant.suffices r (subst (λ l. AreFilesLoaded c.args.must_exist c.args.options.now.ignore_io_errors asks l c.loop-meta.target r) (sym left)
          (went_on c.args.must_exist c.args.options.now.ignore_io_errors asks c.in-Some.meta next c.loop-meta.target c.load_behind.new.target r loaded later));
    }

pub returns-in_err-load_behind-clause-loaded : goal.returns-in_err-load_behind-clause-loaded
returns-in_err-load_behind-clause-loaded g c =
    let next = into_iter_items c.next.new.self in
    let left : into_iter_items c.loop-meta.meta-iterator ≡ c.in-Some.meta ∷ next = search rules in
    let asks = asks_of c.args.options.now (g.F.Files.table c.args.files.now) in
    let loaded = subst (λ t. IsMetaLoaded c.args.must_exist c.args.options.now.ignore_io_errors (asks_of c.args.options.now t) c.in-Some.meta c.loop-meta.target (Err (paths_says c.in_err-load_behind.field-0.0)))
    c.loop-meta.invariant.table c.in_err-load_behind.ensures.loaded in
    ended_left c.args.must_exist c.args.options.now.ignore_io_errors asks c.in-Some.meta next c.args.metas.items c.loop-meta.target c.in_err-load_behind.field-0.0 c.from_residual-in_err-load_behind.result
    (λ r later. c.loop-meta.invariant.suffices r (subst (λ l. AreFilesLoaded c.args.must_exist c.args.options.now.ignore_io_errors asks l c.loop-meta.target r) (sym left) later)) loaded
    c.from_residual-in_err-load_behind.ensures.1

pub returns-in_err-load_behind-clause-counted : goal.returns-in_err-load_behind-clause-counted
returns-in_err-load_behind-clause-counted g c =
    left_counts (g.F.Files.failures c.args.files.now) (g.F.Files.failures c.loop-meta.files) (g.F.Files.failures c.load_behind.new.files) c.in_err-load_behind.field-0.0 c.from_residual-in_err-load_behind.result
    c.from_residual-in_err-load_behind.ensures.1 c.loop-meta.invariant.counted c.in_err-load_behind.ensures.counted
