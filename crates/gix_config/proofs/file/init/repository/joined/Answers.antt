use Rattle.std.proofs.Common.{Ok, Err, refl, subst}
use Rattle.gitconf_state.specs.State.{State}
use Rattle.gitconf_includes.specs.Outcomes.{asks_of}
use Rattle.gitconf_includes.specs.Errors.{includes_number}
use Rattle.gitconf_loaders.proofs.Counts.{fault_load, same}
use Rattle.gitconf_loaders.specs.Errors.{git_number, git_of_includes, git_says}
use Rattle.gix_config.specs.Repository.{AreOwnAndOverridesBehind, parts_of}
use Rattle.gix_config.proofs.Repositories.{all_joined, first_not_expanded, git_count, includes_numbers, own_not_put}
use Rattle.gix_config.proofs.file.init.repository.joined.Goals as goal

pub returns-in_err-all-clause-joined : goal.returns-in_err-all-clause-joined
returns-in_err-all-clause-joined g c =
    let table = g.F.Files.table c.args.files.now in
    first_not_expanded (g.E.Env.variables c.args.env.now) c.args.places.now table (asks_of c.args.options.now table) (parts_of c.args.parts) c.in_err-all.field-0.0 c.from_residual.result
    c.in_err-all.ensures.expanded c.from_residual.ensures.1

pub returns-in_err-all-clause-counted : goal.returns-in_err-all-clause-counted
returns-in_err-all-clause-counted g c =
    let e = c.in_err-all.field-0.0 in
    let old = g.F.Files.failures c.args.files.now in
    let new = g.F.Files.failures c.expanded.new.files in
    git_count State State (includes_number e) (git_of_includes e) c.from_residual.result old old new c.from_residual.ensures.1 (includes_numbers e) (same old old refl)
    (fault_load State (includes_number e) old new c.in_err-all.ensures.counted)

pub returns-in_err-put_own_and_overrides-clause-joined : goal.returns-in_err-put_own_and_overrides-clause-joined
returns-in_err-put_own_and_overrides-clause-joined g c =
    let table = g.F.Files.table c.args.files.now in
    let variables = g.E.Env.variables c.args.env.now in
    let e = c.in_err-put_own_and_overrides.field-0.0 in
    own_not_put variables c.args.places.now table (asks_of c.args.options.now table) (parts_of c.args.parts) c.in_ok-all.all e c.from_residual-in_err-put_own_and_overrides.result c.in_ok-all.ensures.expanded
    (subst (λ t. AreOwnAndOverridesBehind variables c.args.places.now t (asks_of c.args.options.now t) c.args.parts.own.local c.args.parts.own.worktree c.in_ok-all.all (Err (git_says e))) c.expanded.ensures.table c.in_err-put_own_and_overrides.ensures.put)
    c.from_residual-in_err-put_own_and_overrides.ensures.1

pub returns-in_err-put_own_and_overrides-clause-counted : goal.returns-in_err-put_own_and_overrides-clause-counted
returns-in_err-put_own_and_overrides-clause-counted g c =
    let e = c.in_err-put_own_and_overrides.field-0.0 in
    let old = g.F.Files.failures c.args.files.now in
    let mid = g.F.Files.failures c.expanded.new.files in
    git_count State Unit (git_number e) e c.from_residual-in_err-put_own_and_overrides.result old mid (g.F.Files.failures c.put_own_and_overrides.new.files) c.from_residual-in_err-put_own_and_overrides.ensures.1 refl
    (same old mid c.in_ok-all.ensures.counted) c.in_err-put_own_and_overrides.ensures.counted

pub returns-clause-joined : goal.returns-clause-joined
returns-clause-joined g c =
    let table = g.F.Files.table c.args.files.now in
    let variables = g.E.Env.variables c.args.env.now in
    let now = c.put_own_and_overrides.new.target in
    all_joined variables c.args.places.now table (asks_of c.args.options.now table) (parts_of c.args.parts) c.in_ok-all.all now c.in_ok-all.ensures.expanded
    (subst (λ t. AreOwnAndOverridesBehind variables c.args.places.now t (asks_of c.args.options.now t) c.args.parts.own.local c.args.parts.own.worktree c.in_ok-all.all (Ok now)) c.expanded.ensures.table c.in_ok-put_own_and_overrides.ensures.put)
