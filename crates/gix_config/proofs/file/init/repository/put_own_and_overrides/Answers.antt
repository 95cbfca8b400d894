use Rattle.std.proofs.Common.{Ok, subst}
use Rattle.gitconf_includes.specs.Outcomes.{asks_of}
use Rattle.gitconf_loaders.proofs.Counts.{later}
use Rattle.gitconf_loaders.specs.Paths.{left_by, telling}
use Rattle.gitconf_loaders.specs.Errors.{git_number, git_says}
use Rattle.gix_config.specs.Repository.{AreOverridesBehind, IsOwnBehind}
use Rattle.gix_config.proofs.Repositories.{then_stopped}
use Rattle.gix_config.proofs.file.init.repository.put_own_and_overrides.Goals as goal

pub returns-in_err-put_own-clause-put : goal.returns-in_err-put_own-clause-put
returns-in_err-put_own-clause-put g c =
    let table = g.F.Files.table c.args.files.now in
    then_stopped (IsOwnBehind (asks_of c.args.options.now table) c.args.own.local c.args.own.worktree c.args.target.now) (AreOverridesBehind (g.E.Env.variables c.args.env.now) c.args.places.now table)
    c.in_err-put_own.field-0.0 c.from_residual.result c.put_own.new.target c.in_err-put_own.ensures.put c.from_residual.ensures.1

pub returns-clause-put : goal.returns-clause-put
returns-clause-put g c =
    let own = c.put_own.new.target in (
      Ok own,
      c.in_ok-put_own.ensures.put,
      subst (λ t. AreOverridesBehind (g.E.Env.variables c.args.env.now) c.args.places.now t own (left_by git_says c.put_overrides.result c.put_overrides.new.target)) c.put_own.ensures.table c.put_overrides.ensures.put,
    )

pub returns-clause-counted : goal.returns-clause-counted
returns-clause-counted g c =
    later Unit (telling git_number c.put_overrides.result) (g.F.Files.failures c.args.files.now) (g.F.Files.failures c.put_own.new.files) (g.F.Files.failures c.put_overrides.new.files)
    c.in_ok-put_own.ensures.counted c.put_overrides.ensures.counted
