use Rattle.std.proofs.Common.{Ok, subst}
use Rattle.gitconf_includes.specs.Outcomes.{asks_of}
use Rattle.gitconf_loaders.proofs.Counts.{later}
use Rattle.gitconf_loaders.specs.Paths.{left_by, telling}
use Rattle.gitconf_loaders.specs.Errors.{git_number, git_says}
use Rattle.gix_config.specs.Repository.{IsExpandedBehind, IsWorktreeBehind}
use Rattle.gix_config.proofs.Repositories.{then_stopped}
use Rattle.gix_config.proofs.file.init.repository.put_own.Goals as goal

pub returns-in_err-put_behind-clause-put : goal.returns-in_err-put_behind-clause-put
returns-in_err-put_behind-clause-put g c =
    let asks = asks_of c.args.options.now (g.F.Files.table c.args.files.now) in
    then_stopped (IsExpandedBehind asks c.args.target.now c.args.own.local) (IsWorktreeBehind asks c.args.own.worktree) c.in_err-put_behind.field-0.0 c.from_residual.result c.put_behind.new.target
    c.in_err-put_behind.ensures.put c.from_residual.ensures.1

pub returns-clause-put : goal.returns-clause-put
returns-clause-put g c =
    let both = c.put_behind.new.target in (
      Ok both,
      c.in_ok-put_behind.ensures.put,
      subst (λ t. IsWorktreeBehind (asks_of c.args.options.now t) c.args.own.worktree both (left_by git_says c.put_worktree.result c.put_worktree.new.target)) c.put_behind.ensures.table c.put_worktree.ensures.put,
    )

pub returns-clause-counted : goal.returns-clause-counted
returns-clause-counted g c =
    later Unit (telling git_number c.put_worktree.result) (g.F.Files.failures c.args.files.now) (g.F.Files.failures c.put_behind.new.files) (g.F.Files.failures c.put_worktree.new.files)
    c.in_ok-put_behind.ensures.counted c.put_worktree.ensures.counted
