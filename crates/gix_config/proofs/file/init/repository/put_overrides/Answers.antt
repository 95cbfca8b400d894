use Rattle.std.proofs.Common.{refl}
use Rattle.gitconf_state.specs.State.{State}
use Rattle.gitconf_loaders.specs.Errors.{env_number, env_says, git_of_env, git_says}
use Rattle.gitconf_loaders.specs.Paths.{Around}
use Rattle.gitconf_loaders.specs.Refused.{BadVariables}
use Rattle.gitconf_loaders.proofs.Counts.{no_less}
use Rattle.gitconf_loaders.proofs.Several.{append_refused}
use Rattle.gix_config.specs.Environment.{IsOverrides}
use Rattle.gix_config.proofs.Repositories.{around_made, around_refused, env_numbers, first_refused, git_count, of_env, then_put, then_refused}
use Rattle.gix_config.proofs.file.init.repository.put_overrides.Goals as goal

pub returns-in_err-file-clause-put : goal.returns-in_err-file-clause-put
returns-in_err-file-clause-put g c =
    let step = IsOverrides (g.E.Env.variables c.args.env.now) c.args.places.now (g.F.Files.table c.args.files.now) in
    let e = c.in_err-file.field-0.0 in
    first_refused (Around BadVariables step) c.args.target.now (git_says (git_of_env e)) (git_of_env e) c.from_residual.result c.args.target.now
    (around_refused BadVariables step (env_says e) (git_says (git_of_env e)) c.in_err-file.ensures.made (of_env e)) refl c.from_residual.ensures.1

pub returns-in_err-file-clause-counted : goal.returns-in_err-file-clause-counted
returns-in_err-file-clause-counted g c =
    let e = c.in_err-file.field-0.0 in
    git_count _ State (env_number e) (git_of_env e) c.from_residual.result (g.F.Files.failures c.args.files.now) (g.F.Files.failures c.args.files.now) (g.F.Files.failures c.overrides.new.files) c.from_residual.ensures.1 (env_numbers e)
    (no_less (g.F.Files.failures c.args.files.now)) c.in_err-file.ensures.counted

pub returns-in_err-append-clause-put : goal.returns-in_err-append-clause-put
returns-in_err-append-clause-put g c =
    let step = IsOverrides (g.E.Env.variables c.args.env.now) c.args.places.now (g.F.Files.table c.args.files.now) in
    then_refused (Around BadVariables step) c.args.target.now c.in_ok-file.file c.in_err-append.field-0.0 c.from_residual-in_err-append.result c.append.new.self
    (around_made BadVariables step c.in_ok-file.file c.in_ok-file.ensures.made) (append_refused c.args.target.now c.in_ok-file.file c.append.new.self c.in_err-append.field-0.0 c.in_err-append.ensures) c.from_residual-in_err-append.ensures.1

pub returns-clause-put : goal.returns-clause-put
returns-clause-put g c =
    let step = IsOverrides (g.E.Env.variables c.args.env.now) c.args.places.now (g.F.Files.table c.args.files.now) in
    then_put (Around BadVariables step) c.args.target.now c.in_ok-file.file c.append.new.self (around_made BadVariables step c.in_ok-file.file c.in_ok-file.ensures.made) c.in_ok-append.ensures
