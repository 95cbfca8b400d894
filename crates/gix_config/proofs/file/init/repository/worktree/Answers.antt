use Rattle.std.proofs.Common.{rules, ◌≡◌, Ok, Err, inr, subst, true}
use Rattle.gitconf_sources.specs.declared.source.Source.TheVariants.{Worktree}
use Rattle.gitconf_loaders.specs.Errors.{paths_says}
use Rattle.gitconf_loaders.specs.Paths.{IsLoadedFrom}
use Rattle.gix_config.specs.Repository.{has_worktree}
use Rattle.gix_config.proofs.Repositories.{a_worktree, worktree_refused}
use Rattle.gix_config.proofs.file.init.repository.worktree.Goals as goal

pub returns-in_err-store-clause-loaded : goal.returns-in_err-store-clause-loaded
returns-in_err-store-clause-loaded g c =
    let table = g.F.Files.table c.args.files.now in
    let has : has_worktree c.args.local.now ≡ true = search rules in
    let loaded = subst (λ p. IsLoadedFrom table p Worktree (Err (paths_says c.in_err-store.field-0.0))) c.in_ok-path.ensures c.in_err-store.ensures.loaded in
    inr (worktree_refused table c.args.folder.now c.args.local.now c.in_err-store.field-0.0 c.from_residual-in_err-store.result has loaded c.from_residual-in_err-store.ensures.1)

pub returns-clause-loaded : goal.returns-clause-loaded
returns-clause-loaded g c =
    let table = g.F.Files.table c.args.files.now in
    let has : has_worktree c.args.local.now ≡ true = search rules in
    let loaded = subst (λ p. IsLoadedFrom table p Worktree (Ok c.in_ok-store.store)) c.in_ok-path.ensures c.in_ok-store.ensures.loaded in
    inr (a_worktree table c.args.folder.now c.args.local.now c.in_ok-store.store has loaded)
