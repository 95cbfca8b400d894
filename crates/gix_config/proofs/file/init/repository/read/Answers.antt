use Rattle.std.proofs.Common.{◌≡◌, ◌⊎◌, ℕ, Ok, Err, Option, Result, ◌∙◌, subst, string_bytes}
use Rattle.gitconf_state.specs.State.{State}
use Rattle.gitconf_loaders.specs.Errors.{paths_says}
use Rattle.gitconf_loaders.specs.Globals.{IsGlobal}
use Rattle.gitconf_loaders.specs.Refused.{OutOfMemory, Refused}
use Rattle.gitconf_loaders.proofs.Counts.{none_less}
use Rattle.gix_config.specs.Repository.{IsWorktree}
use Rattle.gix_config.proofs.Repositories.{all_read, globals_refused, handed_count, worktree_not_read}
use Rattle.gix_config.proofs.file.init.repository.read.Goals as goal

pub returns-in_err-worktree-clause-read : goal.returns-in_err-worktree-clause-read
returns-in_err-worktree-clause-read g c =
    let table = g.F.Files.table c.args.files.now in
    worktree_not_read (g.E.Env.variables c.args.env.now) c.args.places.now table (string_bytes c.args.path) c.args.folder.now c.in_ok-from_path.field-0 c.in_err-worktree.field-0.0 c.from_residual-in_err-worktree.result
    c.in_ok-from_path.ensures.loaded (subst (λ t. (◌≡◌ {A = Result (Option State) Refused} (Err (paths_says c.in_err-worktree.field-0.0)) (Err OutOfMemory)) ⊎ IsWorktree t c.args.folder.now c.in_ok-from_path.field-0 (Err (paths_says c.in_err-worktree.field-0.0))) c.from_path.ensures.table c.in_err-worktree.ensures.loaded)
    c.from_residual-in_err-worktree.ensures.1

pub returns-in_err-worktree-clause-counted : goal.returns-in_err-worktree-clause-counted
returns-in_err-worktree-clause-counted g c =
    handed_count c.in_err-worktree.field-0.0 c.from_residual-in_err-worktree.result (g.F.Files.failures c.args.files.now) (g.F.Files.failures c.from_path.new.files) (g.F.Files.failures c.worktree.new.files)
    c.from_residual-in_err-worktree.ensures.1 c.in_ok-from_path.ensures.counted c.in_err-worktree.ensures.counted

pub returns-in_err-from_globals-clause-read : goal.returns-in_err-from_globals-clause-read
returns-in_err-from_globals-clause-read g c =
    let table = g.F.Files.table c.args.files.now in
    let same = c.worktree.ensures.table ∙ c.from_path.ensures.table in
    globals_refused (g.E.Env.variables c.args.env.now) c.args.places.now table (string_bytes c.args.path) c.args.folder.now c.in_ok-from_path.field-0 c.in_ok-worktree.worktree c.in_err-from_globals.field-0.0 c.from_residual-in_err-from_globals.result
    c.in_ok-from_path.ensures.loaded (subst (λ t. (◌≡◌ {A = Result (Option State) Refused} (Ok c.in_ok-worktree.worktree) (Err OutOfMemory)) ⊎ IsWorktree t c.args.folder.now c.in_ok-from_path.field-0 (Ok c.in_ok-worktree.worktree)) c.from_path.ensures.table c.in_ok-worktree.ensures.loaded)
    (subst (λ t. IsGlobal (g.E.Env.variables c.args.env.now) c.args.places.now t (Err (paths_says c.in_err-from_globals.field-0.0))) same c.in_err-from_globals.ensures.loaded) c.from_residual-in_err-from_globals.ensures.1

pub returns-in_err-from_globals-clause-counted : goal.returns-in_err-from_globals-clause-counted
returns-in_err-from_globals-clause-counted g c =
    handed_count c.in_err-from_globals.field-0.0 c.from_residual-in_err-from_globals.result (g.F.Files.failures c.args.files.now) (g.F.Files.failures c.worktree.new.files) (g.F.Files.failures c.from_globals.new.files)
    c.from_residual-in_err-from_globals.ensures.1
    (none_less (g.F.Files.failures c.args.files.now) (g.F.Files.failures c.from_path.new.files) (g.F.Files.failures c.worktree.new.files) c.in_ok-from_path.ensures.counted c.in_ok-worktree.ensures.counted) c.in_err-from_globals.ensures.counted

pub returns-clause-read : goal.returns-clause-read
returns-clause-read g c =
    let table = g.F.Files.table c.args.files.now in
    let same = c.worktree.ensures.table ∙ c.from_path.ensures.table in
    all_read (g.E.Env.variables c.args.env.now) c.args.places.now table (string_bytes c.args.path) c.args.folder.now c.in_ok-from_path.field-0 c.in_ok-worktree.worktree c.in_ok-from_globals.field-0
    c.in_ok-from_path.ensures.loaded (subst (λ t. (◌≡◌ {A = Result (Option State) Refused} (Ok c.in_ok-worktree.worktree) (Err OutOfMemory)) ⊎ IsWorktree t c.args.folder.now c.in_ok-from_path.field-0 (Ok c.in_ok-worktree.worktree)) c.from_path.ensures.table c.in_ok-worktree.ensures.loaded)
    (subst (λ t. IsGlobal (g.E.Env.variables c.args.env.now) c.args.places.now t (Ok c.in_ok-from_globals.field-0)) same c.in_ok-from_globals.ensures.loaded)

pub returns-clause-counted : goal.returns-clause-counted
returns-clause-counted g c =
    none_less (g.F.Files.failures c.args.files.now) (g.F.Files.failures c.worktree.new.files) (g.F.Files.failures c.from_globals.new.files)
    (none_less (g.F.Files.failures c.args.files.now) (g.F.Files.failures c.from_path.new.files) (g.F.Files.failures c.worktree.new.files) c.in_ok-from_path.ensures.counted c.in_ok-worktree.ensures.counted)
    c.in_ok-from_globals.ensures.counted
