use Rattle.std.proofs.Common.{rules, ◌≡◌, ap, ◌∙◌, subst, string_bytes}
use Rattle.gitconf_state.specs.State.{State}
use Rattle.gitconf_includes.specs.Outcomes.{asks_of}
use Rattle.gitconf_includes.specs.Rules.{resolved}
use Rattle.gitconf_loaders.proofs.Counts.{later}
use Rattle.gitconf_loaders.specs.Errors.{git_number, git_says}
use Rattle.gitconf_loaders.specs.Paths.{telling}
use Rattle.gix_config.specs.Repository.{folder_of, IsJoined, local_path, parts_of}
use Rattle.gix_config.proofs.Repositories.{not_read, read_and_joined}
use Rattle.gix_config.proofs.file.init.repository.repository.Goals as goal

pub returns-in_err-parts-clause-loaded : goal.returns-in_err-parts-clause-loaded
returns-in_err-parts-clause-loaded g c =
    let table = g.F.Files.table c.args.files.now in
    let variables = g.E.Env.variables c.args.env.now in
    let at : c.deref.result.now ≡ local_path c.args.dir.now = search rules in
    let in_folder = c.folder_of-folder.ensures ∙ ap folder_of at in
    not_read variables c.args.places.now table c.args.dir.now (resolved c.args.real) (string_bytes c.in_ok-path.path) c.folder_of-folder.result.now c.in_ok-path.ensures in_folder c.in_err-parts.field-0.0 c.from_residual-in_err-parts.result
    c.in_err-parts.ensures.read c.from_residual-in_err-parts.ensures.1

pub returns-clause-loaded : goal.returns-clause-loaded
returns-clause-loaded g c =
    let table = g.F.Files.table c.args.files.now in
    let variables = g.E.Env.variables c.args.env.now in
    let at : c.deref.result.now ≡ local_path c.args.dir.now = search rules in
    let in_folder = c.folder_of-folder.ensures ∙ ap folder_of at in
    let parts = parts_of c.in_ok-parts.parts in
    let result = telling git_says c.joined.result in
    let by_variables = subst (λ v. IsJoined v c.args.places.now (g.F.Files.table c.read.new.files) (asks_of c.options-options.result (g.F.Files.table c.read.new.files)) parts result) c.read.ensures.stays c.joined.ensures.joined in
    read_and_joined variables c.args.places.now table c.args.dir.now (resolved c.args.real) (string_bytes c.in_ok-path.path) c.folder_of-folder.result.now c.in_ok-path.ensures in_folder c.options-options.result parts result
    c.options-options.ensures c.in_ok-parts.ensures.read (subst (λ t. IsJoined variables c.args.places.now t (asks_of c.options-options.result t) parts result) c.read.ensures.table by_variables)

pub returns-clause-counted : goal.returns-clause-counted
returns-clause-counted g c =
    later State (telling git_number c.joined.result) (g.F.Files.failures c.args.files.now) (g.F.Files.failures c.read.new.files) (g.F.Files.failures c.joined.new.files) c.in_ok-parts.ensures.counted c.joined.ensures.counted
