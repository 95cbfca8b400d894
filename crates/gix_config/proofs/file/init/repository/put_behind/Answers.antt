use Rattle.std.proofs.Common.{Ok, Err}
use Rattle.gitconf_includes.specs.Errors.{says}
use Rattle.gitconf_includes.specs.Outcomes.{asks_of}
use Rattle.gitconf_loaders.specs.Errors.{git_of_includes}
use Rattle.gitconf_loaders.specs.Refused.{include_refused}
use Rattle.gitconf_loaders.proofs.Several.{append_refused}
use Rattle.gix_config.specs.Repository.{IsExpanded}
use Rattle.gix_config.proofs.Entries.{expanded_words}
use Rattle.gix_config.proofs.Repositories.{first_refused, of_includes, then_put, then_refused}
use Rattle.gix_config.proofs.file.init.repository.put_behind.Goals as goal

pub returns-in_err-file-clause-put : goal.returns-in_err-file-clause-put
returns-in_err-file-clause-put g c =
    let asks = asks_of c.args.options.now (g.F.Files.table c.args.files.now) in
    let e = c.in_err-file.field-0.0 in
    first_refused (IsExpanded asks c.args.file) c.args.target.now (include_refused (says e)) (git_of_includes e) c.from_residual.result c.args.target.now (expanded_words asks c.args.file (Err e) c.in_err-file.ensures.expanded) (of_includes e)
    c.from_residual.ensures.1

pub returns-in_err-append-clause-put : goal.returns-in_err-append-clause-put
returns-in_err-append-clause-put g c =
    let asks = asks_of c.args.options.now (g.F.Files.table c.args.files.now) in
    then_refused (IsExpanded asks c.args.file) c.args.target.now c.in_ok-file.file c.in_err-append.field-0.0 c.from_residual-in_err-append.result c.append.new.self
    (expanded_words asks c.args.file (Ok c.in_ok-file.file) c.in_ok-file.ensures.expanded) (append_refused c.args.target.now c.in_ok-file.file c.append.new.self c.in_err-append.field-0.0 c.in_err-append.ensures) c.from_residual-in_err-append.ensures.1

pub returns-clause-put : goal.returns-clause-put
returns-clause-put g c =
    let asks = asks_of c.args.options.now (g.F.Files.table c.args.files.now) in
    then_put (IsExpanded asks c.args.file) c.args.target.now c.in_ok-file.file c.append.new.self (expanded_words asks c.args.file (Ok c.in_ok-file.file) c.in_ok-file.ensures.expanded) c.in_ok-append.ensures
