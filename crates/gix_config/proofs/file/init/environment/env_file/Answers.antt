use Rattle.std.proofs.Common.{rules, ◌≡◌, Ok, Err, refl, subst}
use Rattle.gitconf_includes.specs.Outcomes.{asks_of}
use Rattle.gitconf_loaders.specs.Errors.{env_says}
use Rattle.gitconf_loaders.specs.Globals.{empty_file}
use Rattle.gix_config.specs.Environment.{AreEntriesPut, env_meta}
use Rattle.gix_config.proofs.Entries.{count_count, entries_count, entries_made, entries_refused, includes_count, includes_refused}
use Rattle.gix_config.proofs.file.init.environment.env_file.Goals as goal

pub returns-in_err-put_entries-clause-made : goal.returns-in_err-put_entries-clause-made
returns-in_err-put_entries-clause-made g c =
    let variables = g.E.Env.variables c.args.env.now in
    let asks = asks_of c.args.options.now (g.F.Files.table c.args.files.now) in
    let first : c.in_ok-file.file ≡ empty_file env_meta = search rules in
    let put = subst (λ f. AreEntriesPut variables c.in_ok-count.count 0 f (Err (env_says c.in_err-put_entries.field-0.0))) first
    (subst (λ v. AreEntriesPut v c.in_ok-count.count 0 c.in_ok-file.file (Err (env_says c.in_err-put_entries.field-0.0))) c.count.ensures.stays c.in_err-put_entries.ensures.put) in
    entries_refused variables asks c.in_ok-count.count c.in_err-put_entries.field-0.0 c.from_residual-in_err-put_entries.result c.if-count-eq0.false c.in_ok-count.ensures.count put c.from_residual-in_err-put_entries.ensures.1

pub returns-in_err-put_entries-clause-counted : goal.returns-in_err-put_entries-clause-counted
returns-in_err-put_entries-clause-counted g c =
    entries_count (g.E.Env.variables c.count.new.env) c.in_ok-count.count c.in_ok-file.file c.in_err-put_entries.field-0.0 c.from_residual-in_err-put_entries.result (g.F.Files.failures c.args.files.now) (g.F.Files.failures c.args.files.now)
    c.from_residual-in_err-put_entries.ensures.1 c.in_err-put_entries.ensures.put refl

pub returns-in_err-expanded-clause-made : goal.returns-in_err-expanded-clause-made
returns-in_err-expanded-clause-made g c =
    let variables = g.E.Env.variables c.args.env.now in
    let asks = asks_of c.args.options.now (g.F.Files.table c.args.files.now) in
    let first : c.in_ok-file.file ≡ empty_file env_meta = search rules in
    let put = subst (λ f. AreEntriesPut variables c.in_ok-count.count 0 f (Ok c.put_entries.new.file)) first
    (subst (λ v. AreEntriesPut v c.in_ok-count.count 0 c.in_ok-file.file (Ok c.put_entries.new.file)) c.count.ensures.stays c.in_ok-put_entries.ensures.put) in
    includes_refused variables asks c.in_ok-count.count c.put_entries.new.file c.in_err-expanded.field-0.0 c.from_residual-in_err-expanded.result c.if-count-eq0.false c.in_ok-count.ensures.count put
    c.in_err-expanded.ensures.expanded c.from_residual-in_err-expanded.ensures.1

pub returns-in_err-expanded-clause-counted : goal.returns-in_err-expanded-clause-counted
returns-in_err-expanded-clause-counted g c =
    includes_count c.in_err-expanded.field-0.0 c.from_residual-in_err-expanded.result (g.F.Files.failures c.args.files.now) (g.F.Files.failures c.expanded.new.files) c.from_residual-in_err-expanded.ensures.1 c.in_err-expanded.ensures.counted

pub returns-clause-made : goal.returns-clause-made
returns-clause-made g c =
    let variables = g.E.Env.variables c.args.env.now in
    let asks = asks_of c.args.options.now (g.F.Files.table c.args.files.now) in
    let first : c.in_ok-file.file ≡ empty_file env_meta = search rules in
    let put = subst (λ f. AreEntriesPut variables c.in_ok-count.count 0 f (Ok c.put_entries.new.file)) first
    (subst (λ v. AreEntriesPut v c.in_ok-count.count 0 c.in_ok-file.file (Ok c.put_entries.new.file)) c.count.ensures.stays c.in_ok-put_entries.ensures.put) in
    entries_made variables asks c.in_ok-count.count c.put_entries.new.file c.in_ok-expanded.field-0 c.if-count-eq0.false c.in_ok-count.ensures.count put c.in_ok-expanded.ensures.expanded

pub returns-in_err-count-clause-counted : goal.returns-in_err-count-clause-counted
returns-in_err-count-clause-counted g c =
    count_count (g.E.Env.variables c.args.env.now) c.in_err-count.field-0.0 c.from_residual.result (g.F.Files.failures c.args.files.now) (g.F.Files.failures c.args.files.now)
    c.from_residual.ensures.1 c.in_err-count.ensures.count refl
