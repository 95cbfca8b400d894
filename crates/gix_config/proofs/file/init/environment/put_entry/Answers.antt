use Rattle.std.proofs.Common.{Ok, Err, subst, string_bytes}
use Rattle.std.specs.Option.{option_map}
use Rattle.gitconf_loaders.specs.Errors.{env_says}
use Rattle.gitconf_loaders.specs.Paths.{left_by}
use Rattle.gitconf_loaders.specs.Variables.{IsValueAt}
use Rattle.gix_config.proofs.Entries.{entry_put, key_refused, value_refused}
use Rattle.gix_config.proofs.file.init.environment.put_entry.Goals as goal

pub returns-in_err-key-clause-put : goal.returns-in_err-key-clause-put
returns-in_err-key-clause-put g c =
    key_refused (g.E.Env.variables c.args.env.now) c.args.index c.args.file.now c.args.file.now c.in_err-key.field-0.0 c.from_residual.result c.in_err-key.ensures.key c.from_residual.ensures.1

pub returns-in_err-value-clause-put : goal.returns-in_err-value-clause-put
returns-in_err-value-clause-put g c =
    value_refused (g.E.Env.variables c.args.env.now) c.args.index (string_bytes c.in_ok-key.key) c.args.file.now c.args.file.now c.in_err-value.field-0.0 c.from_residual-in_err-value.result c.in_ok-key.ensures.key
    (subst (λ v. IsValueAt v c.args.index (Err (env_says c.in_err-value.field-0.0))) c.key_at.ensures.stays c.in_err-value.ensures.value) c.from_residual-in_err-value.ensures.1

pub returns-clause-put : goal.returns-clause-put
returns-clause-put g c =
    entry_put (g.E.Env.variables c.args.env.now) c.args.index (string_bytes c.in_ok-key.key) (option_map string_bytes c.in_ok-value.value) c.args.file.now (left_by env_says c.put_under.result c.put_under.new.file)
    c.in_ok-key.ensures.key (subst (λ v. IsValueAt v c.args.index (Ok (option_map string_bytes c.in_ok-value.value))) c.key_at.ensures.stays c.in_ok-value.ensures.value) c.put_under.ensures
