use Rattle.std.proofs.Common.{Ok, Err, subst}
use Rattle.gitconf_includes.specs.Rules.{Rules}
use Rattle.gitconf_loaders.specs.Errors.{env_says}
use Rattle.gix_config.specs.Environment.{IsFromEnv}
use Rattle.gix_config.proofs.Entries.{not_overridden, overridden}
use Rattle.gix_config.proofs.file.init.environment.overrides.Goals as goal

pub returns-clause-made : goal.returns-clause-made
returns-clause-made g c =
    let variables = g.E.Env.variables c.args.env.now in
    let table = g.F.Files.table c.args.files.now in
    let made = subst (λ (r : Rules). IsFromEnv variables (record { rules = r; table = table }) (Ok c.in_ok-made.made)) c.home_options.ensures.rules c.in_ok-made.ensures.made in
    overridden variables c.args.places.now table c.in_ok-made.made c.in_ok-or_empty.field-0 made c.in_ok-or_empty.ensures

pub returns-in_err-made-clause-made : goal.returns-in_err-made-clause-made
returns-in_err-made-clause-made g c =
    let variables = g.E.Env.variables c.args.env.now in
    let table = g.F.Files.table c.args.files.now in
    let made = subst (λ (r : Rules). IsFromEnv variables (record { rules = r; table = table }) (Err (env_says c.in_err-made.field-0.0))) c.home_options.ensures.rules c.in_err-made.ensures.made in
    not_overridden variables c.args.places.now table c.in_err-made.field-0.0 c.from_residual.result made c.from_residual.ensures.1
