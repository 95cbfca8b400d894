use Rattle.std.proofs.Common.{None, Err, subst}
use Rattle.gitconf_includes.specs.Errors.{says}
use Rattle.gitconf_includes.specs.Expansion.{Expands, Leaves, Reached}
use Rattle.gitconf_includes.specs.Outcomes.{asks_of}
use Rattle.gitconf_loaders.proofs.Made.{made, not_expanded, not_loaded}
use Rattle.gitconf_loaders.proofs.resolving.resolved_text.Goals as goal

pub returns-in_err-store-clause-made : goal.returns-in_err-store-clause-made
returns-in_err-store-clause-made g c =
    not_loaded (asks_of c.args.options.now (g.F.Files.table c.args.files.now)) c.args.text.items c.args.meta.value c.in_err-store.field-0.0 c.from_residual.result c.in_err-store.ensures.refused c.from_residual.ensures.1

pub returns-in-Ok-clause-made : goal.returns-in-Ok-clause-made
returns-in-Ok-clause-made g c =
    let asks = asks_of c.args.options.now (g.F.Files.table c.args.files.now) in
    made asks c.args.text.items c.args.meta.value c.in_ok-store.store c.resolve-store.result.store c.in_ok-store.ensures.loaded
    (subst (λ x. (r : Reached) × Expands asks.rules.max_depth asks None c.in_ok-store.store r × Leaves says x c.resolve-store.result.store r) c.in-Ok.is c.resolve-store.ensures.expanded)

pub returns-in-Err-clause-made : goal.returns-in-Err-clause-made
returns-in-Err-clause-made g c =
    let asks = asks_of c.args.options.now (g.F.Files.table c.args.files.now) in
    not_expanded asks c.args.text.items c.args.meta.value c.in_ok-store.store c.resolve-store.result.store c.in-Err.refused (Err c.from.result) c.in_ok-store.ensures.loaded
    (subst (λ x. (r : Reached) × Expands asks.rules.max_depth asks None c.in_ok-store.store r × Leaves says x c.resolve-store.result.store r) c.in-Err.is c.resolve-store.ensures.expanded) c.from.ensures
