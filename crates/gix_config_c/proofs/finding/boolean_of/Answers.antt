use Rattle.std.proofs.Common.{Bor, Option, sym, subst}
use Rattle.std.specs.Option.{option_copied}
use Rattle.gitconf_sources.specs.Key.{key_of}
use Rattle.gix_config.specs.Typed.{IsBoolean}
use Rattle.gix_config_c.specs.Origins.{keeps_if}
use Rattle.gix_config_c.specs.declared.origin.Filter.{Filter}
use Rattle.gix_config_c.proofs.finding.boolean_of.Goals as goal

-- with a filter
pub returns-in-Some : goal.returns-in-Some
returns-in-Some c = subst (λ (filter : Option (Bor Filter)). IsBoolean (key_of c.args.key) (keeps_if (option_copied filter)) c.args.file.now c.boolean_where.result) (sym c.in-Some.is) c.boolean_where.ensures

-- and without one
pub returns-in-None : goal.returns-in-None
returns-in-None c = subst (λ (filter : Option (Bor Filter)). IsBoolean (key_of c.args.key) (keeps_if (option_copied filter)) c.args.file.now c.boolean_by.result) (sym c.in-None.is) c.boolean_by.ensures
