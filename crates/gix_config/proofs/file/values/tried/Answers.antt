use Rattle.std.proofs.Common.{ap, subst, sym, ◌∙◌}
use Rattle.std.specs.Option.{option_map}
use Rattle.bstr.specs.Owned.{bstring_bytes}
use Rattle.gitconf_lookups.specs.Lookups.{IsFound}
use Rattle.gix_config.proofs.file.values.tried.Goals as goal

pub returns-in-Ok : goal.returns-in-Ok
returns-in-Ok g c = λ value is. (c.in-Ok-Some.value, sym (subst (λ r. IsFound bstring_bytes r value) c.in-Ok-Some.is is) ∙ ap (option_map bstring_bytes) c.in-Ok-Some.field-0-is, c.in-Ok.ensures)

pub returns-in-Err-try_from : goal.returns-in-Err-try_from
returns-in-Err-try_from g c = λ value is. (c.in-Ok-Some.value, sym (subst (λ r. IsFound bstring_bytes r value) c.in-Ok-Some.is is) ∙ ap (option_map bstring_bytes) c.in-Ok-Some.field-0-is, c.in-Err-try_from.ensures)
