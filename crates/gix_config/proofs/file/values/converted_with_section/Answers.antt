use Rattle.std.proofs.Common.{ap, subst}
use Rattle.std.specs.Option.{option_map}
use Rattle.gitconf_lookups.specs.Lookups.{shown_with}
use Rattle.gitconf_lookups.specs.Misses.{IsExisting}
use Rattle.gix_config.proofs.file.values.converted_with_section.Goals as goal

pub returns-in-Ok-try_from : goal.returns-in-Ok-try_from
returns-in-Ok-try_from g c = λ value miss found.
    let is = subst (λ r. IsExisting shown_with r value miss) c.in-Ok.is found in
    ((c.in-Ok.value, ap (option_map (λ v. v.0)) is, c.in-Ok-try_from.ensures), ap (option_map (λ v. v.1)) is)

pub returns-in-Err-try_from : goal.returns-in-Err-try_from
returns-in-Err-try_from g c = λ value miss found.
    let is = subst (λ r. IsExisting shown_with r value miss) c.in-Ok.is found in
    (c.in-Ok.value, ap (option_map (λ v. v.0)) is, c.in-Err-try_from.ensures)
