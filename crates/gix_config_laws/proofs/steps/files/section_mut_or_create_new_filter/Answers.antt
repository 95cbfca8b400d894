use Rattle.std.proofs.Common.{rules}
use Rattle.std.specs.Option.{option_copied}
use Rattle.gitconf_lookups.specs.Picks.{picked}
use Rattle.gix_config_laws.proofs.CallSteps.{filtered_weaker, found_or_step, refused_or_step}
use Rattle.gix_config_laws.proofs.steps.files.section_mut_or_create_new_filter.Goals as goal

pub returns-in-Ok : goal.returns-in-Ok
returns-in-Ok g c =
    let name = c.args.name.now in
    let subsection = option_copied c.args.subsection_name in
    filtered_weaker (λ keeps s is. found_or_step name subsection (picked name subsection keeps s) c.in-Ok.section c.id.result c.args.file.now _ is c.id.ensures (search rules))
    c.in-Ok.ensures.filtered

pub returns-in-Err : goal.returns-in-Err
returns-in-Err g c =
    let name = c.args.name.now in
    let subsection = option_copied c.args.subsection_name in
    filtered_weaker (λ keeps s is. refused_or_step name subsection (picked name subsection keeps s) c.in-Err.e c.args.file.now _ is (search rules)) c.in-Err.ensures.filtered
