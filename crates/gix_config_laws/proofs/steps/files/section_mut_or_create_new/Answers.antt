use Rattle.std.proofs.Common.{rules, true}
use Rattle.std.specs.Option.{option_copied}
use Rattle.gitconf_lookups.specs.Picks.{picked}
use Rattle.gix_config_laws.proofs.CallSteps.{found_or_step, refused_or_step}
use Rattle.gix_config_laws.proofs.steps.files.section_mut_or_create_new.Goals as goal

pub returns-in-Ok : goal.returns-in-Ok
returns-in-Ok c =
    let name = c.args.name.now in
    let subsection = option_copied c.args.subsection_name in
    let found = picked name subsection (λ _. true) c.args.file.now in
    found_or_step name subsection found c.in-Ok.section c.id.result c.args.file.now _ c.in-Ok.ensures.exact c.id.ensures (search rules)

pub returns-in-Err : goal.returns-in-Err
returns-in-Err c =
    let name = c.args.name.now in
    let subsection = option_copied c.args.subsection_name in
    refused_or_step name subsection (picked name subsection (λ _. true) c.args.file.now) c.in-Err.e c.args.file.now _ c.in-Err.ensures.exact (search rules)
