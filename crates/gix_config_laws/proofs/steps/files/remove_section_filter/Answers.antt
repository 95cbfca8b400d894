use Rattle.std.specs.Option.{option_copied}
use Rattle.gitconf_lookups.specs.Picks.{picked}
use Rattle.gix_config_laws.proofs.CallSteps.{filtered_weaker, removing_found}
use Rattle.gix_config_laws.proofs.steps.files.remove_section_filter.Goals as goal

pub returns : goal.returns
returns g c =
    let call = c.remove_section_filter in
    filtered_weaker (λ keeps s. removing_found (picked c.args.name.now (option_copied c.args.subsection_name) keeps s) call.result c.args.file.now call.new.self call.ensures.err)
    call.ensures.filtered
