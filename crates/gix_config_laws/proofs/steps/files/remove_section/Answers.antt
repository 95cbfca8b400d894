use Rattle.std.specs.Option.{option_copied}
use Rattle.std.specs.Prelude.{true}
use Rattle.gix_config_laws.proofs.CallSteps.{removing_step}
use Rattle.gix_config_laws.proofs.steps.files.remove_section.Goals as goal

pub returns : goal.returns
returns c = removing_step c.args.name.now (option_copied c.args.subsection_name) (λ _. true) c.remove_section.result c.args.file.now c.remove_section.new.self c.remove_section.ensures.ok c.remove_section.ensures.err
