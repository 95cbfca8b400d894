use Rattle.std.proofs.Common.{refl}
use Rattle.gix_config_laws.specs.Steps.{raw}
use Rattle.gitconf_state.specs.Edits.{Remove}
use Rattle.gix_config.specs.SectionEditors.{edited, number_of}
use Rattle.gix_config_laws.specs.Headline.{no_memory}
use Rattle.gix_config_laws.proofs.ReadsBack.{is_free_step, only_memory}
use Rattle.gix_config_laws.proofs.steps.sections.remove.Goals as goal

pub returns : goal.returns
returns c =
    let section = c.args.section.now in
    let call = c.remove in
    is_free_step raw no_memory (Remove (number_of section) c.args.value_name.now) call.result (edited section) (edited call.new.self) refl refl refl (only_memory call.result) call.ensures.answer call.ensures.ok call.ensures.err
