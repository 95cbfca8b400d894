use Rattle.std.proofs.Common.{refl}
use Rattle.gitconf_state.specs.Edits.{Done, SetTrust}
use Rattle.gix_config.specs.SectionEditors.{edited, number_of}
use Rattle.gix_config_laws.specs.Headline.{no_memory}
use Rattle.gix_config_laws.proofs.ReadsBack.{is_free_step, only_memory, same_told}
use Rattle.gix_config_laws.proofs.steps.sections.set_trust.Goals as goal

pub returns : goal.returns
returns c =
    let section = c.args.section.now in
    let call = c.set_trust in
    is_free_step (λ _. Done) no_memory (SetTrust (number_of section) c.args.trust) call.result (edited section) (edited call.new.self) refl refl refl (only_memory call.result) (same_told Done call.result) call.ensures.ok call.ensures.err
