use Rattle.std.proofs.Common.{refl}
use Rattle.gitconf_state.specs.Edits.{RemoveNumbered, answer}
use Rattle.gix_config_laws.specs.Headline.{no_memory}
use Rattle.gix_config_laws.proofs.ReadsBack.{is_free_step, only_memory, same_told}
use Rattle.gix_config_laws.proofs.steps.files.remove_section_by_id.Goals as goal

pub returns : goal.returns
returns c =
    let edit = RemoveNumbered c.args.id in
    let call = c.remove_section_by_id in
    is_free_step (λ _. answer edit c.args.file.now) no_memory edit call.result c.args.file.now call.new.self refl refl refl (only_memory call.result) (same_told (answer edit c.args.file.now) call.result) call.ensures.ok call.ensures.err
