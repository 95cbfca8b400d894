use Rattle.std.proofs.Common.{refl}
use Rattle.std.specs.Prelude.{option_map, string_bytes}
use Rattle.bstr.specs.Owned.{bstring_bytes}
use Rattle.gitconf_state.specs.Edits.{Entry, Pop}
use Rattle.gix_config.specs.SectionEditors.{edited, number_of}
use Rattle.gix_config_laws.specs.Headline.{no_memory}
use Rattle.gix_config_laws.proofs.ReadsBack.{is_free_step, only_memory}
use Rattle.gix_config_laws.proofs.steps.sections.pop.Goals as goal

pub returns : goal.returns
returns c =
    let section = c.args.section.now in
    let call = c.pop in
    is_free_step (λ o. Entry (option_map (λ t. (string_bytes t.0, bstring_bytes t.1)) o)) no_memory (Pop (number_of section)) call.result (edited section) (edited call.new.self) refl refl refl (only_memory call.result) call.ensures.answer call.ensures.ok call.ensures.err
