use Rattle.std.proofs.Common.{rules, ◌≡◌, Some, subst}
use Rattle.std.specs.Option.{option_copied, option_map}
use Rattle.gitconf_sources.specs.Key.{key_of}
use Rattle.gix_config.specs.SectionEditors.{edited, editor, editor_at, number_of}
use Rattle.gix_config_c.specs.Entries.{IsPushed, section_of}
use Rattle.gix_config_c.proofs.ValueLemmas.{pushed_in}
use Rattle.gix_config_c.proofs.editing.push_value.Goals as goal

pub returns-in-Ok-clause-answer : goal.returns-in-Ok-clause-answer
returns-in-Ok-clause-answer c =
    let key = key_of c.args.key in
    let value = option_copied c.args.value in
    let found : option_map (editor_at c.args.file.now) (section_of key c.args.file.now) ≡ Some (number_of c.in-Ok.section, editor c.in-Ok.section) = search rules in
    subst (λ new. IsPushed key value c.args.file.now new c.push_entry.result) (let is : edited c.push_entry.new.section ≡ _ = search rules in is)
    (pushed_in key value c.args.file.now (edited c.in-Ok.section) (edited c.push_entry.new.section) c.push_entry.result (number_of c.in-Ok.section) (editor c.in-Ok.section) c.in-Ok.ensures.same_state found
    c.push_entry.ensures.answer)
