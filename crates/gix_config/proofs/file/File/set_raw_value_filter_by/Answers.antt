use Rattle.std.proofs.Common.{◌≡◌, subst}
use Rattle.std.specs.Prelude.{IfOk}
use Rattle.std.specs.Option.{option_copied, option_map}
use Rattle.bstr.specs.Owned.{bstring_bytes}
use Rattle.gitconf_state.specs.Edits.{Raw, SetRawValue, answer}
use Rattle.gitconf_store.specs.Edited.{IsEdited}
use Rattle.gitconf_store.specs.SetErrors.{set_refusal}
use Rattle.gix_config.proofs.file.File.set_raw_value_filter_by.Goals as goal

pub returns-clause-exact : goal.returns-clause-exact
returns-clause-exact g c = λ keeps h.
    subst (λ s. IsEdited set_refusal (SetRawValue c.args.section_name.now (option_copied c.args.subsection_name) c.args.value_name.now keeps c.args.new_value.now) c.set_raw_value_filter_by.result s c.set_raw_value_filter_by.new.self)
    c.self.view_is (c.set_raw_value_filter_by.ensures.exact keeps h)

pub returns-clause-answer : goal.returns-clause-answer
returns-clause-answer g c = λ keeps h.
    subst (λ s. IfOk c.set_raw_value_filter_by.result (λ o. Raw (option_map bstring_bytes o)
    ≡ answer (SetRawValue c.args.section_name.now (option_copied c.args.subsection_name) c.args.value_name.now keeps c.args.new_value.now) s))
    c.self.view_is (c.set_raw_value_filter_by.ensures.answer keeps h)
