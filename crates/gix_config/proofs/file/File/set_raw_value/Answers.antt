use Rattle.std.proofs.Common.{◌≡◌, true, subst}
use Rattle.std.specs.Prelude.{IfOk}
use Rattle.std.specs.Option.{option_map}
use Rattle.bstr.specs.Owned.{bstring_bytes}
use Rattle.gitconf_sources.specs.Key.{Key}
use Rattle.gitconf_state.specs.Edits.{Raw, answer}
use Rattle.gix_config.specs.Keys.{set_by_key}
use Rattle.gix_config.proofs.file.File.set_raw_value.Goals as goal

pub returns-clause-answer : goal.returns-clause-answer
returns-clause-answer g c =
    subst (λ (k : Key). IfOk c.set_raw_value_by.result (λ o. Raw (option_map bstring_bytes o) ≡ answer (set_by_key k (λ _. true) c.args.new_value.now) c.args.self.now))
    c.as_key-key.ensures c.set_raw_value_by.ensures.answer
