use Rattle.std.proofs.Common.{rules, ◌≡◌, ◌∙◌, subst}
use Rattle.gitconf_sources.specs.Key.{key_of}
use Rattle.gix_config.specs.MultiValueEditors.{edited, targets_of}
use Rattle.gix_config_c.specs.NthValues.{IsNthSet}
use Rattle.gix_config_c.proofs.NthLemmas.{nth_set, none_set}
use Rattle.gix_config_c.proofs.nth.set_of_key.Goals as goal

-- the entries were found, and one of them is edited
pub returns-in-Ok : goal.returns-in-Ok
returns-in-Ok c =
    let key = key_of c.args.key in
    subst (λ new. IsNthSet key c.args.index c.args.value.now c.args.file.now new c.set_one.result) (let is : edited c.set_one.new.entries ≡ _ = search rules in is)
    (nth_set key c.args.index c.args.value.now c.args.file.now (edited c.in-Ok.entries) (edited c.set_one.new.entries) c.set_one.result (targets_of c.in-Ok.entries) c.in-Ok.ensures.same_state c.in-Ok.ensures.found
    c.set_one.ensures.answer)

-- there are none
pub returns-in-Err : goal.returns-in-Err
returns-in-Err c =
    let key = key_of c.args.key in
    subst (λ new. IsNthSet key c.args.index c.args.value.now c.args.file.now new c.from.result) (let is : c.args.file.now ≡ _ = search rules in is)
    (none_set key c.args.index c.args.value.now c.args.file.now c.from.result c.in-Err.refusal c.in-Err.ensures.found (c.from.ensures ∙ c.number.ensures))
