use Rattle.std.proofs.Common.{rules, ◌≡◌, ◌∙◌, subst}
use Rattle.gitconf_sources.specs.Key.{key_of}
use Rattle.gix_config.specs.MultiValueEditors.{edited, targets_of}
use Rattle.gix_config_c.specs.NthValues.{IsNthDeleted}
use Rattle.gix_config_c.proofs.NthLemmas.{nth_deleted, none_deleted}
use Rattle.gix_config_c.proofs.nth.delete_of_key.Goals as goal

-- the entries were found, and one of them is edited
pub returns-in-Ok : goal.returns-in-Ok
returns-in-Ok c =
    let key = key_of c.args.key in
    subst (λ new. IsNthDeleted key c.args.index c.args.file.now new c.delete_one.result) (let is : edited c.delete_one.new.entries ≡ _ = search rules in is)
    (nth_deleted key c.args.index c.args.file.now (edited c.in-Ok.entries) (edited c.delete_one.new.entries) c.delete_one.result (targets_of c.in-Ok.entries) c.in-Ok.ensures.same_state c.in-Ok.ensures.found
    c.delete_one.ensures.answer)

-- there are none
pub returns-in-Err : goal.returns-in-Err
returns-in-Err c =
    let key = key_of c.args.key in
    subst (λ new. IsNthDeleted key c.args.index c.args.file.now new c.from.result) (let is : c.args.file.now ≡ _ = search rules in is)
    (none_deleted key c.args.index c.args.file.now c.from.result c.in-Err.refusal c.in-Err.ensures.found (c.from.ensures ∙ c.number.ensures))
