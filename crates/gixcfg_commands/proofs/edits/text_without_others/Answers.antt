use Rattle.std.proofs.Common.{◌-◌, ◌∙◌, ap, inl, inr, refl, subst}
use Rattle.gitconf_sources.specs.Key.{key_of}
use Rattle.gixcfg_commands.specs.Meant.{count_marked}
use Rattle.gixcfg_commands.specs.Setting.{IsGivenText}
use Rattle.gixcfg_commands.proofs.edits.text_without_others.Goals as goal

pub returns-in-Ok : goal.returns-in-Ok
returns-in-Ok c = λ stand.
    let set = c.args.giving.now.set.now in
    let count = count_marked c.args.others.now.marks.items in
    subst (λ file. IsGivenText set.comment (key_of set.key) (c.args.at - count) c.args.giving.now.value.now c.args.giving.now.before.now file c.given_text.result) c.in-Ok.ensures.ok
    (subst (λ at. IsGivenText set.comment (key_of set.key) at c.args.giving.now.value.now c.args.giving.now.before.now c.remove_meant.new.file c.given_text.result)
    (c.saturating_sub.ensures ∙ ap (λ n. c.args.at - n) c.count.ensures) c.given_text.ensures)

pub returns-in-Err : goal.returns-in-Err
returns-in-Err c = λ stand. inr (c.in-Err.trouble, inl (c.in-Err.ensures.memory stand), refl)
