use Rattle.std.proofs.Common.{◌≡◌, None, Some, rules, subst}
use Rattle.std.specs.Prelude.{IfOk}
use Rattle.gitconf_sources.specs.Key.{key_of}
use Rattle.gixcfg_commands.specs.Meant.{holders_of, last_at}
use Rattle.gixcfg_commands.specs.Setting.{IsGivenAs}
use Rattle.gixcfg_commands.proofs.edits.give.Goals as goal

pub returns-in-Some-clause-done : goal.returns-in-Some-clause-done
returns-in-Some-clause-done c =
    let key = key_of c.args.giving.now.set.now.key in
    let is : Some c.in-Some.id ≡ last_at c.args.at (holders_of key c.args.file.now) = search rules in
    subst (λ last. IfOk c.set_last.result (λ _. IsGivenAs last key c.args.at c.args.giving.now.value.now c.args.file.now c.set_last.new.file)) is c.set_last.ensures.done

pub returns-in-None-clause-done : goal.returns-in-None-clause-done
returns-in-None-clause-done c =
    let key = key_of c.args.giving.now.set.now.key in
    let is : None ≡ last_at c.args.at (holders_of key c.args.file.now) = search rules in
    subst (λ last. IfOk c.rewrite.result (λ _. IsGivenAs last key c.args.at c.args.giving.now.value.now c.args.file.now c.rewrite.new.file)) is c.rewrite.ensures.done
