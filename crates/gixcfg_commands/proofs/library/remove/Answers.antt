use Rattle.std.proofs.Common.{◌≡◌, ◌∙◌, rules, subst, sym}
use Rattle.std.proofs.lemmas.Result.{IfOk-weaker}
use Rattle.std.specs.Prelude.{IfOk}
use Rattle.gitconf_state.specs.Clean.{IsClean}
use Rattle.gitconf_state.specs.Edits.{Remove, apply}
use Rattle.gix_config.specs.SectionEditors.{edited, number_of}
use Rattle.gixcfg_commands.proofs.MeantLemmas.{found_number}
use Rattle.gixcfg_commands.proofs.library.remove.Goals as goal

pub returns-in-Ok-clause-clean : goal.returns-in-Ok-clause-clean
returns-in-Ok-clause-clean c = λ clean.
    subst (λ new. IfOk c.remove_from.result (λ _. IsClean new)) (search rules) (c.remove_from.ensures.clean (subst IsClean (sym c.in-Ok.ensures.same_state) clean))

pub returns-in-Ok-clause-done : goal.returns-in-Ok-clause-done
returns-in-Ok-clause-done c =
    let name = c.args.key.value_name.now in
    let file = c.args.file.now in
    subst (λ new. IfOk c.remove_from.result (λ _. new ≡ apply (Remove c.args.id name) file)) (search rules)
    (IfOk-weaker c.remove_from.result (λ _. edited c.remove_from.new.section ≡ apply (Remove (number_of c.in-Ok.section) name) (edited c.in-Ok.section))
    (λ _. edited c.remove_from.new.section ≡ apply (Remove c.args.id name) file)
    (λ x is. is ∙ (λ i. apply (Remove (found_number c.args.id file c.in-Ok.section c.in-Ok.ensures.found i) name) (c.in-Ok.ensures.same_state i))) c.remove_from.ensures.done)
