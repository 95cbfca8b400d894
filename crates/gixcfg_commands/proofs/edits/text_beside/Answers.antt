use Rattle.std.proofs.Common.{◌++◌, ◌==◌, ◌∙◌, ap, rules}
use Rattle.std.specs.Prelude.{not}
use Rattle.std.specs.HashSet.{contains_by}
use Rattle.std.proofs.lemmas.Fn.{always_returns_same}
use Rattle.gitconf_state.specs.Printing.{printed_kept}
use Rattle.gixcfg_commands.proofs.Editing.{some_same}
use Rattle.gixcfg_commands.proofs.edits.text_beside.Goals as goal

pub returns-in-Ok : goal.returns-in-Ok
returns-in-Ok c =
    let gone = c.args.gone.now in
    let written = c.in-Ok.ensures.exact (λ s. not (contains_by (λ n. s.number == n) gone)) (always_returns_same _ _ _ (λ a r f' k. search rules)) in
    some_same _ _ written ∙ ap (λ front. front ++ printed_kept (λ s. not (contains_by (λ n. s.number == n) gone)) c.args.file.now) c.new-text.ensures.items
