use Rattle.std.proofs.Common.{◌≡◌, false, true, None, subst, sym}
use Rattle.gitconf_state.specs.Edit.{old_value}
use Rattle.gitconf_views.specs.AloneEditors.{edited}
use Rattle.gitconf_views.proofs.detached.editor.DetachedSectionMut.remove.Goals as goal

pub returns-in_err-old-clause-none : goal.returns-in_err-old-clause-none
returns-in_err-old-clause-none c = λ none.
    let refused : false ≡ true = c.in_err-old.ensures.none (subst (λ key. old_value key (edited c.args.self.now).section.items ≡ None) (sym c.as_bytes.ensures.value) none) in
    absurd (cc)
