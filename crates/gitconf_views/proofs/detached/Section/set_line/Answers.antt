use Rattle.std.proofs.Common.{rules, ◌≡◌, true, Ok, Err, sym, subst, refl}
use Rattle.gitconf_text.specs.Names.{is_value_name}
use Rattle.gitconf_state.specs.Editors.{value_set}
use Rattle.gitconf_body.specs.Blanks.{given_editor}
use Rattle.gitconf_body.specs.Puts.{value_set_bytes}
use Rattle.gitconf_body.specs.ValueErrors.{of_span}
use Rattle.gitconf_body.proofs.Puts.{set_is}
use Rattle.gitconf_views.specs.Alone.{IsEditedAlone}
use Rattle.gitconf_views.proofs.AloneEdits.{alone_err, alone_ok}
use Rattle.gitconf_views.proofs.detached.Section.set_line.Goals as goal

pub returns-clause-done : goal.returns-clause-done
returns-clause-done c =
    let key = c.as_bytes-key.result.now in
    let editor = given_editor c.args.editor.now in
    let items = c.args.self.now.section.items in
    let named : is_value_name key ≡ true = search rules in
    subst (λ k. IsEditedAlone (value_set editor k c.args.value.now) k (value_set_bytes editor k c.args.value.now items) (Ok c.text_of.result) c.args.self.now c.set_entry.new.self) c.as_bytes-key.ensures.value
    (alone_ok c.in_ok-old.old c.text_of.result key (value_set editor key c.args.value.now) _ _ c.args.self.now c.set_entry.new.self named
    c.in_ok-old.ensures.ok c.in_ok-old.ensures.used (set_is c.args.editor.now key c.args.value.now items c.requires.given c.requires.puts))

pub returns-in_err-old-clause-done : goal.returns-in_err-old-clause-done
returns-in_err-old-clause-done c =
    let n = c.in_err-old.field-0.0 in
    let key = c.as_bytes-key.result.now in
    let editor = given_editor c.args.editor.now in
    let items = c.args.self.now.section.items in
    let named : is_value_name key ≡ true = search rules in
    let is : c.from_residual.result ≡ Err (of_span n) = search rules in
    subst (λ r. IsEditedAlone (value_set editor c.args.value_name.now c.args.value.now) c.args.value_name.now (value_set_bytes editor c.args.value_name.now c.args.value.now items) r c.args.self.now c.set_entry.new.self) (sym is)
    (subst (λ k. IsEditedAlone (value_set editor k c.args.value.now) k (value_set_bytes editor k c.args.value.now items) (Err (of_span n)) c.args.self.now c.set_entry.new.self) c.as_bytes-key.ensures.value
    (alone_err _ n (of_span n) key (value_set editor key c.args.value.now) _ _ c.args.self.now c.set_entry.new.self named
    c.in_err-old.ensures.err c.in_err-old.ensures.used (set_is c.args.editor.now key c.args.value.now items c.requires.given c.requires.puts) refl))
