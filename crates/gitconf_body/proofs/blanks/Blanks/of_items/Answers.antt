use Rattle.std.proofs.Common.{◌≡◌, true, ap, sym, subst, ◌∙◌}
use Rattle.std.specs.List.{list_all}
use Rattle.gitconf_text.specs.Bytes.{is_blank}
use Rattle.gitconf_state.proofs.Edits.Items.{spacing_fits}
use Rattle.gitconf_items.specs.Items.{items_of}
use Rattle.gitconf_body.proofs.blanks.Blanks.of_items.Goals as goal

pub invariant_of-result : goal.invariant_of-result
invariant_of-result c =
    let told = c.editor_of-found.ensures.told c.args.buffer.now in
    let fits = spacing_fits (items_of c.args.buffer.now c.args.items.now) c.requires in
    record {
      before = subst (λ run. list_all is_blank run ≡ true) (sym (ap (λ p. p.0) c.in_ok-before.ensures ∙ ap (λ e. e.spacing.before) told)) fits.before;
      behind = subst (λ run. list_all is_blank run ≡ true) (sym (ap (λ p. p.1) c.in_ok-before.ensures ∙ ap (λ e. e.spacing.behind) told)) fits.behind;
    }
