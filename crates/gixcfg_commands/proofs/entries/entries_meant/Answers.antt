use Rattle.std.proofs.Common.{◌∙◌, ap, map, refl, None, subst, sym}
use Rattle.gixcfg_core.specs.Entries.{plain_found}
use Rattle.gixcfg_core.specs.Patterns.{is_text, Means}
use Rattle.gixcfg_commands.specs.Entries.{marked, value_text}
use Rattle.gixcfg_commands.proofs.Marking.{all_kept, marked_by}
use Rattle.gixcfg_commands.proofs.entries.entries_meant.Goals as goal

pub returns-in-Any-clause-found : goal.returns-in-Any-clause-found
returns-in-Any-clause-found c =
    (is_text None, subst (λ values. Means values (is_text None)) (sym c.in-Any.is) refl, all_kept (λ f. is_text None (value_text f)) (map plain_found c.args.entries.items) (λ f. refl))

pub returns-clause-found : goal.returns-clause-found
returns-clause-found c =
    let is = c.in_ok-marks.ensures.marks in
    let entries = map plain_found c.args.entries.items in
    (is.0, is.1, c.in_ok-marked.ensures ∙ ap (λ marks. marked marks entries) (c.deref-2.ensures.value ∙ is.2 ∙ ap (λ es. map (λ f. is.0 (value_text f)) (map plain_found es)) c.deref.ensures.value) ∙ marked_by (λ f. is.0 (value_text f)) entries)
