use Rattle.std.proofs.Common.{◌∙◌, ap, map}
use Rattle.gixcfg_core.specs.Entries.{PlainFound, plain_found}
use Rattle.gixcfg_core.specs.Patterns.{is_found}
use Rattle.gixcfg_commands.specs.Entries.{marked}
use Rattle.gixcfg_commands.proofs.Marking.{marked_by}
use Rattle.gixcfg_commands.proofs.entries.entries_like.Goals as goal

pub returns-clause-found : goal.returns-clause-found
returns-clause-found c =
    let is = c.in_ok-marks.ensures.marks in
    let entries = map plain_found c.args.entries.items in
    (is.0, is.1, c.in_ok-marked.ensures ∙ ap (λ marks. marked marks entries) (c.deref-2.ensures.value ∙ is.2 ∙ ap (λ es. map (λ (f : PlainFound). is_found is.0 f.names) (map plain_found es)) c.deref.ensures.value) ∙ marked_by (λ (f : PlainFound). is_found is.0 f.names) entries)
