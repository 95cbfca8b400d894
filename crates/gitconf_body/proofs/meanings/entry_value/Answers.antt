use Rattle.std.proofs.Common.{◌≡◌, Some, ap, sym, ◌∙◌}
use Rattle.gitconf_text.specs.Document.{document_entry}
use Rattle.gitconf_text.specs.Value.{raw_of}
use Rattle.gitconf_items.specs.Events.{bytes_of}
use Rattle.gitconf_items.specs.Items.{entry_of, lent, value_of}
use Rattle.gitconf_body.proofs.Outcomes.{if_err_at_all}
use Rattle.gitconf_body.proofs.meanings.entry_value.Goals as goal

pub returns-in_err-decoded-in-Plain-clause-err : goal.returns-in_err-decoded-in-Plain-clause-err
returns-in_err-decoded-in-Plain-clause-err c =
    let b = c.args.buffer.now in
    let entry = c.args.entry.now in
    let raw : (document_entry (entry_of b entry)).raw ≡ Some (bytes_of b c.in-Plain.value) =
    sym (ap (λ a. (document_entry (entry_of b (record entry { assigned = a }))).raw) (ap lent (sym c.in-Plain.is) ∙ c.assigned.ensures)) in
    if_err_at_all c.from_residual.result (bytes_of b c.in-Plain.value, raw)

pub returns-in_err-joined-in-Continued-clause-err : goal.returns-in_err-joined-in-Continued-clause-err
returns-in_err-joined-in-Continued-clause-err c =
    let b = c.args.buffer.now in
    let entry = c.args.entry.now in
    let value = c.in-Continued.continued.now.value in
    let raw : (document_entry (entry_of b entry)).raw ≡ Some (raw_of (value_of b value)) =
    sym (ap (λ a. (document_entry (entry_of b (record entry { assigned = a }))).raw) (ap lent (sym c.in-Continued.is) ∙ c.assigned.ensures)) in
    if_err_at_all c.from_residual-in_err-joined-in-Continued.result (raw_of (value_of b value), raw)
