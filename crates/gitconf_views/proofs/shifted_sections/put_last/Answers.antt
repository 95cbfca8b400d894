use Rattle.std.proofs.Common.{refl, sym, append-nil, []}
use Rattle.std.specs.Option.{option_copied}
use Rattle.gitconf_sections.specs.Section.{made}
use Rattle.gitconf_views.proofs.Loading.{added_fits}
use Rattle.gitconf_body.proofs.Outcomes.{on_ok}
use Rattle.gitconf_views.proofs.shifted_sections.put_last.Goals as goal

pub returns-clause-fits : goal.returns-clause-fits
returns-clause-fits c =
    let copies = c.args.copies.now in
    on_ok c.push.result (λ is.
    added_fits c.args.buffer.now copies copies c.args.table.now c.push.new.self (made c.args.header c.args.meta c.args.items.items) c.bytes_in-name.result.now (option_copied c.subsection_name-subsection.result)
    c.requires.fits ([], sym (append-nil copies)) c.requires.header c.requires.items refl c.bytes_in-name.ensures c.subsection_name-subsection.ensures is) c.push.ensures.ok
