use Rattle.std.proofs.Common.{rules, refl, sym, ap, ◌∙◌}
use Rattle.std.specs.Option.{option_copied}
use Rattle.gitconf_text.specs.Token.{HeaderToken}
use Rattle.gitconf_items.specs.ShownEvents.{shown_token}
use Rattle.gitconf_views.proofs.Loading.{added_fits}
use Rattle.gitconf_views.proofs.load.add_section.Goals as goal

pub returns-in-Ok-clause-fits : goal.returns-in-Ok-clause-fits
returns-in-Ok-clause-fits c =
    let h = c.in_ok-header.ensures in
    added_fits c.args.buffer.now c.args.copies.now.items c.decoded_header.new.copies.items c.args.sections.now c.push_loaded.new.self _ _ (option_copied c.subsection_name-subsection.result)
    c.requires.fits h.extended
    (record { fits = h.fits; copy_fits = h.copy_fits; shown = h.shown ∙ ap (λ t. shown_token (HeaderToken t)) (sym h.same) })
    c.requires.items refl c.bytes_in-name.ensures
    (search rules)
    c.in-Ok.ensures.ok
