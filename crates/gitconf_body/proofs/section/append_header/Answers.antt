use Rattle.std.proofs.Common.{rules, ◌≡◌, true, Some}
use Rattle.gitconf_text.specs.Names.{is_valid_or_none}
use Rattle.gitconf_items.specs.EventRef.{escaped_subsection}
use Rattle.gitconf_items.specs.ShownEvents.{decoded_or}
use Rattle.gitconf_body.specs.Lines.{QuotedStands}
use Rattle.gitconf_body.proofs.Headers.{quoted_shown}
use Rattle.gitconf_body.proofs.section.append_header.Goals as goal

pub returns-clause-shown : goal.returns-clause-shown
returns-clause-shown c =
    let stands : QuotedStands c.append_quoted.new.buffer.items c.in_ok-quoted.quoted c.args.name.now (escaped_subsection c.in-Some.subsection.now) = search rules in
    let copied : decoded_or c.copy_of.new.copies.items c.in_ok-decoded.decoded (Some (escaped_subsection c.in-Some.subsection.now)) ≡ Some c.in-Some.subsection.now = search rules in
    let valid : is_valid_or_none (Some c.in-Some.subsection.now) ≡ true = search rules in
    quoted_shown c.append_quoted.new.buffer.items c.copy_of.new.copies.items c.in_ok-quoted.quoted c.args.name.now c.in-Some.subsection.now c.in_ok-decoded.decoded stands valid
    c.in_ok-decoded.ensures.fits copied
