use Rattle.std.proofs.Common.{subst}
use Rattle.gitconf_items.specs.declared.entry.EntryParts.{EntryParts}
use Rattle.gitconf_items.specs.Events.{bytes_of}
use Rattle.gitconf_items.specs.Items.{assigned_of}
use Rattle.gitconf_items.specs.ItemsFit.{AssignedFits}
use Rattle.gitconf_body.specs.Buffers.{StandsAt}
use Rattle.gitconf_body.specs.Copies.{IsCopy}
use Rattle.gitconf_body.proofs.Copies.{copied_as, entry_copied}
use Rattle.gitconf_body.proofs.copying.copied_entry.Goals as goal

pub returns-clause-copy : goal.returns-clause-copy
returns-clause-copy c =
    let from = c.args.from.now in
    let entry = c.args.entry.now in
    let first = c.copied_span.new.to.items in
    let second = c.copied_span-2.new.to.items in
    let to = c.copied_assigned.new.to.items in
    let parts : EntryParts = record { name = c.in_ok-name.name; blanks = c.in_ok-blanks.blanks; assigned = c.in_ok-assigned.assigned } in
    copied_as from to entry parts c.in_ok-try_new.field-0
    (entry_copied from first second to entry parts
    (subst (λ s. StandsAt first parts.name (bytes_of from s)) c.name.ensures c.in_ok-name.ensures.stands) c.in_ok-blanks.ensures.longer.extended
    (subst (λ s. StandsAt second parts.blanks (bytes_of from s)) c.blanks.ensures c.in_ok-blanks.ensures.stands) c.in_ok-assigned.ensures.longer.extended
    (subst (λ a. IsCopy assigned_of AssignedFits from to a parts.assigned) c.assigned.ensures c.in_ok-assigned.ensures.copy))
    c.in_ok-try_new.ensures.told c.in_ok-try_new.ensures.fits
