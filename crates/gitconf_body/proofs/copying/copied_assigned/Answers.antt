use Rattle.std.proofs.Common.{sym, subst}
use Rattle.gitconf_items.specs.Items.{assigned_of, lent}
use Rattle.gitconf_items.specs.ItemsFit.{AssignedFits}
use Rattle.gitconf_body.specs.Copies.{IsCopy}
use Rattle.gitconf_body.proofs.Copies.{continued_copied}
use Rattle.gitconf_body.proofs.copying.copied_assigned.Goals as goal

pub returns-in_ok-value-in-Continued-clause-copy : goal.returns-in_ok-value-in-Continued-clause-copy
returns-in_ok-value-in-Continued-clause-copy c =
    let first = c.copied_span-in-Continued.new.to.items in
    let blanks = c.in_ok-blanks-in-Continued.blanks in
    let value = c.in_ok-value-in-Continued.value in
    subst (λ a. IsCopy assigned_of AssignedFits c.args.from.now c.copied_value.new.to.items (lent a) c.of_value.result) (sym c.in-Continued.is)
    (continued_copied c.args.from.now first c.copied_value.new.to.items c.in-Continued.continued.now blanks value c.of_value.result
    c.in_ok-blanks-in-Continued.ensures.stands c.in_ok-value-in-Continued.ensures.longer.extended c.in_ok-value-in-Continued.ensures.copy
    c.of_value.ensures.told c.of_value.ensures.fits)
