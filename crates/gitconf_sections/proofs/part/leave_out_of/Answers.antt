use Rattle.std.proofs.Common.{◌∙◌, ap, sym}
use Rattle.gitconf_sections.specs.LeavingOut.{without_all}
use Rattle.gitconf_sections.specs.Section.{body_items}
use Rattle.gitconf_sections.proofs.LeavingOut.{none_of_none}
use Rattle.gitconf_sections.proofs.part.leave_out_of.Goals as goal

pub returns-in-Nothing-clause-left : goal.returns-in-Nothing-clause-left
returns-in-Nothing-clause-left c =
    sym (ap (λ b. without_all c.args.places.now (body_items c.args.list.now.items b)) c.in-Nothing.is ∙ none_of_none c.args.places.now)
