use Rattle.std.proofs.Common.{◌++◌, length, refl, ap, ◌∙◌}
use Rattle.gitconf_text.specs.Sections.{with_all}
use Rattle.gitconf_sections.specs.Held.{line_end_item}
use Rattle.gitconf_views.proofs.Joined.{put_behind_none, same_sections}
use Rattle.gitconf_body.proofs.Outcomes.{if_err_at_all}
use Rattle.gitconf_views.proofs.fronts.put_behind_front.Goals as goal

pub returns-in_err-reserve-clause-err : goal.returns-in_err-reserve-clause-err
returns-in_err-reserve-clause-err c = if_err_at_all c.from_residual.result (same_sections c.args.sections.now c.args.sections.now refl)

pub returns-in_err-append-clause-err : goal.returns-in_err-append-clause-err
returns-in_err-append-clause-err c = if_err_at_all c.from_residual-in_err-append.result (same_sections c.args.sections.now c.append.new.self c.in_err-append.ensures.err)

pub returns-clause-ok : goal.returns-clause-ok
returns-clause-ok c =
    λ at. put_behind_none c.args.sections.now c.args.other c.append.new.self at (line_end_item c.args.line_end ++ c.args.others.items) c.requires.none
    (c.in_ok-append.ensures.ok ∙ ap (λ es. with_all (length es) c.args.other c.args.sections.now) c.requires.none)
