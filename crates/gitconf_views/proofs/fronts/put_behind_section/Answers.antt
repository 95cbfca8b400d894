use Rattle.std.proofs.Common.{◌++◌}
use Rattle.gitconf_sections.specs.Held.{line_end_item}
use Rattle.gitconf_views.proofs.Joined.{put_behind_held, same_sections}
use Rattle.gitconf_body.proofs.Outcomes.{on_err, on_ok}
use Rattle.gitconf_views.proofs.fronts.put_behind_section.Goals as goal

pub returns-clause-ok : goal.returns-clause-ok
returns-clause-ok c =
    on_ok c.append_held.result (put_behind_held c.args.sections.now c.args.other c.append_held.new.self c.args.at (line_end_item c.args.line_end ++ c.args.others.items) c.requires) c.append_held.ensures.ok

pub returns-clause-err : goal.returns-clause-err
returns-clause-err c = on_err c.append_held.result (same_sections c.args.sections.now c.append_held.new.self) c.append_held.ensures.err
