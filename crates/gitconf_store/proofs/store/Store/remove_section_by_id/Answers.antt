use Rattle.std.proofs.Common.{ap, sym, ◌∙◌}
use Rattle.gitconf_state.specs.Edits.{without_numbered}
use Rattle.gitconf_views.specs.Views.{shown}
use Rattle.gitconf_store.proofs.Places.Numbering.{numbered_has, taken_some, without_none}
use Rattle.gitconf_store.proofs.store.Store.remove_section_by_id.Goals as goal

pub returns-in_ok-section-in-Some-clause-taken : goal.returns-in_ok-section-in-Some-clause-taken
returns-in_ok-section-in-Some-clause-taken c =
    let old = c.args.self.now in
    let s = shown c.in-Some.section in
    taken_some _ s c.in_ok-section-in-Some.section old c.take_out.new.self c.in-Some.ensures c.in_ok-section-in-Some.ensures
    (c.take_out.ensures ∙ ap (λ id. without_numbered id old) (sym (numbered_has c.args.id old s c.in-Some.ensures)))

pub returns-in-None-clause-ok : goal.returns-in-None-clause-ok
returns-in-None-clause-ok c = without_none c.args.id c.args.self.now c.in-None.ensures
