use Rattle.std.proofs.Common.{[], refl}
use Rattle.gitconf_sections.specs.declared.body.Body.TheVariants.{Nothing}
use Rattle.gitconf_sections.specs.Section.{with_items}
use Rattle.gitconf_sections.proofs.Changing.{row_edited, row_kept, row_within, same_list}
use Rattle.gitconf_sections.proofs.sections.SectionList.clear.Goals as goal

pub invariant_of-self : goal.invariant_of-self
invariant_of-self c =
    let old = c.self.inside in
    let r = c.index_mut-row.result.now in
    let within = row_within old.letters.items old.list.items old.rows.items c.args.position (rw (← c.self.view_is) at c.requires) in
    row_kept c.self.invariant old.list.items c.args.position r (record r { body = Nothing }) within c.index_mut-row.ensures.value refl refl (same_list old.list.items r.body) tt

pub returns : goal.returns
returns c =
    let old = c.self.inside in
    let r = c.index_mut-row.result.now in
    let within = row_within old.letters.items old.list.items old.rows.items c.args.position (rw (← c.self.view_is) at c.requires) in
    rw (← c.self.view_is)
    (row_edited c.self.invariant old.list.items c.args.position r (record r { body = Nothing }) within c.index_mut-row.ensures.value refl refl (same_list old.list.items r.body) (with_items []) refl)
