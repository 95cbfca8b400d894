use Rattle.std.proofs.Common.{Some, [], refl, ap, sym, ◌∙◌}
use Rattle.std.specs.Option.{option_map}
use Rattle.gitconf_text.specs.Sections.{SectionEntry}
use Rattle.gitconf_sections.specs.Section.{Section, body_items, seen_as, with_items}
use Rattle.gitconf_sections.proofs.Changing.{body_within, if_ok, on_ok, on_two, row_edited, row_kept, row_undone, row_within}
use Rattle.gitconf_sections.proofs.RowLemmas.{entry_at}
use Rattle.gitconf_sections.proofs.sections.SectionList.take_items.Goals as goal

pub take_out-requires : goal.take_out-requires
take_out-requires c =
    let old = c.self.inside in
    let list = old.list.items in
    let r = c.index_mut-row.result.now in
    let within = row_within old.letters.items list old.rows.items c.args.position (rw (← c.self.view_is) at c.requires) in
    body_within c.self.invariant c.args.position r within c.index_mut-row.ensures.value

pub invariant_of-self : goal.invariant_of-self
invariant_of-self c =
    let old = c.self.inside in
    let list = old.list.items in
    let r = c.index_mut-row.result.now in
    let within = row_within old.letters.items list old.rows.items c.args.position (rw (← c.self.view_is) at c.requires) in
    row_kept c.self.invariant c.take_out.new.list.items c.args.position r (record r { body = c.take_out.new.body }) within c.index_mut-row.ensures.value refl refl c.take_out.ensures.same c.take_out.ensures.less

pub returns-clause-items : goal.returns-clause-items
returns-clause-items c =
    let old = c.self.inside in
    let r = c.index_mut-row.result.now in
    let there = entry_at old.letters.items old.list.items old.rows.items c.args.position r (rw (← c.self.view_is) at c.requires) c.index_mut-row.ensures.value in
    rw (← c.self.view_is) (if_ok c.take_out.result
    (λ own is. ap (λ o. option_map (λ (s : Section). s.items.items) (option_map (λ (e : SectionEntry Section). e.section) o)) there ∙ ap (λ xs. Some xs) (sym is)) c.take_out.ensures.ok)

pub returns-clause-ok : goal.returns-clause-ok
returns-clause-ok c =
    let old = c.self.inside in
    let list = old.list.items in
    let r = c.index_mut-row.result.now in
    let within = row_within old.letters.items list old.rows.items c.args.position (rw (← c.self.view_is) at c.requires) in
    let new = c.take_out.new.list.items in
    rw (← c.self.view_is) (on_ok c.take_out.result
    (λ nothing. row_edited c.self.invariant new c.args.position r (record r { body = c.take_out.new.body }) within c.index_mut-row.ensures.value refl refl c.take_out.ensures.same (with_items [])
    (λ i. seen_as r.header r.meta (body_items new (nothing i)) r.held.items)) c.take_out.ensures.nothing)

pub returns-clause-err : goal.returns-clause-err
returns-clause-err c =
    let old = c.self.inside in
    let list = old.list.items in
    let r = c.index_mut-row.result.now in
    let within = row_within old.letters.items list old.rows.items c.args.position (rw (← c.self.view_is) at c.requires) in
    rw (← c.self.view_is) (on_two c.take_out.result
    (λ body same. row_undone c.self.invariant c.take_out.new.list.items c.args.position r (record r { body = c.take_out.new.body }) within c.index_mut-row.ensures.value refl refl c.take_out.ensures.same (ap (λ b. record r { body = b }) body) same)
    c.take_out.ensures.err c.take_out.ensures.err_list)
