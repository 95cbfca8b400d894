use Rattle.std.proofs.Common.{Some, [], refl, ap, sym, ◌∙◌}
use Rattle.std.specs.Option.{option_map}
use Rattle.gitconf_text.specs.Sections.{SectionEntry}
use Rattle.gitconf_sections.specs.Held.{HeldItems}
use Rattle.gitconf_sections.specs.Section.{Section, body_items, seen_as}
use Rattle.gitconf_sections.proofs.Changing.{row_edited, row_kept, row_within, same_list}
use Rattle.gitconf_sections.proofs.Listing.{needs_itself}
use Rattle.gitconf_sections.proofs.RowLemmas.{entry_at}
use Rattle.gitconf_sections.proofs.sections.SectionList.take_held.Goals as goal

pub invariant_of-self : goal.invariant_of-self
invariant_of-self c =
    let old = c.self.inside in
    let r = c.index_mut-row.result.now in
    let within = row_within old.letters.items old.list.items old.rows.items c.args.position (rw (← c.self.view_is) at c.requires) in
    row_kept c.self.invariant old.list.items c.args.position r (record r { held = c.replace.new.dest }) within c.index_mut-row.ensures.value refl refl (same_list old.list.items r.body) (needs_itself r.body)

pub returns-clause-held : goal.returns-clause-held
returns-clause-held c =
    let old = c.self.inside in
    let r = c.index_mut-row.result.now in
    let there = entry_at old.letters.items old.list.items old.rows.items c.args.position r (rw (← c.self.view_is) at c.requires) c.index_mut-row.ensures.value in
    rw (← c.self.view_is) (ap (λ o. option_map (λ (s : Section). s.held.items) (option_map (λ (e : SectionEntry Section). e.section) o)) there ∙ ap (λ (h : HeldItems). Some h.items) (sym c.replace.ensures.value))

pub returns-clause-left : goal.returns-clause-left
returns-clause-left c =
    let old = c.self.inside in
    let list = old.list.items in
    let r = c.index_mut-row.result.now in
    let within = row_within old.letters.items list old.rows.items c.args.position (rw (← c.self.view_is) at c.requires) in
    rw (← c.self.view_is)
    (row_edited c.self.invariant list c.args.position r (record r { held = c.replace.new.dest }) within c.index_mut-row.ensures.value refl refl (same_list list r.body) (λ s. record s { held = record { items = [] } })
    (λ i. seen_as r.header r.meta (body_items list r.body) ((ap (λ (h : HeldItems). h.items) c.replace.ensures.after ∙ c.none.ensures) i)))
