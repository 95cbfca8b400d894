use Rattle.std.proofs.Common.{rules, ◌≡◌, ◌-◌, ◌≤◌, length, refl, ap, sym, subst}
use Rattle.std.specs.Option.{option_map}
use Rattle.std.specs.Prelude.{IfSome}
use Rattle.gitconf_items.specs.ItemsFit.{AreItemsWithin}
use Rattle.gitconf_items.specs.Moves.{AreItemsMoved}
use Rattle.gitconf_text.specs.Sections.{SectionEntry, section_at}
use Rattle.gitconf_sections.specs.declared.row.Row.{Row}
use Rattle.gitconf_sections.specs.Moves.{IsMovable}
use Rattle.gitconf_sections.specs.Section.{Section, body_items, end_behind, read, IsSameButIn, NeedsNoMore}
use Rattle.gitconf_sections.proofs.Changing.{body_within, row_kept, row_put, row_within}
use Rattle.gitconf_sections.proofs.RowLemmas.{entry_at}
use Rattle.gitconf_sections.proofs.sections.SectionList.move_section.Goals as goal

pub move_body-requires-clause-within : goal.move_body-requires-clause-within
move_body-requires-clause-within c =
    let old = c.self.inside in
    let list = old.list.items in
    let r = c.index_mut-row.result.now in
    let within = row_within old.letters.items list old.rows.items c.args.position (rw (← c.self.view_is) at c.requires.position) in
    let body : c.replace-body.result ≡ r.body = search rules in
    subst (λ b. end_behind 0 b ≤ length list) (sym body) (body_within c.self.invariant c.args.position r within c.index_mut-row.ensures.value)

pub move_body-requires-clause-items : goal.move_body-requires-clause-items
move_body-requires-clause-items c =
    let old = c.self.inside in
    let list = old.list.items in
    let r = c.index_mut-row.result.now in
    let body : c.replace-body.result ≡ r.body = search rules in
    let there = ap (option_map (λ (e : SectionEntry Section). e.section)) (entry_at old.letters.items list old.rows.items c.args.position r (rw (← c.self.view_is) at c.requires.position) c.index_mut-row.ensures.value) in
    let some = subst (λ all. IfSome (section_at c.args.position all) (IsMovable c.args.by c.args.copies_by)) (sym c.self.view_is) c.requires.movable in
    let movable : IsMovable c.args.by c.args.copies_by (read list r) = subst (λ o. IfSome o (IsMovable c.args.by c.args.copies_by)) there some in
    subst (λ b. AreItemsWithin (4294967295 - c.args.by) (body_items list b)) (sym body) movable.items

pub invariant_of-self : goal.invariant_of-self
invariant_of-self c =
    let old = c.self.inside in
    let list = old.list.items in
    let r = c.index_mut-row.result.now in
    let within = row_within old.letters.items list old.rows.items c.args.position (rw (← c.self.view_is) at c.requires.position) in
    let t : Row = record r { header = c.moved_header-row.result; body = c.move_body.result; held = c.move_by.new.self } in
    let new = c.move_body.new.list.items in
    let body : c.replace-body.result ≡ r.body = search rules in
    let same = subst (IsSameButIn list new) body c.move_body.ensures.same in
    let less = subst (λ b. NeedsNoMore b c.move_body.result) body c.move_body.ensures.less in
    row_kept c.self.invariant new c.args.position r t within c.index_mut-row.ensures.value refl refl same less

pub returns : goal.returns
returns c =
    let old = c.self.inside in
    let list = old.list.items in
    let r = c.index_mut-row.result.now in
    let within = row_within old.letters.items list old.rows.items c.args.position (rw (← c.self.view_is) at c.requires.position) in
    let t : Row = record r { header = c.moved_header-row.result; body = c.move_body.result; held = c.move_by.new.self } in
    let new = c.move_body.new.list.items in
    let body : c.replace-body.result ≡ r.body = search rules in
    let same = subst (IsSameButIn list new) body c.move_body.ensures.same in
    let moved = subst (λ b. AreItemsMoved c.args.by (body_items list b) (body_items new c.move_body.result)) body c.move_body.ensures.moved in
    rw (← c.self.view_is) (record {
      section = read list r;
      moved = read new t;
      there = ap (option_map (λ (e : SectionEntry Section). e.section)) (entry_at old.letters.items list old.rows.items c.args.position r (rw (← c.self.view_is) at c.requires.position) c.index_mut-row.ensures.value);
      is_moved = record { header = c.moved_header-row.ensures; meta = refl; items = moved; held = c.move_by.ensures };
      all = row_put c.self.invariant new c.args.position r t within c.index_mut-row.ensures.value refl refl same;
    })
