use Rattle.std.proofs.Common.{rules, Ok, refl, subst, length}
use Rattle.gitconf_items.specs.Items.{items_of}
use Rattle.gitconf_body.proofs.Outcomes.{either_way, on_ok}
use Rattle.gitconf_views.specs.declared.section.Section.{Section}
use Rattle.gitconf_views.proofs.AloneEdits.{HasOwn, edited_alone, stands_still}
use Rattle.gitconf_views.proofs.detached.Section.edit_items.Goals as goal

pub invariant_of-self : goal.invariant_of-self
invariant_of-self g c =
    let b = c.self.inside.buffer.items in
    let s = c.self.inside.section in
    let t : Section = record { header = s.header; meta = s.meta; items = c.edit_or_leave.new.items } in
    let new = c.edit_or_leave.new.buffer.items in
    let others : HasOwn (length new) s t = record { header = refl; meta = refl; within = c.edit_or_leave.ensures.within } in
    stands_still b new c.self.inside.copies.items s t (g.E.ItemsEdit.changed c.args.edit.now) c.edit_or_leave.ensures.extended c.edit_or_leave.ensures.room others c.self.invariant
    (c.requires.keeps (items_of b s.items.items) c.self.invariant.items) (either_way c.edit_or_leave.result c.edit_or_leave.ensures.ok c.edit_or_leave.ensures.err)

pub returns-in-Ok-Some-clause-ok : goal.returns-in-Ok-Some-clause-ok
returns-in-Ok-Some-clause-ok g c =
    let b = c.self.inside.buffer.items in
    let s = c.self.inside.section in
    let t : Section = record { header = s.header; meta = s.meta; items = c.edit_or_leave.new.items } in
    let new = c.edit_or_leave.new.buffer.items in
    let others : HasOwn (length new) s t = record { header = refl; meta = refl; within = c.edit_or_leave.ensures.within } in
    rw (← c.self.view_is) (on_ok c.edit_or_leave.result (λ set. edited_alone b new c.self.inside.copies.items c.self.inside.id s t (g.E.ItemsEdit.changed c.args.edit.now) c.edit_or_leave.ensures.extended others c.self.invariant set)
    c.edit_or_leave.ensures.ok)

pub returns-in-Ok-None-clause-grows : goal.returns-in-Ok-None-clause-grows
returns-in-Ok-None-clause-grows g c =
    let stays : g.E.ItemsEdit.grows c.args.edit.now (items_of c.deref.result.now c.deref-2.result.now) (Ok c.unchanged.result) (length c.deref.result.now) (length c.deref.result.now) = search rules in
    rw (← c.self.view_is) (subst (λ is. g.E.ItemsEdit.grows c.args.edit.now (items_of c.self.inside.buffer.items is) (Ok c.unchanged.result) (length c.self.inside.buffer.items) (length c.self.inside.buffer.items)) c.deref-2.ensures.value
    (subst (λ x. g.E.ItemsEdit.grows c.args.edit.now (items_of x c.deref-2.result.now) (Ok c.unchanged.result) (length x) (length x)) c.deref.ensures.value stays))
