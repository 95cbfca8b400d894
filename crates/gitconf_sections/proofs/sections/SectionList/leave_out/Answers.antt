use Rattle.std.proofs.Common.{rules, ◌≡◌, ◌≤◌, length, refl, sym, subst}
use Rattle.gitconf_sections.specs.LeavingOut.{without_all}
use Rattle.gitconf_sections.specs.Section.{Section, body_items, end_behind, seen_as, with_items, IsSameButIn, NeedsNoMore}
use Rattle.gitconf_sections.proofs.Changing.{body_within, row_edited, row_kept, row_within}
use Rattle.gitconf_sections.proofs.sections.SectionList.leave_out.Goals as goal

pub leave_out_of-requires-clause-within : goal.leave_out_of-requires-clause-within
leave_out_of-requires-clause-within c =
    let old = c.self.inside in
    let list = old.list.items in
    let r = c.index_mut-row.result.now in
    let within = row_within old.letters.items list old.rows.items c.args.position (rw (← c.self.view_is) at c.requires.position) in
    let body : c.replace-body.result ≡ r.body = search rules in
    subst (λ b. end_behind 0 b ≤ length list) (sym body) (body_within c.self.invariant c.args.position r within c.index_mut-row.ensures.value)

pub invariant_of-self : goal.invariant_of-self
invariant_of-self c =
    let old = c.self.inside in
    let list = old.list.items in
    let r = c.index_mut-row.result.now in
    let within = row_within old.letters.items list old.rows.items c.args.position (rw (← c.self.view_is) at c.requires.position) in
    let new = c.leave_out_of.new.list.items in
    let body : c.replace-body.result ≡ r.body = search rules in
    let same = subst (IsSameButIn list new) body c.leave_out_of.ensures.same in
    let less = subst (λ b. NeedsNoMore b c.leave_out_of.result) body c.leave_out_of.ensures.less in
    row_kept c.self.invariant new c.args.position r (record r { body = c.leave_out_of.result }) within c.index_mut-row.ensures.value refl refl same less

pub returns : goal.returns
returns c =
    let old = c.self.inside in
    let list = old.list.items in
    let r = c.index_mut-row.result.now in
    let within = row_within old.letters.items list old.rows.items c.args.position (rw (← c.self.view_is) at c.requires.position) in
    let new = c.leave_out_of.new.list.items in
    let body : c.replace-body.result ≡ r.body = search rules in
    let same = subst (IsSameButIn list new) body c.leave_out_of.ensures.same in
    let left = subst (λ b. body_items new c.leave_out_of.result ≡ without_all c.args.places.now (body_items list b)) body c.leave_out_of.ensures.left in
    let f : Section → Section = λ s. with_items (without_all c.args.places.now s.items.items) s in
    rw (← c.self.view_is) (row_edited c.self.invariant new c.args.position r (record r { body = c.leave_out_of.result }) within c.index_mut-row.ensures.value refl refl same f
    (λ i. seen_as r.header r.meta (left i) r.held.items))
