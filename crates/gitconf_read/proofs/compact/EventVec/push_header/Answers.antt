use Rattle.std.proofs.Common.{◌∙◌, ap, ◌≡◌, ◌++◌, ◌∷◌, [], length, arith}
use Rattle.std.proofs.lemmas.Grind.{common_steps}
use Rattle.gitconf_read.specs.declared.compact.Compact.TheVariants as kept
use Rattle.gitconf_items.specs.declared.event.Event.TheVariants as kinds
use Rattle.gitconf_read.proofs.Compacts.{compact_header, header_pushed}
use Rattle.gitconf_read.proofs.compact.EventVec.push_header.Goals as goal

pub invariant_of-self-2 : goal.invariant_of-self-2
invariant_of-self-2 c =
    let i = c.self.inside in
    let place = length c.as_slice-place.result.now in
    let is : place ≡ length i.headers.items = ap length c.as_slice-place.ensures.value in
    let list : c.push-2.new.self.items ≡ i.list.items ++ kept.SectionHeader place ∷ [] = grind (arith, common_steps) in
    compact_header i.headers.items c.push.new.self.items i.list.items c.push-2.new.self.items c.args.header place is c.in_ok-push.ensures.items list c.self.invariant

pub returns : goal.returns
returns c =
    let i = c.self.inside in
    let place = length c.as_slice-place.result.now in
    let is : place ≡ length i.headers.items = ap length c.as_slice-place.ensures.value in
    let list : c.push-2.new.self.items ≡ i.list.items ++ kept.SectionHeader place ∷ [] = grind (arith, common_steps) in
    let last : c.push-2.new.self.items ≡ i.list.items ++ kept.SectionHeader (length i.headers.items) ∷ [] = list ∙ ap (λ n. i.list.items ++ kept.SectionHeader n ∷ []) is in
    rw (c.in_ok-push.ensures.items, last)
    (header_pushed i.headers.items i.list.items c.args.header c.self.invariant.stand
    ∙ ap (λ es. es ++ kinds.SectionHeader c.args.header ∷ []) c.self.view_is)
