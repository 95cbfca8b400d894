use Rattle.std.proofs.Common.{◌≡◌, [], ◌∷◌, ◌++◌, length, arith}
use Rattle.std.proofs.lemmas.Grind.{common_steps}
use Rattle.gitconf_sections.proofs.LinkLemmas.{linked_behind}
use Rattle.gitconf_sections.proofs.index.WordIndex.push.Goals as goal

pub chain-requires-clause-linked : goal.chain-requires-clause-linked
chain-requires-clause-linked c =
    let items : c.push_reserved.new.self.items ≡ c.self.inside.links.items ++ c.unlinked.result ∷ [] = grind (arith, common_steps) in
    let at : c.len-at.result ≡ length c.self.inside.links.items = omega (arith, c.len-at.ensures, c.self.inside.links.ok) in
    rw (c.deref_mut.ensures.value, c.deref_mut-2.ensures.value, items, at) (linked_behind c.self.inside.links.items (c.unlinked.result ∷ []) c.self.inside.buckets.items c.self.invariant.linked)
