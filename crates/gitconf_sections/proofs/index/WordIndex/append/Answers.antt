use Rattle.std.proofs.Common.{◌≡◌, ◌++◌, length, ap, ◌∙◌, arith}
use Rattle.std.proofs.lemmas.Grind.{common_steps}
use Rattle.std.proofs.lemmas.List.{map-append}
use Rattle.gitconf_sections.specs.declared.index.Link.{Link}
use Rattle.gitconf_sections.specs.Links.{words_of}
use Rattle.gitconf_sections.proofs.LinkLemmas.{linked_behind}
use Rattle.gitconf_sections.proofs.index.WordIndex.append.Goals as goal

pub link_rest-requires-clause-linked : goal.link_rest-requires-clause-linked
link_rest-requires-clause-linked c =
    let links = c.self.inside.links.items in
    let added = c.other.inside.links.items in
    let items : c.append.new.self.items ≡ links ++ added = grind (arith, common_steps) in
    let count : c.len-count.result ≡ length links = omega (arith, c.len-count.ensures, c.self.inside.links.ok) in
    rw (items, count) (linked_behind links added c.self.inside.buckets.items c.self.invariant.linked)

pub returns : goal.returns
returns c =
    let links = c.self.inside.links.items in
    let added = c.other.inside.links.items in
    let items : c.append.new.self.items ≡ links ++ added = grind (arith, common_steps) in
    rw (← c.self.view_is, ← c.other.view_is) (c.link_rest.ensures.words ∙ ap words_of items ∙ map-append (λ (l : Link). l.word) links added)
