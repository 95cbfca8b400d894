use Rattle.std.proofs.Common.{ap, ◌∙◌, arith}
use Rattle.std.proofs.lemmas.List.{length-map}
use Rattle.gitconf_sections.specs.Links.{words_of}
use Rattle.gitconf_sections.proofs.LinkLemmas.{words_out}
use Rattle.gitconf_sections.proofs.index.WordIndex.remove.Goals as goal

pub returns-clause-words : goal.returns-clause-words
returns-clause-words c =
    rw (← c.self.view_is) (c.relink_all.ensures.words ∙ ap words_of c.remove.ensures.items ∙ words_out c.self.inside.links.items c.args.at)

pub returns-clause-fits : goal.returns-clause-fits
returns-clause-fits c =
    rw (← c.self.view_is) (omega (arith, c.self.invariant.long, length-map c.self.inside.links.items (λ l. l.word)))
