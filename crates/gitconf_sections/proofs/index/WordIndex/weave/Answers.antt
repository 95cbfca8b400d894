use Rattle.std.proofs.Common.{rules, ◌≡◌, ◌-◌, ap, length, min, ◌∙◌, arith}
use Rattle.std.proofs.lemmas.List.{length-map}
use Rattle.gitconf_sections.specs.Links.{no_place, words_of}
use Rattle.gitconf_sections.proofs.Woven.{all_stay, map_woven}
use Rattle.gitconf_sections.proofs.index.WordIndex.weave.Goals as goal

pub returns-then-is_empty-clause-woven : goal.returns-then-is_empty-clause-woven
returns-then-is_empty-clause-woven c =
    let old = c.args.self.now in
    let none : length c.self.inside.links.items ≡ 0 = search rules in
    let words : length old.words ≡ 0 = rw (← c.self.view_is) (length-map c.self.inside.links.items (λ l. l.word) ∙ none) in
    λ j. record old { words = all_stay c.args.runs.now c.args.first old.words (omega (arith, words, c.requires.within)) j }

pub returns-then-is_empty-clause-fits : goal.returns-then-is_empty-clause-fits
returns-then-is_empty-clause-fits c =
    rw (← c.self.view_is) (omega (arith, c.self.invariant.long, length-map c.self.inside.links.items (λ l. l.word)))

pub returns-clause-woven : goal.returns-clause-woven
returns-clause-woven c =
    let count = c.relink_all.ensures.room.0 ∙ c.weave.ensures.room.0 in
    let capacity = c.relink_all.ensures.room.1 ∙ c.weave.ensures.room.1 in
    rw (← c.self.view_is) (λ j. record {
      words = (c.relink_all.ensures.words ∙ ap words_of c.weave.ensures.woven ∙ map_woven (λ l. l.word) c.args.runs.now c.args.first c.self.inside.links.items) j;
      room = min (capacity j - count j) (no_place - count j);
    })

pub returns-clause-fits : goal.returns-clause-fits
returns-clause-fits c =
    rw (← c.self.view_is) (omega (arith, c.self.invariant.long, length-map c.self.inside.links.items (λ l. l.word)))
