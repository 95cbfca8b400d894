use Rattle.std.proofs.Common.{rules, ◌≡◌, ◌<◌, ◌∷◌, ap, sym, subst, length, ◌∙◌, arith}
use Rattle.std.proofs.lemmas.List.{length-map}
use Rattle.gitconf_sections.specs.declared.index.Link.{Link}
use Rattle.gitconf_sections.specs.Links.{words_of, AreLinked}
use Rattle.gitconf_sections.specs.Words.{set_each}
use Rattle.gitconf_sections.proofs.LinkMoves.{now_of}
use Rattle.gitconf_sections.proofs.SetWords.{first_within, word_set}
use Rattle.gitconf_sections.proofs.index.moving.move_places.Goals as goal

pub move_one-requires-clause-within : goal.move_one-requires-clause-within
move_one-requires-clause-within c =
    let first : c.loop-at.rest.now ≡ c.in-Some.at.now ∷ c.in-Some.behind.now = search rules in
    let below = (first_within (length (words_of c.args.links.now)) c.in-Some.at.now c.loop-at.rest.now c.in-Some.behind.now first c.loop-at.invariant.within).0 in
    let count = length-map c.args.links.now (λ (l : Link). l.word) in
    omega (arith, below, count, c.loop-at.invariant.long)

pub loop-at-preserved : goal.loop-at-preserved
loop-at-preserved c =
    let first : c.loop-at.rest.now ≡ c.in-Some.at.now ∷ c.in-Some.behind.now = search rules in
    let both = first_within (length (words_of c.args.links.now)) c.in-Some.at.now c.loop-at.rest.now c.in-Some.behind.now first c.loop-at.invariant.within in
    let count = length-map c.args.links.now (λ (l : Link). l.word) in
    let below : c.in-Some.at.now < length c.loop-at.links = omega (arith, both.0, count, c.loop-at.invariant.long) in
    record {
      words = ap (λ ws. set_each ws c.in-Some.behind.now c.args.word) c.move_one.ensures.words
          ∙ sym (word_set (words_of c.loop-at.links) c.loop-at.rest.now c.in-Some.behind.now c.in-Some.at.now c.args.word first)
          ∙ c.loop-at.invariant.words;
      within = both.1;
      long = c.move_one.auto.links ∙ c.loop-at.invariant.long;
      linked = subst (λ n. AreLinked n c.move_one.new.links c.move_one.new.buckets) c.loop-at.invariant.long c.move_one.ensures.linked;
      some = omega (arith, c.move_one.auto.buckets, c.loop-at.invariant.some);
      from = λ k e. now_of c.loop-at.links c.move_one.new.links (length c.move_one.new.buckets) c.in-Some.at.now c.args.word k below c.move_one.ensures.words e;
    }
