use Rattle.std.proofs.Common.{inr, sym, ◌∙◌}
use Rattle.gixcfg_words.specs.Spelling.{seen}
use Rattle.gixcfg_words.specs.declared.spelled.Next.TheVariants as next_words
use Rattle.gixcfg_words.proofs.Letters.{not_lettered}
use Rattle.gixcfg_words.proofs.spelled.read_letters.Goals as goal

pub returns-in-None : goal.returns-in-None
returns-in-None c = inr (sym c.loop-letter.invariant.1 ∙ not_lettered c.args.verb c.in-Some.letter c.in-Some.more.now c.loop-letter.rest.now
    (seen c.loop-letter.spelled next_words.Any) c.in-Some.ensures.0 (sym c.lettered.ensures ∙ c.in-None.is))
