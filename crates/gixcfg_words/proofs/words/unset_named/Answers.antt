use Rattle.std.specs.Option.{option_map}
use Rattle.gixcfg_words.specs.Given.{seen}
use Rattle.gixcfg_words.proofs.Calls.{unset_so}
use Rattle.gixcfg_words.proofs.words.unset_named.Goals as goal

pub returns : goal.returns
returns c =
    unset_so (seen c.args.given.now) c.args.key.now (option_map (λ p. p.now) c.word_of.result) _ c.has.result _ c.unsetting.result c.word_of.ensures c.has.ensures
    c.unsetting.ensures
