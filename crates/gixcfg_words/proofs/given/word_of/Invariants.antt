use Rattle.std.proofs.Common.{◌≡◌, drop, map, None}
use Rattle.std.specs.Option.{option_map}
use Rattle.gixcfg_words.specs.Given.{word_from}
use Rattle.gixcfg_words.specs.Spelling.{said_by}
use Rattle.gixcfg_words.proofs.given.word_of.Given as goal

abbrev pub invariant-loop-mention : goal.invariant-loop-mention
invariant-loop-mention l =
    word_from l.option (option_map (λ w. w.now) l.word) (map said_by (drop l.mention-index l.options)) ≡ word_from l.option None (map said_by l.options)
