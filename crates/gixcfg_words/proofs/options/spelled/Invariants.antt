use Rattle.std.proofs.Common.{◌≡◌, drop, map}
use Rattle.gixcfg_words.specs.Options.{first, has_word, spelling_of, those}
use Rattle.gixcfg_words.proofs.options.spelled.Given as goal

abbrev pub invariant-loop-long : goal.invariant-loop-long
invariant-loop-long l =
    first (those (has_word l.verb l.word) (map spelling_of (drop l.long-index l.options)))
    ≡ first (those (has_word l.verb l.word) (map spelling_of l.options))
