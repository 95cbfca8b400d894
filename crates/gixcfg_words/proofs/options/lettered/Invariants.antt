use Rattle.std.proofs.Common.{◌≡◌, drop, map}
use Rattle.gixcfg_words.specs.Options.{first, has_letter, spelling_of, those}
use Rattle.gixcfg_words.proofs.options.lettered.Given as goal

abbrev pub invariant-loop-short : goal.invariant-loop-short
invariant-loop-short l =
    first (those (has_letter l.verb l.letter) (map spelling_of (drop l.short-index l.options)))
    ≡ first (those (has_letter l.verb l.letter) (map spelling_of l.options))
