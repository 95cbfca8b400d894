use Rattle.std.proofs.Common.{◌≡◌, ◌++◌, drop, map, [], ◌∷◌, Some, None}
use Rattle.gixcfg_words.specs.Options.{has_beginning, spelling_of, those}
use Rattle.gixcfg_words.proofs.options.begun.Given as goal

abbrev pub invariant-loop-spelling : goal.invariant-loop-spelling
invariant-loop-spelling l =
    (elim l.found [ Some f ↦ f.1 ∷ [] | None ↦ [] ]) ++ those (has_beginning l.verb l.word) (map spelling_of (drop l.spelling-index l.options))
    ≡ those (has_beginning l.verb l.word) (map spelling_of l.options)
