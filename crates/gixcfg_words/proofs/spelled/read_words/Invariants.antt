use Rattle.std.proofs.Common.{◌≡◌, drop, map}
use Rattle.gixcfg_words.specs.Spelling.{read_words, seen}
use Rattle.gixcfg_words.specs.declared.spelled.Next.TheVariants as next_words
use Rattle.gixcfg_words.proofs.spelled.read_words.Given as goal

abbrev pub invariant-loop-word : goal.invariant-loop-word
invariant-loop-word l =
    read_words l.verb (map (λ w. w.now) (drop l.word-index l.words)) (seen l.spelled l.next)
    ≡ read_words l.verb (map (λ w. w.now) l.words) (seen l.initial.spelled next_words.Any)
