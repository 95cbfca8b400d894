use Rattle.std.proofs.Common.{◌≡◌, length}
use denote.Text.{Utf8}
use denote.Shadow.{shadow}
use Rattle.gixcfg_words.specs.Spelling.{letters, seen}
use Rattle.gixcfg_words.specs.declared.spelled.Next.TheVariants as next_words
use Rattle.gixcfg_words.proofs.spelled.read_letters.Given as goal

abbrev pub invariant-loop-letter : goal.invariant-loop-letter
invariant-loop-letter l =
    shadow (Utf8 l.rest) × (letters l.verb l.rest (seen l.spelled next_words.Any) ≡ letters l.verb l.letters (seen l.initial.spelled next_words.Any))

abbrev pub decreases-loop-letter : goal.decreases-loop-letter
decreases-loop-letter l = length l.rest
