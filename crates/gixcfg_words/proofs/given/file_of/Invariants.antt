use Rattle.std.proofs.Common.{◌≡◌, ◌++◌, drop, map, [], ◌∷◌, Some, None}
use Rattle.gixcfg_words.specs.Given.{file_seen, files}
use Rattle.gixcfg_words.specs.Spelling.{said_by}
use Rattle.gixcfg_words.proofs.given.file_of.Given as goal

abbrev pub invariant-loop-mention : goal.invariant-loop-mention
invariant-loop-mention l =
    (elim l.found [ Some f ↦ file_seen f ∷ [] | None ↦ [] ]) ++ files (map said_by (drop l.mention-index l.options)) ≡ files (map said_by l.options)
