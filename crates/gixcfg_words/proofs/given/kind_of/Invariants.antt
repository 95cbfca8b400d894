use Rattle.std.proofs.Common.{◌≡◌, drop, map, None}
use Rattle.gixcfg_words.specs.Given.{kind_from}
use Rattle.gixcfg_words.specs.Spelling.{said_by}
use Rattle.gixcfg_words.proofs.given.kind_of.Given as goal

abbrev pub invariant-loop-mention : goal.invariant-loop-mention
invariant-loop-mention l = kind_from l.kind (map said_by (drop l.mention-index l.options)) ≡ kind_from None (map said_by l.options)
