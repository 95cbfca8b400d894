use Rattle.std.proofs.Common.{◌≡◌, drop, map, None}
use Rattle.gixcfg_words.specs.Given.{action_from}
use Rattle.gixcfg_words.specs.Spelling.{said_by}
use Rattle.gixcfg_words.proofs.given.action_of.Given as goal

abbrev pub invariant-loop-mention : goal.invariant-loop-mention
invariant-loop-mention l = action_from l.action (map said_by (drop l.mention-index l.options)) ≡ action_from None (map said_by l.options)
