use Rattle.std.proofs.Common.{◌≡◌, drop, map, None}
use Rattle.gixcfg_words.specs.Given.{state_from}
use Rattle.gixcfg_words.specs.Spelling.{said_by}
use Rattle.gixcfg_words.proofs.given.state_of.Given as goal

abbrev pub invariant-loop-mention : goal.invariant-loop-mention
invariant-loop-mention l = state_from l.option l.state (map said_by (drop l.mention-index l.options)) ≡ state_from l.option None (map said_by l.options)
