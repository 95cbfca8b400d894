use Rattle.std.proofs.Common.{◌≡◌, drop, map}
use Rattle.gixcfg_words.specs.Asking.{all_go}
use Rattle.gixcfg_words.specs.Spelling.{said_by}
use Rattle.gixcfg_words.proofs.of_git.beside.Given as goal

abbrev pub invariant-loop-mention : goal.invariant-loop-mention
invariant-loop-mention l = all_go l.action (map said_by (drop l.mention-index l.options)) ≡ all_go l.action (map said_by l.options)
