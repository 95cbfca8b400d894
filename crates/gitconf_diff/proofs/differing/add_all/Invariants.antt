use Rattle.std.proofs.Common.{◌≡◌, ◌++◌, map, drop}
use Rattle.gitconf_diff.specs.Differences.{different_of, plainly}
use Rattle.gitconf_diff.specs.PlainSettings.{plain_mentions}
use Rattle.gitconf_diff.proofs.differing.add_all.Given as goal

abbrev pub invariant-loop-mention : goal.invariant-loop-mention
invariant-loop-mention l = map different_of l.differences.items ++ map plainly (plain_mentions (drop l.mention-index l.mentions)) ≡ map different_of l.fn.differences.items ++ map plainly (plain_mentions l.mentions)
