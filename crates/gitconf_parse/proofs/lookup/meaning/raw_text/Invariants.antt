use Rattle.std.proofs.Common.{◌-◌, ◌≤◌, length}
use Rattle.gitconf_parse.proofs.Raws.{IsRawBegun}
use Rattle.gitconf_parse.proofs.lookup.meaning.raw_text.Given as goal

-- the pieces up to here were put together
abbrev pub invariant-loop-end : goal.invariant-loop-end
invariant-loop-end l = (l.first ≤ l.from) × (l.from ≤ length l.input) × IsRawBegun l.input l.first l.from l.quoted l.raw.items

abbrev pub decreases-loop-end : goal.decreases-loop-end
decreases-loop-end l = length l.input - l.from
