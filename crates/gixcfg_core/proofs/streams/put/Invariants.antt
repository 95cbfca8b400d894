use Rattle.gixcfg_core.specs.Pieces.{HasUpTo}
use Rattle.gixcfg_core.proofs.streams.put.Given as goal

-- the stream has what is no more left
abbrev pub invariant-loop : goal.invariant-loop
invariant-loop g l = HasUpTo l.text l.rest (g.W.Write.contents l.fn.out) (g.W.Write.contents l.out)
