use Rattle.std.proofs.Common.{ap, sym, ◌∙◌}
use Rattle.gitconf_body.specs.Bodies.{has_key}
use Rattle.gitconf_body.proofs.entries.contains_key.Goals as goal

pub returns : goal.returns
returns c = ap (has_key c.args.key.now) (sym (c.in_default.ensures.entry c.args.buffer.now)) ∙ c.loop-entry.invariant
