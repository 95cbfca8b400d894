use Rattle.std.proofs.Common.{◌∙◌, ap}
use Rattle.std.specs.Prelude.{not}
use Rattle.gixcfg_commands.proofs.Emptying.{kept_among}
use Rattle.gixcfg_commands.proofs.emptied.is_bare.Goals as goal

pub returns : goal.returns
returns c = ap not (c.has_kept.ensures ∙ kept_among c.args.section.now.buffer.now c.args.section.now.items.now)
