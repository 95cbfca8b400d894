use Rattle.std.proofs.Common.{refl}
use Rattle.gitconf_sections.proofs.Parts.{but_part}
use Rattle.gitconf_sections.proofs.part.leave_out_part.Goals as goal

pub returns-clause-same : goal.returns-clause-same
returns-clause-same c =
    but_part c.args.list.now _ c.split_at_mut-behind.result.0.now c.split_at_mut-behind.result.1.now c.split_at_mut-part.result.0.now c.leave_out.new.items c.split_at_mut-part.result.1.now c.args.from c.args.len
    c.split_at_mut-behind.ensures.value c.split_at_mut-part.ensures.value refl c.split_at_mut-behind.ensures.front_len c.split_at_mut-part.ensures.front_len c.leave_out.ensures.long
