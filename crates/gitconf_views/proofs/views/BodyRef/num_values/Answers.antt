use Rattle.std.proofs.Common.{◌∙◌}
use Rattle.gitconf_views.proofs.Counting.{entries_counted}
use Rattle.gitconf_views.proofs.views.BodyRef.num_values.Goals as goal

pub returns : goal.returns
returns c =
    c.entry_count.ensures ∙ entries_counted c.args.self.now.buffer.now c.args.self.now.items.now
