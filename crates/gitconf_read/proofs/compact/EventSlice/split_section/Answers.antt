use Rattle.std.proofs.Common.{arith}
use Rattle.gitconf_read.proofs.Compacts.{section_split}
use Rattle.gitconf_read.proofs.compact.EventSlice.split_section.Goals as goal

pub returns : goal.returns
returns c =
    let l = c.front_len.ensures in
    section_split c.args.self.headers.now c.args.self.list.now c.in_ok-behind.behind.now _ c.front_len.result _ _ _ (omega arith) c.in_ok-behind.ensures.cases.0 l.front l.rest l.cut
    c.split_at.ensures.front c.split_at.ensures.behind
