use Rattle.gixcfg_names.proofs.Sets.{put}
use Rattle.gixcfg_names.proofs.findings.is_again.Goals as goal

pub returns : goal.returns
returns c = put c.args.seen.now c.insert.new.self c.args.key c.in_ok-insert.field-0 c.in_ok-insert.ensures.added c.in_ok-insert.ensures.updates
