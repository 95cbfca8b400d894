use Rattle.std.proofs.Common.{length}
use Rattle.gitconf_read.proofs.reading.item.long_entry.Goals as goal

pub returns-clause-spans : goal.returns-clause-spans
returns-clause-spans c =
    let limit = length c.args.input.now in
    c.in_ok-try_new.ensures.fits limit (c.requires.spans.0, c.requires.spans.1, c.of_value.ensures.fits limit c.requires.spans.2 c.in_ok-value.ensures.spans)
