use Rattle.std.proofs.Common.{length}
use Rattle.gitconf_read.proofs.reading.item.bare_entry.Goals as goal

pub returns-clause-spans : goal.returns-clause-spans
returns-clause-spans c = c.in_ok-try_new.ensures.fits (length c.args.input.now) (c.requires.spans.0, c.requires.spans.1, tt)
