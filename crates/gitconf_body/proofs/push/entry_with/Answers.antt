use Rattle.gitconf_body.proofs.push.entry_with.Goals as goal

pub returns-clause-fits : goal.returns-clause-fits
returns-clause-fits c = λ limit name before behind value. c.in_ok-try_new.ensures.fits limit (name, before, (behind, value))
