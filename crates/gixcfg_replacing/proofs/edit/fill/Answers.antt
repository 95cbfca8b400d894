use Rattle.std.proofs.Common.{◌∙◌}
use Rattle.gixcfg_replacing.proofs.Runs.{goes_on, alone_on, ours_keeps, seen_same}
use Rattle.gixcfg_replacing.proofs.edit.fill.Goals as goal

pub returns-in_err-share_rights-clause-ours : goal.returns-in_err-share_rights-clause-ours
returns-in_err-share_rights-clause-ours g c = (c.share_rights.ensures.alone _).ours c.requires.ours

pub write-requires-clause-ours : goal.write-requires-clause-ours
write-requires-clause-ours g c = (c.share_rights.ensures.alone _).ours c.requires.ours

pub write-requires-clause-empty : goal.write-requires-clause-empty
write-requires-clause-empty g c =
    let shared = c.share_rights.ensures in
    seen_same _ _ _ _ (ours_keeps _ _ _ _ c.requires.ours (shared.respect _) (shared.alone _)) ∙ c.requires.empty

pub returns-in_err-write-clause-alone : goal.returns-in_err-write-clause-alone
returns-in_err-write-clause-alone g c = λ other apart.
    let shared = c.share_rights.ensures in
    let written = c.write.ensures in
    alone_on _ _ _ _ other shared.time written.time (shared.alone other) (written.alone other apart)

pub returns-in_err-write-clause-time : goal.returns-in_err-write-clause-time
returns-in_err-write-clause-time g c = goes_on _ _ _ _ c.share_rights.ensures.time c.write.ensures.time

pub returns-clause-alone : goal.returns-clause-alone
returns-clause-alone g c = λ other apart.
    let shared = c.share_rights.ensures in
    let written = c.write.ensures in
    let synced = c.sync.ensures in
    alone_on _ _ _ _ other (goes_on _ _ _ _ shared.time written.time) synced.time
    (alone_on _ _ _ _ other shared.time written.time (shared.alone other) (written.alone other apart)) (synced.alone other apart)

pub returns-clause-time : goal.returns-clause-time
returns-clause-time g c = goes_on _ _ _ _ (goes_on _ _ _ _ c.share_rights.ensures.time c.write.ensures.time) c.sync.ensures.time
