use Rattle.gixcfg_replacing.proofs.Runs.{goes_on, alone_on, ours_keeps, still_down, adds_on, adds_nothing, adds_moved, quiet_next, respected_on}
use Rattle.gixcfg_replacing.proofs.Ends.{swapped, unsure}
use Rattle.gixcfg_replacing.proofs.edit.swap.Goals as goal

pub rename-requires-clause-ours : goal.rename-requires-clause-ours
rename-requires-clause-ours g c = (c.has.ensures.alone _).ours c.requires.ours

pub rename-requires-clause-locked : goal.rename-requires-clause-locked
rename-requires-clause-locked g c = (c.has.ensures.alone _).ours c.requires.locked

pub returns-in-Err-clause-draft : goal.returns-in-Err-clause-draft
returns-in-Err-clause-draft g c = (c.has.ensures.alone _).ours c.requires.ours

pub returns-in-Ok-false-clause-draft : goal.returns-in-Ok-false-clause-draft
returns-in-Ok-false-clause-draft g c = (c.has.ensures.alone _).ours c.requires.ours

pub returns-in-Ok-clause-ends : goal.returns-in-Ok-clause-ends
returns-in-Ok-clause-ends g c = λ text down.
    let looked = c.has.ensures in
    swapped _ _ _ _ _ _ _ text (c.in-Ok-true.ensures.same.0 c.in-Ok-true.field-0-test) down (ours_keeps _ _ _ _ c.requires.ours (looked.respect _) (looked.alone _)) looked.kept
    c.in-Ok.ensures.moved

pub returns-in-Err-rename-clause-ends : goal.returns-in-Err-rename-clause-ends
returns-in-Err-rename-clause-ends g c = λ text down.
    let looked = c.has.ensures in
    unsure _ _ _ _ _ _ _ text (c.in-Ok-true.ensures.same.0 c.in-Ok-true.field-0-test) down (ours_keeps _ _ _ _ c.requires.ours (looked.respect _) (looked.alone _)) looked.kept
    c.in-Err-rename.error looked.time c.in-Err-rename.ensures.cause c.in-Err-rename.ensures.moved.1

pub returns-in-Ok-clause-crash : goal.returns-in-Ok-clause-crash
returns-in-Ok-clause-crash g c = λ text down.
    let looked = c.has.ensures in
    adds_on _ _ _ _ _ text looked.time (adds_nothing _ _ _ _ text looked.kept)
    (adds_moved _ _ _ _ _ text (still_down _ _ _ _ text (ours_keeps _ _ _ _ c.requires.ours (looked.respect _) (looked.alone _)) down) c.rename.ensures.crash)

pub returns-in-Err-rename-clause-crash : goal.returns-in-Err-rename-clause-crash
returns-in-Err-rename-clause-crash g c = λ text down.
    let looked = c.has.ensures in
    adds_on _ _ _ _ _ text looked.time (adds_nothing _ _ _ _ text looked.kept)
    (adds_moved _ _ _ _ _ text (still_down _ _ _ _ text (ours_keeps _ _ _ _ c.requires.ours (looked.respect _) (looked.alone _)) down) c.rename.ensures.crash)

pub returns-in-Ok-clause-draft : goal.returns-in-Ok-clause-draft
returns-in-Ok-clause-draft g c = λ quiet. c.in-Ok.ensures.moved.gone (quiet_next _ _ _ _ _ c.has.ensures.time c.rename.ensures.time quiet)

pub returns-in-Ok-clause-respect : goal.returns-in-Ok-clause-respect
returns-in-Ok-clause-respect g c = λ other apart. respected_on _ _ _ _ other (c.has.ensures.alone other) (c.has.ensures.respect other) (c.rename.ensures.respect other apart)

pub returns-in-Err-rename-clause-respect : goal.returns-in-Err-rename-clause-respect
returns-in-Err-rename-clause-respect g c = λ other apart. respected_on _ _ _ _ other (c.has.ensures.alone other) (c.has.ensures.respect other) (c.rename.ensures.respect other apart)

pub returns-in-Ok-clause-alone : goal.returns-in-Ok-clause-alone
returns-in-Ok-clause-alone g c = λ other draft file. alone_on _ _ _ _ other c.has.ensures.time c.rename.ensures.time (c.has.ensures.alone other) (c.rename.ensures.alone other draft file)

pub returns-in-Err-rename-clause-alone : goal.returns-in-Err-rename-clause-alone
returns-in-Err-rename-clause-alone g c = λ other draft file. alone_on _ _ _ _ other c.has.ensures.time c.rename.ensures.time (c.has.ensures.alone other) (c.rename.ensures.alone other draft file)

pub returns-in-Ok-clause-time : goal.returns-in-Ok-clause-time
returns-in-Ok-clause-time g c = goes_on _ _ _ _ c.has.ensures.time c.rename.ensures.time

pub returns-in-Err-rename-clause-time : goal.returns-in-Err-rename-clause-time
returns-in-Err-rename-clause-time g c = goes_on _ _ _ _ c.has.ensures.time c.rename.ensures.time
