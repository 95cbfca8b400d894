use Rattle.std.proofs.Common.{◌≢◌, sym}
use Rattle.gixcfg_replacing.proofs.Ends.{was_free, was_taken, locks, locked_adds, is_next, leaves_draft}
use Rattle.gixcfg_replacing.proofs.Runs.{alone_on, goes_on, ours_keeps, still_down, adds_nothing}
use Rattle.gixcfg_replacing.proofs.edit.lock_and_swap.Goals as goal

pub swap-swapped-requires-clause-ours : goal.swap-swapped-requires-clause-ours
swap-swapped-requires-clause-ours g c = (c.make.ensures.alone _ (λ is. c.requires.names.apart (sym is))).ours c.requires.ours

pub remove-requires : goal.remove-requires
remove-requires g c =
    let made = was_free g.F.Folder.disk c.args.folder.now c.make.new.self c.args.lock.now c.in-Ok-true.field-0 c.in-Ok-true.field-0-test c.in-Ok-true.ensures.made in
    (c.swap-swapped.ensures.alone _ c.requires.names.apart c.requires.names.locked).ours made.2

pub returns-in-Err-clause-ends : goal.returns-in-Err-clause-ends
returns-in-Err-clause-ends g c = λ text down quiet. (c.in-Err.ensures.cause, (c.make.ensures.alone _ (λ is. c.requires.names.locked (sym is))).kept quiet)

pub returns-in-Err-clause-crash : goal.returns-in-Err-clause-crash
returns-in-Err-clause-crash g c = λ text down quiet. adds_nothing _ _ _ _ text ((c.make.ensures.alone _ (λ is. c.requires.names.locked (sym is))).kept quiet)

pub returns-in-Err-clause-draft : goal.returns-in-Err-clause-draft
returns-in-Err-clause-draft g c = (c.make.ensures.alone _ (λ is. c.requires.names.apart (sym is))).ours c.requires.ours

pub returns-in-Ok-false-clause-ends : goal.returns-in-Ok-false-clause-ends
returns-in-Ok-false-clause-ends g c = λ text down quiet.
    let taken = was_taken g.F.Folder.disk c.args.folder.now c.make.new.self c.args.lock.now c.in-Ok-false.field-0 c.in-Ok-false.field-0-test c.in-Ok-false.ensures.made in
    (taken.0, (c.make.ensures.alone _ (λ is. c.requires.names.locked (sym is))).kept quiet)

pub returns-in-Ok-false-clause-crash : goal.returns-in-Ok-false-clause-crash
returns-in-Ok-false-clause-crash g c = λ text down quiet. adds_nothing _ _ _ _ text ((c.make.ensures.alone _ (λ is. c.requires.names.locked (sym is))).kept quiet)

pub returns-in-Ok-false-clause-draft : goal.returns-in-Ok-false-clause-draft
returns-in-Ok-false-clause-draft g c = (c.make.ensures.alone _ (λ is. c.requires.names.apart (sym is))).ours c.requires.ours

pub returns-in-Ok-true-clause-ends : goal.returns-in-Ok-true-clause-ends
returns-in-Ok-true-clause-ends g c = λ text down quiet.
    let names = c.requires.names in
    let made = c.make.ensures in
    let free = was_free g.F.Folder.disk c.args.folder.now c.make.new.self c.args.lock.now c.in-Ok-true.field-0 c.in-Ok-true.field-0-test c.in-Ok-true.ensures.made in
    let apart : c.args.draft.now ≢ c.args.lock.now = λ is. names.apart (sym is) in
    let kept = ours_keeps _ _ _ _ c.requires.ours (made.respect _) (made.alone _ apart) in
    locks g.F.Folder.disk _ _ _ _ _ made.time c.swap-swapped.ensures.time c.remove.ensures.time text (made.alone _ (λ is. names.locked (sym is)))
    (c.remove.ensures.alone _ (λ is. names.locked (sym is))) _ _ c.swap-swapped.result free.0 (c.swap-swapped.ensures.ends text (still_down _ _ _ _ text kept down)) quiet

pub returns-in-Ok-true-clause-next : goal.returns-in-Ok-true-clause-next
returns-in-Ok-true-clause-next g c = λ text down.
    let made = c.make.ensures in
    let kept = ours_keeps _ _ _ _ c.requires.ours (made.respect _) (made.alone _ (λ is. c.requires.names.apart (sym is))) in
    is_next g.F.Folder.disk _ _ _ _ _ made.time c.swap-swapped.ensures.time c.remove.ensures.time _ text c.swap-swapped.result
    (c.swap-swapped.ensures.ends text (still_down _ _ _ _ text kept down))

pub returns-in-Ok-true-clause-crash : goal.returns-in-Ok-true-clause-crash
returns-in-Ok-true-clause-crash g c = λ text down quiet.
    let names = c.requires.names in
    let made = c.make.ensures in
    let kept = ours_keeps _ _ _ _ c.requires.ours (made.respect _) (made.alone _ (λ is. names.apart (sym is))) in
    locked_adds g.F.Folder.disk _ _ _ _ _ made.time c.swap-swapped.ensures.time c.remove.ensures.time text (made.alone _ (λ is. names.locked (sym is)))
    (c.remove.ensures.alone _ (λ is. names.locked (sym is))) (c.swap-swapped.ensures.crash text (still_down _ _ _ _ text kept down)) quiet

pub returns-in-Ok-true-clause-draft : goal.returns-in-Ok-true-clause-draft
returns-in-Ok-true-clause-draft g c =
    leaves_draft g.F.Folder.disk _ _ _ _ c.args.file.now c.make.ensures.time c.swap-swapped.ensures.time c.remove.ensures.time _ c.swap-swapped.result
    (c.remove.ensures.alone _ (λ is. c.requires.names.apart (sym is))) c.swap-swapped.ensures.draft

pub returns-in-Ok-true-clause-alone : goal.returns-in-Ok-true-clause-alone
returns-in-Ok-true-clause-alone g c = λ other file draft lock.
    let made = c.make.ensures in
    let swapped = c.swap-swapped.ensures in
    let gone = c.remove.ensures in
    alone_on _ _ _ _ other (goes_on _ _ _ _ made.time swapped.time) gone.time
    (alone_on _ _ _ _ other made.time swapped.time (made.alone other lock) (swapped.alone other draft file)) (gone.alone other lock)

pub returns-in-Ok-true-clause-time : goal.returns-in-Ok-true-clause-time
returns-in-Ok-true-clause-time g c = goes_on _ _ _ _ (goes_on _ _ _ _ c.make.ensures.time c.swap-swapped.ensures.time) c.remove.ensures.time
