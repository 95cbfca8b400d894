use Rattle.std.proofs.Common.{rules, ◌∙◌, IfSome, OnOk, option_map, subst}
use Rattle.gixcfg_replacing.specs.Disk.{HasCause}
use Rattle.gixcfg_replacing.specs.Edit.{IsNext}
use Rattle.gixcfg_replacing.specs.Steps.{LeavesDraft, LocksAs}
use Rattle.gixcfg_replacing.proofs.Runs.{quiet_first, quiet_next, seen_same}
use Rattle.gixcfg_replacing.proofs.Whole.{settled_edits, undone_edits, edits_then}
use Rattle.gixcfg_replacing.proofs.edit.put.Goals as goal

pub returns-in-Ok-clause-edits : goal.returns-in-Ok-clause-edits
returns-in-Ok-clause-edits g c =
    let step = c.lock_and_swap-swapped.ensures in
    let disk = g.F.Folder.disk in
    let a = c.args.folder.now in
    let b = c.lock_and_swap-swapped.new.folder in
    let file = c.args.file.now in
    let text = c.args.text.now in
    let before = option_map (λ text. text.now) c.args.before in
    settled_edits disk a b file c.args.draft.now c.args.lock.now before text c.lock_and_swap-swapped.result.1 (step.crash text c.requires.down) step.locked step.alone step.time
    c.settle.new.folder c.settle.ensures.time c.settle.ensures.alone (subst (λ result. OnOk result (IsNext disk a b file before text)) c.in-Ok.is (step.next text c.requires.down))
    (λ quiet. subst (LocksAs disk a b file before text c.args.lock.now) c.in-Ok.is (step.ends text c.requires.down quiet)) c.settle.result c.requires.names c.settle.ensures.ends

pub returns-in-Ok-clause-gone : goal.returns-in-Ok-clause-gone
returns-in-Ok-clause-gone g c = λ none quiet.
    let step = c.lock_and_swap-swapped.ensures in
    let disk = g.F.Folder.disk in
    let a = c.args.folder.now in
    let b = c.lock_and_swap-swapped.new.folder in
    let draft = c.args.draft.now in
    let gone = subst (LeavesDraft disk a b draft) c.in-Ok.is step.draft in
    seen_same disk b c.settle.new.folder draft ((c.settle.ensures.alone draft).kept (quiet_next disk a b _ draft step.time c.settle.ensures.time quiet)) ∙ gone (quiet_first disk a b _ draft step.time c.settle.ensures.time quiet)

pub returns-in-Err-clause-edits : goal.returns-in-Err-clause-edits
returns-in-Err-clause-edits g c =
    let step = c.lock_and_swap-swapped.ensures in
    let disk = g.F.Folder.disk in
    let a = c.args.folder.now in
    let b = c.lock_and_swap-swapped.new.folder in
    let file = c.args.file.now in
    let text = c.args.text.now in
    let before = option_map (λ text. text.now) c.args.before in
    let cause : IfSome c.err.result (HasCause disk b c.remove.new.self) = search rules in
    edits_then disk a b c.remove.new.self file c.args.draft.now c.args.lock.now before text c.requires.names c.remove.ensures.time c.remove.ensures.alone c.in-Err.ended c.lock_and_swap-swapped.result.1 c.err.result
    (undone_edits disk a b file c.args.draft.now c.args.lock.now before text c.lock_and_swap-swapped.result.1 (step.crash text c.requires.down) step.locked step.alone step.time c.in-Err.ended
    (search rules) (λ quiet. subst (LocksAs disk a b file before text c.args.lock.now) c.in-Err.is (step.ends text c.requires.down quiet))) cause
