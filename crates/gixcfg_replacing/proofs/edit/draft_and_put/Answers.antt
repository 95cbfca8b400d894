use Rattle.std.proofs.Common.{option_map, sym, subst}
use Rattle.gixcfg_replacing.specs.Edit.{Edits}
use Rattle.gixcfg_replacing.proofs.Ends.{was_taken}
use Rattle.gixcfg_replacing.proofs.Whole.{edits_first, failed_edits, drafted_edits}
use Rattle.gixcfg_replacing.proofs.edit.draft_and_put.Goals as goal

pub returns-in-Ok-true-clause-edits : goal.returns-in-Ok-true-clause-edits
returns-in-Ok-true-clause-edits g c =
    edits_first g.F.Folder.disk c.args.folder.now c.make.new.self c.fill_and_put.new.folder c.args.file.now c.args.draft.now c.args.lock.now (option_map (λ text. text.now) c.args.before) c.args.text.now c.requires c.make.ensures.time
    c.make.ensures.alone c.fill_and_put.result c.fill_and_put.ensures.edits c.fill_and_put.ensures.own

pub returns-in-Ok-false-clause-edits : goal.returns-in-Ok-false-clause-edits
returns-in-Ok-false-clause-edits g c =
    let disk = g.F.Folder.disk in
    let a = c.args.folder.now in
    let b = c.make.new.self in
    let draft = c.args.draft.now in
    let text = c.args.text.now in
    let before = option_map (λ text. text.now) c.args.before in
    let made = c.make.ensures in
    let taken = was_taken disk a b draft c.in-Ok-false.field-0 c.in-Ok-false.field-0-test c.in-Ok-false.ensures.made in
    subst (Edits disk a b c.args.file.now before text draft c.args.lock.now) (sym c.without.ensures)
    (drafted_edits disk a b c.args.file.now draft c.args.lock.now before text c.requires made.time made.alone taken.0)

pub returns-in-Err-clause-edits : goal.returns-in-Err-clause-edits
returns-in-Err-clause-edits g c =
    let disk = g.F.Folder.disk in
    let a = c.args.folder.now in
    let b = c.make.new.self in
    let draft = c.args.draft.now in
    let text = c.args.text.now in
    let before = option_map (λ text. text.now) c.args.before in
    let made = c.make.ensures in
    subst (Edits disk a b c.args.file.now before text draft c.args.lock.now) (sym c.without-in-Err.ensures)
    (failed_edits disk a b c.args.file.now draft c.args.lock.now before text c.in-Err.error c.requires made.time made.alone c.in-Err.ensures.cause)
