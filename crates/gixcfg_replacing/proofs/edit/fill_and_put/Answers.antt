use Rattle.std.proofs.Common.{rules, None, IfSome, option_map}
use Rattle.gixcfg_replacing.specs.Disk.{HasCause}
use Rattle.gixcfg_replacing.proofs.Whole.{edits_first, edits_then, failed_edits}
use Rattle.gixcfg_replacing.proofs.edit.fill_and_put.Goals as goal

pub returns-in-Ok-clause-edits : goal.returns-in-Ok-clause-edits
returns-in-Ok-clause-edits g c =
    edits_first g.F.Folder.disk c.args.folder.now c.fill.new.folder c.put.new.folder c.args.file.now c.args.draft.now c.args.lock.now (option_map (λ text. text.now) c.args.before) c.args.text.now c.requires.names c.fill.ensures.time
    c.fill.ensures.alone c.put.result c.put.ensures.edits c.put.ensures.own

pub returns-in-Err-clause-edits : goal.returns-in-Err-clause-edits
returns-in-Err-clause-edits g c =
    let disk = g.F.Folder.disk in
    let a = c.args.folder.now in
    let b = c.fill.new.folder in
    let file = c.args.file.now in
    let draft = c.args.draft.now in
    let lock = c.args.lock.now in
    let text = c.args.text.now in
    let before = option_map (λ text. text.now) c.args.before in
    let filled = c.fill.ensures in
    let names = c.requires.names in
    let cause : IfSome c.err.result (HasCause disk b c.remove.new.self) = search rules in
    edits_then disk a b c.remove.new.self file draft lock before text names c.remove.ensures.time c.remove.ensures.alone _ None c.err.result
    (failed_edits disk a b file draft lock before text c.in-Err.error names filled.time filled.alone c.in-Err.ensures.cause) cause
