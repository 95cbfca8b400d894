use Rattle.std.proofs.Common.{IfSome, Ok, ◌∙◌, sym, subst}
use Rattle.gixcfg_files.specs.Acts.{MayRename, LooksFor}
use Rattle.gixcfg_files.proofs.Acting.{may_rename_found, looks_grow, done_grows, renames_done, grows_on}
use Rattle.gixcfg_files.proofs.folder.rename_made.Goals as goal

pub rename-requires : goal.rename-requires
rename-requires g c =
    subst (λ from. IfSome (g.D.EditCalls.told c.is_at.new.calls) (MayRename from c.args.to.now)) (c.deref.ensures ∙ sym c.deref-in-Ok-true.ensures)
    (may_rename_found _ _ c.args.draft.now _ _ c.requires c.in-Ok-true.field-0 c.in-Ok-true.field-0-test c.in-Ok-true.ensures.looks)

pub returns-in-Ok-true-clause-grows : goal.returns-in-Ok-true-clause-grows
returns-in-Ok-true-clause-grows g c = grows_on _ _ _ (looks_grow _ _ _ _ c.is_at.result c.is_at.ensures.looks) (done_grows _ _ c.rename.result _ c.rename.ensures)

pub returns-in-Ok-true-clause-renamed : goal.returns-in-Ok-true-clause-renamed
returns-in-Ok-true-clause-renamed g c =
    renames_done _ _ _ _ _ _ c.in-Ok-true.field-0 c.in-Ok-true.field-0-test
    (subst (λ from. LooksFor (g.D.EditCalls.told c.args.calls.now) (g.D.EditCalls.told c.is_at.new.calls) from c.args.draft.now.file.original.identity (Ok c.in-Ok-true.field-0)) (c.deref.ensures ∙ sym c.deref-in-Ok-true.ensures) c.in-Ok-true.ensures.looks)
    c.rename.result c.rename.ensures

pub returns-in-Ok-false-clause-grows : goal.returns-in-Ok-false-clause-grows
returns-in-Ok-false-clause-grows g c = looks_grow _ _ _ _ c.is_at.result c.is_at.ensures.looks

pub returns-in-Err-clause-grows : goal.returns-in-Err-clause-grows
returns-in-Err-clause-grows g c = looks_grow _ _ _ _ c.is_at.result c.is_at.ensures.looks
