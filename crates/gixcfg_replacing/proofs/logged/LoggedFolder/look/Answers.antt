use Rattle.std.proofs.Common.{◌∙◌, []}
use Rattle.gixcfg_replacing.proofs.Logging.{fault_does, found_does, made_until}
use Rattle.gixcfg_replacing.proofs.logged.LoggedFolder.look.Goals as goal

pub returns-then-ne-clause-others : goal.returns-then-ne-clause-others
returns-then-ne-clause-others g c =
    found_does g.C.FolderCalls.has_made _ _ c.in_ok-at.at c.in-Ok.found c.args.name.now (c.in_ok-at.ensures ∙ c.as_bytes.ensures.value) c.requires.free c.keep.ensures.kept (made_until g.C.FolderCalls.has_made [] c.read.ensures c.keep.ensures.folder)

pub returns-then-ne-clause-room : goal.returns-then-ne-clause-room
returns-then-ne-clause-room g c = c.keep.ensures.room 2 c.requires.room

pub returns-in-Err-clause-others : goal.returns-in-Err-clause-others
returns-in-Err-clause-others g c = fault_does g.C.FolderCalls.has_made _ _ c.failed.ensures.kept (made_until g.C.FolderCalls.has_made [] c.read.ensures c.failed.ensures.folder)

pub returns-in-Err-clause-room : goal.returns-in-Err-clause-room
returns-in-Err-clause-room g c = c.failed.ensures.room 2 c.requires.room
