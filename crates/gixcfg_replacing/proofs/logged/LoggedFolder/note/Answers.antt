use Rattle.std.proofs.Common.{refl, ap, None, Some}
use Rattle.gixcfg_replacing.proofs.Logging.{found_does, none_since}
use Rattle.gixcfg_replacing.proofs.logged.LoggedFolder.note.Goals as goal

pub returns-then-not-was_there-clause-others : goal.returns-then-not-was_there-clause-others
returns-then-not-was_there-clause-others g c = found_does g.C.FolderCalls.has_made _ _ c.args.at (Some c.new.result) c.args.at.items refl c.requires.free c.keep.ensures.kept (none_since g.C.FolderCalls.has_made c.keep.ensures.folder)

pub returns-then-not-was_there-clause-room : goal.returns-then-not-was_there-clause-room
returns-then-not-was_there-clause-room g c = c.keep.ensures.room 1 c.requires.room

pub returns-then-not-is_there-clause-others : goal.returns-then-not-is_there-clause-others
returns-then-not-is_there-clause-others g c = found_does g.C.FolderCalls.has_made _ _ c.args.at None c.args.at.items refl c.requires.free c.keep-then-not-is_there.ensures.kept (none_since g.C.FolderCalls.has_made c.keep-then-not-is_there.ensures.folder)

pub returns-then-not-is_there-clause-room : goal.returns-then-not-is_there-clause-room
returns-then-not-is_there-clause-room g c = c.keep-then-not-is_there.ensures.room 1 c.requires.room
