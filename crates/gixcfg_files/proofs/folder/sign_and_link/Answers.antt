use Rattle.gixcfg_files.proofs.Acting.{linked_still, grows_on}
use Rattle.gixcfg_files.proofs.folder.sign_and_link.Goals as goal

pub remove_made-requires : goal.remove_made-requires
remove_made-requires g c = c.sign-linked.ensures.ours

pub returns-clause-linked : goal.returns-clause-linked
returns-clause-linked g c = linked_still _ c.sign-linked.result _ _ c.remove_made.ensures c.sign-linked.ensures.linked

pub returns-clause-grows : goal.returns-clause-grows
returns-clause-grows g c = grows_on _ _ _ c.sign-linked.ensures.grows c.remove_made.ensures
