use Rattle.gixcfg_files.proofs.Acting.{still, give_stays, grows_on}
use Rattle.gixcfg_files.proofs.made.share_owner.Goals as goal

pub shares_owner-has_owner-requires : goal.shares_owner-has_owner-requires
shares_owner-has_owner-requires g c = still _ (give_stays c.args.draft.now.original.identity c.args.rights) _ _ c.shares_group-has_group.ensures c.requires

pub returns-then-has_owner : goal.returns-then-has_owner
returns-then-has_owner g c = grows_on _ _ _ c.shares_group-has_group.ensures c.shares_owner-has_owner.ensures

pub returns-else-has_group : goal.returns-else-has_group
returns-else-has_group g c = grows_on _ _ _ c.shares_group-has_group.ensures c.shares_owner-has_owner.ensures
