use Rattle.gixcfg_files.proofs.Acting.{still, give_stays, grows_on, act_grows}
use Rattle.gixcfg_files.proofs.made.share.Goals as goal

pub allow-requires : goal.allow-requires
allow-requires g c = still _ (give_stays c.args.draft.now.original.identity c.args.rights) _ _ c.share_owner-owner.ensures c.requires

pub returns-in_err-allow : goal.returns-in_err-allow
returns-in_err-allow g c = grows_on _ _ _ c.share_owner-owner.ensures (act_grows _ _ _ c.allow.ensures)

pub returns : goal.returns
returns g c = grows_on _ _ _ c.share_owner-owner.ensures (act_grows _ _ _ c.allow.ensures)
