use Rattle.std.proofs.Common.{◌∙◌, ◌∷◌, [], ap, refl}
use Rattle.gixcfg_core.proofs.CommentLemmas.{lead_or, lead_so}
use Rattle.gixcfg_core.proofs.comments.lead_of.Goals as goal

pub loop-byte-init : goal.loop-byte-init
unfolding lib.Utf8.encode
loop-byte-init c = ((32 ∷ [], (refl, refl)), ap (lead_or (32 ∷ [])) c.as_bytes-byte-items.ensures.value ∙ lead_so c.args.comment.now)
