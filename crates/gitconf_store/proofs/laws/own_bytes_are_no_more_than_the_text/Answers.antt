use Rattle.gitconf_views.proofs.OwnBytes.{own_within}
use Rattle.gitconf_store.proofs.laws.own_bytes_are_no_more_than_the_text.Goals as goal

pub returns : goal.returns
returns c = own_within
