use Rattle.gitconf_body.proofs.Counts.{put_within}
use Rattle.gitconf_store.proofs.laws.edits_put_no_more_than_their_tokens.Goals as goal

pub returns : goal.returns
returns c = put_within
