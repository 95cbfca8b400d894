use Rattle.gix_config_laws.proofs.Puts.{puts_within}
use Rattle.gix_config_laws.proofs.edits_put_no_more_than_their_tokens.Goals as goal

pub returns : goal.returns
returns c = puts_within
