use Rattle.std.proofs.Common.{[]}
use Rattle.gitconf_state.specs.Edits.{items_of_numbered}
use Rattle.gitconf_views.proofs.LineBytes.{line_within, rewritten_within, set_within, written_within}
use Rattle.gitconf_store.proofs.laws.editors_put_no_more_than_their_tokens.Goals as goal

pub returns-clause-pushed : goal.returns-clause-pushed
returns-clause-pushed c = λ number editor key value comment state. line_within [] editor key value comment

pub returns-clause-set : goal.returns-clause-set
returns-clause-set c = λ number editor key value state. set_within [] editor key value (items_of_numbered number state)

pub returns-clause-written : goal.returns-clause-written
returns-clause-written c = λ number place editor instead key value state. written_within [] editor key value

pub returns-clause-rewritten : goal.returns-clause-rewritten
returns-clause-rewritten c = λ number place instead key value state. rewritten_within key value (items_of_numbered number state)
