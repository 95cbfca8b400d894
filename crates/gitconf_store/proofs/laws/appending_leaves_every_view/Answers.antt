use Rattle.gitconf_body.proofs.Append.{items_more, items_fit_more}
use Rattle.gitconf_views.proofs.Append.{header_more}
use Rattle.gitconf_store.proofs.laws.appending_leaves_every_view.Goals as goal

pub returns-clause-items : goal.returns-clause-items
returns-clause-items c = items_more

pub returns-clause-headers : goal.returns-clause-headers
returns-clause-headers c = header_more

pub returns-clause-within : goal.returns-clause-within
returns-clause-within c = items_fit_more
