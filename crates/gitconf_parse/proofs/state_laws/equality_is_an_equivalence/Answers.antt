use Rattle.std.proofs.Common.{sym, ◌∙◌, refl}
use Rattle.gitconf_state.proofs.Listings.{compared_so}
use Rattle.gitconf_parse.proofs.state_laws.equality_is_an_equivalence.Goals as goal

pub returns-clause-same : goal.returns-clause-same
returns-clause-same c = λ state. refl

pub returns-clause-turned : goal.returns-clause-turned
returns-clause-turned c = λ one other same. sym same

pub returns-clause-chained : goal.returns-clause-chained
returns-clause-chained c = λ one other third first second. first ∙ second

pub returns-clause-documents : goal.returns-clause-documents
returns-clause-documents c = λ one other. compared_so one.sections other.sections
