use Rattle.gitconf_state.proofs.Listings.{same_listed, lossy_listed}
use Rattle.gitconf_parse.proofs.state_laws.look_ups_ask_documents.Goals as goal

pub returns-clause-listed : goal.returns-clause-listed
returns-clause-listed c = λ one other. same_listed one.sections other.sections

pub returns-clause-lossy : goal.returns-clause-lossy
returns-clause-lossy c = lossy_listed
