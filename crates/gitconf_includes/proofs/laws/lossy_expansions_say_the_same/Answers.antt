use Rattle.gitconf_includes.proofs.Lossy.{one_document_said, say_the_same}
use Rattle.gitconf_includes.proofs.laws.lossy_expansions_say_the_same.Goals as goal

pub returns-clause-same : goal.returns-clause-same
returns-clause-same c = say_the_same

pub returns-clause-document : goal.returns-clause-document
returns-clause-document c = one_document_said
