use Rattle.std.proofs.Common.{refl}
use Rattle.gitconf_state.proofs.Edits.Used.{apply_all_used, are_edits_used}
use Rattle.gitconf_parse.proofs.state_laws.used_bytes_are_not_asked.Goals as goal

pub returns-clause-edits : goal.returns-clause-edits
returns-clause-edits c = apply_all_used

pub returns-clause-names : goal.returns-clause-names
returns-clause-names c = are_edits_used

pub returns-clause-text : goal.returns-clause-text
returns-clause-text c = λ used state. refl

pub returns-clause-document : goal.returns-clause-document
returns-clause-document c = λ used state. refl
