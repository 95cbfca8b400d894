use Rattle.gitconf_state.proofs.Edits.Places.{set_value_new}
use Rattle.gitconf_state.proofs.Edits.Values.{set_value_entry}
use Rattle.gitconf_parse.proofs.state_laws.set_value_changes_one_entry.Goals as goal

pub returns-clause-found : goal.returns-clause-found
returns-clause-found c = set_value_entry

pub returns-clause-made : goal.returns-clause-made
returns-clause-made c = set_value_new
