use Rattle.gitconf_state.proofs.Edits.Others.{set_value_leaves_keys, set_value_leaves_sections}
use Rattle.gitconf_parse.proofs.state_laws.set_value_leaves_others.Goals as goal

pub returns-clause-keys : goal.returns-clause-keys
returns-clause-keys c = set_value_leaves_keys

pub returns-clause-sections : goal.returns-clause-sections
returns-clause-sections c = set_value_leaves_sections
