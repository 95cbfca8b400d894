use Rattle.gitconf_state.proofs.Edits.Numbers.{edited_one}
use Rattle.gitconf_parse.proofs.state_laws.an_editor_changes_one_section.Goals as goal

pub returns : goal.returns
returns c = edited_one
