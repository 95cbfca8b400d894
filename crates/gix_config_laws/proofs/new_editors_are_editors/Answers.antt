use Rattle.gix_config_laws.proofs.NewEditors.{editor_made, editor_numbered, editor_of_value, editor_picked, editor_picked_of_some, ended_by, led_by}
use Rattle.gix_config_laws.proofs.new_editors_are_editors.Goals as goal

pub returns-clause-found : goal.returns-clause-found
returns-clause-found c = editor_picked

pub returns-clause-found_of_some : goal.returns-clause-found_of_some
returns-clause-found_of_some c = editor_picked_of_some

pub returns-clause-of_number : goal.returns-clause-of_number
returns-clause-of_number c = editor_numbered

pub returns-clause-made : goal.returns-clause-made
returns-clause-made c = editor_made

pub returns-clause-value : goal.returns-clause-value
returns-clause-value c = editor_of_value

pub returns-clause-leading : goal.returns-clause-leading
returns-clause-leading c = led_by

pub returns-clause-ends : goal.returns-clause-ends
returns-clause-ends c = ended_by
