use Rattle.std.proofs.Common.{refl}
use Rattle.gix_config_laws.proofs.NewEditors.{clean_numbered, clean_picked, clean_picked_of_some}
use Rattle.gix_config_laws.proofs.new_editors_of_clean_files_put_blanks.Goals as goal

pub returns-clause-found : goal.returns-clause-found
returns-clause-found c = clean_picked

pub returns-clause-found_of_some : goal.returns-clause-found_of_some
returns-clause-found_of_some c = clean_picked_of_some

pub returns-clause-of_number : goal.returns-clause-of_number
returns-clause-of_number c = clean_numbered

pub returns-clause-made : goal.returns-clause-made
returns-clause-made c = λ name subsection state. refl
