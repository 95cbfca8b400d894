use Rattle.gitconf_state.proofs.Loading.Clean.{full_has_items, full_is_clean, kept_has_items, lossy_is_clean, part_load_has_items, part_load_is_clean}
use Rattle.gitconf_state.proofs.Loading.Document as document
use Rattle.gitconf_parse.proofs.state_laws.loads_are_clean.Goals as goal

pub returns-clause-full : goal.returns-clause-full
returns-clause-full c = λ text parts state is load. (full_has_items parts state is.fits load, full_is_clean parts state is.fits load)

pub returns-clause-full_document : goal.returns-clause-full_document
returns-clause-full_document c = λ text parts state is load. document.full_document parts state load

pub returns-clause-kept : goal.returns-clause-kept
returns-clause-kept c = λ keeps text parts state all is load. kept_has_items keeps parts state all is.fits load

pub returns-clause-lossy : goal.returns-clause-lossy
returns-clause-lossy c = λ text parts state is load none. lossy_is_clean parts state is.fits load none

pub returns-clause-lossy_document : goal.returns-clause-lossy_document
returns-clause-lossy_document c = λ text parts state is load. document.lossy_document parts state load

pub returns-clause-part : goal.returns-clause-part
returns-clause-part c = λ text parts state is load. part_load_has_items parts state is.fits load

pub returns-clause-part_clean : goal.returns-clause-part_clean
returns-clause-part_clean c = λ text parts state is load none. part_load_is_clean parts state is.fits load none

pub returns-clause-part_document : goal.returns-clause-part_document
returns-clause-part_document c = λ text parts state is load. document.part_load_document parts state load
