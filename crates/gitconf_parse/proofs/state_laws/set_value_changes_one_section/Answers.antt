use Rattle.std.proofs.Common.{ap, refl}
use Rattle.gitconf_state.proofs.Edits.Places.{set_raw_value_file, set_raw_value_at, set_raw_value_new}
use Rattle.gitconf_parse.proofs.state_laws.set_value_changes_one_section.Goals as goal

pub returns-clause-file : goal.returns-clause-file
returns-clause-file c = set_raw_value_file

pub returns-clause-found : goal.returns-clause-found
returns-clause-found c = λ name subsection key keeps value state before s behind is target none.
    let same = set_raw_value_at name subsection key keeps value state before s behind is target none in
    (ap (λ state. state.next) same, ap (λ state. state.sections) same)

pub returns-clause-made : goal.returns-clause-made
returns-clause-made c = λ name subsection key keeps value state none.
    let same = set_raw_value_new name subsection key keeps value state none in
    (ap (λ state. state.next) same, ap (λ state. state.sections) same)

pub returns-clause-section : goal.returns-clause-section
returns-clause-section c = λ line_end key value s. (refl, refl, refl, refl)
