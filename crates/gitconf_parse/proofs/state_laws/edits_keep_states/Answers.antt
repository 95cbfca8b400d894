use Rattle.gitconf_state.proofs.Edits.Keep.{apply_items, apply_clean, apply_all_items, apply_all_clean}
use Rattle.gitconf_state.proofs.Edits.Numbers.{apply_all_numbers}
use Rattle.gitconf_parse.proofs.state_laws.edits_keep_states.Goals as goal

pub returns-clause-items : goal.returns-clause-items
returns-clause-items c = apply_items

pub returns-clause-clean : goal.returns-clause-clean
returns-clause-clean c = apply_clean

pub returns-clause-all_items : goal.returns-clause-all_items
returns-clause-all_items c = apply_all_items

pub returns-clause-all_clean : goal.returns-clause-all_clean
returns-clause-all_clean c = apply_all_clean

pub returns-clause-numbers : goal.returns-clause-numbers
returns-clause-numbers c = apply_all_numbers

pub returns-clause-state : goal.returns-clause-state
returns-clause-state c = λ edits state is all within.
    record { items = apply_all_items edits state is all.items; numbers = apply_all_numbers edits state all.numbers; within = within }
