use Rattle.gix_config_c.proofs.look_ups.put_texts.Goals as goal

-- what was put there is what was made
pub returns-clause-done : goal.returns-clause-done
returns-clause-done c = λ done. (c.in-Ok.texts, c.put_list.ensures.done done, c.in-Ok.ensures)
