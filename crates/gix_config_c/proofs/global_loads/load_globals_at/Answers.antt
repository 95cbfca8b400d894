use Rattle.gix_config_c.proofs.global_loads.load_globals_at.Goals as goal

-- the places as the library has them
pub returns-in-Ok-clause-answer : goal.returns-in-Ok-clause-answer
returns-in-Ok-clause-answer c = record { load = λ short. (c.in-Ok.places, c.in-Ok.ensures, c.put_globals.ensures.answer short) }
