use Rattle.gix_config_c.proofs.KeyLemmas.{written_names}
use Rattle.gix_config_c.proofs.reading.gix_config_key_parse.Goals as goal

-- the names that the text writes are text
pub returns-in-Some-clause-done : goal.returns-in-Some-clause-done
returns-in-Some-clause-done c = λ done. written_names _ _ c.fill.new.key c.in-Some.ensures c.fill.ensures.section c.fill.ensures.subsection c.fill.ensures.name
