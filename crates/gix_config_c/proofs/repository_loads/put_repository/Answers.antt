use Rattle.std.proofs.Common.{inl, inr}
use Rattle.gix_config_c.proofs.HostLemmas.{put_tells}
use Rattle.gix_config_c.proofs.repository_loads.put_repository.Goals as goal

-- the configuration that was made
pub returns-in-Ok-loaded_repository-clause-answer : goal.returns-in-Ok-loaded_repository-clause-answer
returns-in-Ok-loaded_repository-clause-answer c = λ short. (
  c.in-Ok.places,
  c.in-Ok.ensures,
  inl (
    c.in-Ok-loaded_repository.made,
    c.in-Ok-loaded_repository.ensures.ok,
    put_tells c.in-Ok-loaded_repository.made c.put_list.result c.put_list.new.handle.it c.args.asked.now c.loaded_repository.new.asked c.put_list.ensures.number c.put_list.ensures.done c.in-Ok-loaded_repository.ensures.same short,
  ),
)

-- the refusal
pub returns-in-Err-clause-answer : goal.returns-in-Err-clause-answer
returns-in-Err-clause-answer c = λ short. (c.in-Ok.places, c.in-Ok.ensures, inr (c.in-Err.ensures.err short))
