use Rattle.gix_config_laws.proofs.OneConfiguration.{env_alike}
use Rattle.gix_config_laws.proofs.lossy_loads_of_variables_say_the_same.Goals as goal

pub returns : goal.returns
returns c = env_alike
