use Rattle.gitconf_loaders.proofs.OneText.{one_file}
use Rattle.gitconf_loaders.proofs.laws.a_text_makes_one_file.Goals as goal

pub returns : goal.returns
returns c = one_file
