use Rattle.gitconf_includes.proofs.OwnSections.{stay}
use Rattle.gitconf_includes.proofs.laws.own_sections_stay.Goals as goal

pub returns : goal.returns
returns c = stay
