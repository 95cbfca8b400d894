use Rattle.std.proofs.Common.{◌∙◌}
use Rattle.gix_config_c.proofs.ToldLemmas.{same_entries}
use Rattle.gix_config_c.proofs.told_list.ToldList.try_clone.Goals as goal

pub returns : goal.returns
returns g c = same_entries g.T.Tells.reported _ g.met.T.Tells.same _ _ c.in_ok-clone.ensures.cases ∙ c.self.view_is
