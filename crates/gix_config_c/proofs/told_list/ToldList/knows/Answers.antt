use Rattle.std.proofs.Common.{ap, ◌∙◌}
use Rattle.std.specs.Prelude.{is_some}
use Rattle.gitconf_sources.proofs.InMemoryLemmas.{found_entry}
use Rattle.gix_config_c.specs.Told.{is_told}
use Rattle.gix_config_c.proofs.ToldLemmas.{same_some}
use Rattle.gix_config_c.proofs.told_list.ToldList.knows.Goals as goal

pub returns : goal.returns
returns g c =
    c.contains_key.ensures ∙ same_some g.T.Tells.reported _ ∙ ap is_some (found_entry g.T.Tells.reported c.args.name.now c.self.inside.tree.entries)
    ∙ ap (λ v. is_told v c.args.name.now) c.self.view_is
