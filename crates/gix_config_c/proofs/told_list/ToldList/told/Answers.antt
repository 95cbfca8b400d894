use Rattle.std.proofs.Common.{ap, ◌∙◌}
use Rattle.std.specs.Option.{option_map}
use Rattle.std.specs.Map.{lookup}
use Rattle.std.specs.Str.{bytes_eq}
use Rattle.gitconf_sources.proofs.InMemoryLemmas.{found_entry}
use Rattle.gix_config_c.proofs.ToldLemmas.{told_lent}
use Rattle.gix_config_c.proofs.told_list.ToldList.told.Goals as goal

pub returns : goal.returns
returns g c =
    told_lent g.T.Tells.reported c.get.result ∙ ap (option_map g.T.Tells.reported) c.get.ensures.value
    ∙ found_entry g.T.Tells.reported c.args.name.now c.self.inside.tree.entries ∙ ap (λ v. lookup (bytes_eq c.args.name.now) v) c.self.view_is
