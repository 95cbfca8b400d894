use Rattle.std.proofs.Common.{refl, sym, ap, ◌∙◌}
use Rattle.std.specs.Option.{option_map}
use Rattle.gitconf_views.specs.Views.{shown}
use Rattle.gitconf_loaders.proofs.UrlLemmas.{none_left}
use Rattle.gitconf_loaders.proofs.expansion.ExpansionConfigFile.visit.Goals as goal

pub returns-in-None-clause-visited : goal.returns-in-None-clause-visited
returns-in-None-clause-visited c =
    let none = none_left _ (sym c.next_section.ensures ∙ ap (option_map shown) c.in-None.is) in
    (none, refl, none)
