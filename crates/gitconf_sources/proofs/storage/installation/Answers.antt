use Rattle.std.proofs.Common.{None, if◌then◌else◌, refl, ap, sym, ◌∙◌, codes, string_bytes}
use Rattle.std.proofs.lemmas.Result.{IfOk-weaker}
use Rattle.std.specs.Option.{option_map}
use Rattle.gitconf_sources.specs.Places.{installation_place}
use Rattle.gitconf_sources.proofs.PlaceLemmas.{decided}
use Rattle.gitconf_sources.proofs.storage.installation.Goals as goal

pub returns-then-is_on-clause-placed : goal.returns-then-is_on-clause-placed
returns-then-is_on-clause-placed g c =
    decided (g.E.Env.variables c.args.env.now) (codes "GIT_CONFIG_NOSYSTEM") (option_map string_bytes c.in_ok-text_of.field-0)
    (λ off var. installation_place c.args.places.now off) None refl c.in_ok-text_of.ensures.told
    (λ var. ap (λ on. if on then None else option_map string_bytes c.args.places.now.installation_config) (sym c.if-is_on.true ∙ c.is_on.ensures))

pub returns-clause-placed : goal.returns-clause-placed
returns-clause-placed g c =
    IfOk-weaker c.installed.result _ _
    (λ place is. decided (g.E.Env.variables c.args.env.now) (codes "GIT_CONFIG_NOSYSTEM") (option_map string_bytes c.in_ok-text_of.field-0)
    (λ off var. installation_place c.args.places.now off) (option_map string_bytes place) refl c.in_ok-text_of.ensures.told
    (λ var. is ∙ ap (λ on. if on then None else option_map string_bytes c.args.places.now.installation_config) (sym c.if-is_on.false ∙ c.is_on.ensures)))
    c.installed.ensures
