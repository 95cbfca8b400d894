use Rattle.std.proofs.Common.{None, if◌then◌else◌, refl, ap, sym, subst, ◌∙◌, codes, string_bytes}
use Rattle.std.proofs.lemmas.Result.{IfOk-weaker}
use Rattle.std.specs.Option.{option_map}
use Rattle.gitconf_sources.specs.Places.{IsPlaced, machine_place, system_place, text_of}
use Rattle.gitconf_sources.proofs.PlaceLemmas.{asked, decided}
use Rattle.gitconf_sources.proofs.storage.system.Goals as goal

pub returns-then-is_on-clause-placed : goal.returns-then-is_on-clause-placed
returns-then-is_on-clause-placed g c =
    decided (g.E.Env.variables c.args.env.now) (codes "GIT_CONFIG_NOSYSTEM") (option_map string_bytes c.in_ok-text_of.field-0)
    (λ off var. system_place c.args.places.now off (text_of var (codes "GIT_CONFIG_SYSTEM"))) None refl c.in_ok-text_of.ensures.told
    (λ var. ap (λ on. if on then None else machine_place c.args.places.now (text_of var (codes "GIT_CONFIG_SYSTEM"))) (sym c.if-is_on.true ∙ c.is_on.ensures))

pub returns-clause-placed : goal.returns-clause-placed
returns-clause-placed g c =
    IfOk-weaker c.machine.result _ _
    (λ place is. asked (g.E.Env.variables c.args.env.now) (codes "GIT_CONFIG_NOSYSTEM") (option_map string_bytes c.in_ok-text_of.field-0)
    (λ off var. system_place c.args.places.now off (text_of var (codes "GIT_CONFIG_SYSTEM"))) (option_map string_bytes place) refl c.in_ok-text_of.ensures.told (λ told var. refl)
    (subst (λ on. IsPlaced (g.E.Env.variables c.args.env.now) (λ var. if on then None else machine_place c.args.places.now (text_of var (codes "GIT_CONFIG_SYSTEM"))) (option_map string_bytes place))
    (sym c.if-is_on.false ∙ c.is_on.ensures)
    (subst (λ variables. IsPlaced variables (λ var. machine_place c.args.places.now (text_of var (codes "GIT_CONFIG_SYSTEM"))) (option_map string_bytes place)) c.text_of.ensures.stays is)))
    c.machine.ensures.placed
