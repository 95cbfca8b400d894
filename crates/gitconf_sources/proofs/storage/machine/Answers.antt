use Rattle.std.proofs.Common.{Some, refl, ap, sym, ◌∙◌, codes, string_bytes}
use Rattle.std.specs.Option.{option_map}
use Rattle.gitconf_values.specs.Paths.{join}
use Rattle.gitconf_sources.specs.Places.{machine_place}
use Rattle.gitconf_sources.proofs.PlaceLemmas.{decided}
use Rattle.gitconf_sources.proofs.storage.machine.Goals as goal

pub returns-in-Some-clause-placed : goal.returns-in-Some-clause-placed
returns-in-Some-clause-placed g c =
    decided (g.E.Env.variables c.args.env.now) (codes "GIT_CONFIG_SYSTEM") (option_map string_bytes c.in_ok-path.field-0)
    (λ system var. machine_place c.args.places.now system) (Some (string_bytes c.in-Some.path)) refl c.in_ok-path.ensures.told
    (λ var. ap (λ path. machine_place c.args.places.now (option_map string_bytes path)) (sym c.in-Some.is))

pub returns-in_ok-join-in-None-clause-placed : goal.returns-in_ok-join-in-None-clause-placed
returns-in_ok-join-in-None-clause-placed g c =
    decided (g.E.Env.variables c.args.env.now) (codes "GIT_CONFIG_SYSTEM") (option_map string_bytes c.in_ok-path.field-0)
    (λ system var. machine_place c.args.places.now system) (Some (string_bytes c.in_ok-join-in-None.field-0)) refl c.in_ok-path.ensures.told
    (λ var. ap (λ path. Some path) (c.in_ok-join-in-None.ensures ∙ ap (λ prefix. join prefix (codes "etc/gitconfig")) c.deref.ensures)
    ∙ ap (λ path. machine_place c.args.places.now (option_map string_bytes path)) (sym c.in-None.is))
