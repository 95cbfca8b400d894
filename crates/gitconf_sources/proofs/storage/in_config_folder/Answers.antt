use Rattle.std.proofs.Common.{Some, refl, ap, subst, ◌∙◌, codes, string_bytes}
use Rattle.std.proofs.lemmas.Result.{IfOk-weaker}
use Rattle.std.specs.Option.{option_map, option_or}
use Rattle.gitconf_values.specs.Paths.{join}
use Rattle.gitconf_sources.specs.Places.{folder_place, in_folder, IsPlaced, text_of}
use Rattle.gitconf_sources.proofs.PlaceLemmas.{asked, decided}
use Rattle.gitconf_sources.proofs.storage.in_config_folder.Goals as goal

pub returns-in_ok-join-in-Some-clause-placed : goal.returns-in_ok-join-in-Some-clause-placed
returns-in_ok-join-in-Some-clause-placed g c =
    decided (g.E.Env.variables c.args.env.now) (codes "XDG_CONFIG_HOME") (option_map string_bytes c.in_ok-text_of.field-0)
    (λ folder var. folder_place folder (text_of var (codes "HOME"))) (Some (string_bytes c.in_ok-join-in-Some.field-0)) refl c.in_ok-text_of.ensures.told
    (λ var. ap (λ path. Some path) (c.in_ok-join-in-Some.ensures ∙ ap (λ folder. join folder (codes "git/config")) c.deref.ensures)
    ∙ ap (λ folder. option_or (in_folder (codes "git/config") folder) (in_folder (codes ".config/git/config") (text_of var (codes "HOME")))) c.in-Some.ensures)

pub returns-in-None-clause-placed : goal.returns-in-None-clause-placed
returns-in-None-clause-placed g c =
    IfOk-weaker c.in_home.result _ _
    (λ place is. asked (g.E.Env.variables c.args.env.now) (codes "XDG_CONFIG_HOME") (option_map string_bytes c.in_ok-text_of.field-0)
    (λ folder var. folder_place folder (text_of var (codes "HOME"))) (option_map string_bytes place) refl c.in_ok-text_of.ensures.told (λ told var. refl)
    (subst (λ folder. IsPlaced (g.E.Env.variables c.args.env.now) (λ var. option_or (in_folder (codes "git/config") folder) (in_folder (codes ".config/git/config") (text_of var (codes "HOME")))) (option_map string_bytes place))
    c.in-None.ensures
    (subst (λ variables. IsPlaced variables (λ var. in_folder (codes ".config/git/config") (text_of var (codes "HOME"))) (option_map string_bytes place)) c.text_of.ensures.stays is)))
    c.in_home.ensures.placed
