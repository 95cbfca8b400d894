use Rattle.std.proofs.Common.{Some, None, refl, ap, sym, subst, codes, string_bytes}
use Rattle.std.proofs.lemmas.Result.{IfOk-weaker}
use Rattle.std.specs.Option.{option_map}
use Rattle.gitconf_sources.specs.Places.{folder_place, git_place, IsPlaced, IsText, text_of}
use Rattle.gitconf_sources.proofs.PlaceLemmas.{asked, decided}
use Rattle.gitconf_sources.proofs.storage.git.Goals as goal

pub returns-in-Some-clause-placed : goal.returns-in-Some-clause-placed
returns-in-Some-clause-placed g c =
    decided (g.E.Env.variables c.args.env.now) (codes "GIT_CONFIG_GLOBAL") (option_map string_bytes c.in_ok-path.field-0)
    (λ global var. git_place global (text_of var (codes "XDG_CONFIG_HOME")) (text_of var (codes "HOME"))) (Some (string_bytes c.in-Some.path)) refl c.in_ok-path.ensures.told
    (λ var. ap (λ path. git_place (option_map string_bytes path) (text_of var (codes "XDG_CONFIG_HOME")) (text_of var (codes "HOME"))) (sym c.in-Some.is))

pub returns-in-None-clause-placed : goal.returns-in-None-clause-placed
returns-in-None-clause-placed g c =
    IfOk-weaker c.in_config_folder.result _ _
    (λ place is. asked (g.E.Env.variables c.args.env.now) (codes "GIT_CONFIG_GLOBAL") None
    (λ global var. git_place global (text_of var (codes "XDG_CONFIG_HOME")) (text_of var (codes "HOME"))) (option_map string_bytes place) refl
    (subst (λ path. IsText (g.E.Env.variables c.args.env.now) (codes "GIT_CONFIG_GLOBAL") (option_map string_bytes path)) c.in-None.is c.in_ok-path.ensures.told) (λ told var. refl)
    (subst (λ variables. IsPlaced variables (λ var. folder_place (text_of var (codes "XDG_CONFIG_HOME")) (text_of var (codes "HOME"))) (option_map string_bytes place)) c.text_of.ensures.stays is))
    c.in_config_folder.ensures.placed
