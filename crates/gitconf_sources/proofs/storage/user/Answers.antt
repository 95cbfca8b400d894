use Rattle.std.proofs.Common.{Some, None, refl, ap, sym, subst, codes, string_bytes}
use Rattle.std.proofs.lemmas.Result.{IfOk-weaker}
use Rattle.std.specs.Option.{option_map}
use Rattle.gitconf_sources.specs.Places.{in_folder, IsPlaced, IsText, text_of, user_place}
use Rattle.gitconf_sources.proofs.PlaceLemmas.{asked, decided}
use Rattle.gitconf_sources.proofs.storage.user.Goals as goal

pub returns-in-Some-clause-placed : goal.returns-in-Some-clause-placed
returns-in-Some-clause-placed g c =
    decided (g.E.Env.variables c.args.env.now) (codes "GIT_CONFIG_GLOBAL") (option_map string_bytes c.in_ok-path.field-0)
    (λ global var. user_place global (text_of var (codes "HOME"))) (Some (string_bytes c.in-Some.path)) refl c.in_ok-path.ensures.told
    (λ var. ap (λ path. user_place (option_map string_bytes path) (text_of var (codes "HOME"))) (sym c.in-Some.is))

pub returns-in-None-clause-placed : goal.returns-in-None-clause-placed
returns-in-None-clause-placed g c =
    IfOk-weaker c.in_home.result _ _
    (λ place is. asked (g.E.Env.variables c.args.env.now) (codes "GIT_CONFIG_GLOBAL") None
    (λ global var. user_place global (text_of var (codes "HOME"))) (option_map string_bytes place) refl
    (subst (λ path. IsText (g.E.Env.variables c.args.env.now) (codes "GIT_CONFIG_GLOBAL") (option_map string_bytes path)) c.in-None.is c.in_ok-path.ensures.told) (λ told var. refl)
    (subst (λ variables. IsPlaced variables (λ var. in_folder (codes ".gitconfig") (text_of var (codes "HOME"))) (option_map string_bytes place)) c.text_of.ensures.stays is))
    c.in_home.ensures.placed
