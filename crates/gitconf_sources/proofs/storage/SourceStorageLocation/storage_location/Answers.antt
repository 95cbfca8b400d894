use Rattle.std.proofs.Common.{◌≡◌, ◌⊎◌, inl, inr, ℕ, List, None, refl, ap, sym, ◌∙◌, string_bytes}
use Rattle.std.proofs.lemmas.Result.{IfOk-weaker}
use Rattle.std.specs.Option.{option_map}
use Rattle.gitconf_sources.specs.declared.source.Source.{Source}
use Rattle.gitconf_sources.specs.declared.source.Source.TheVariants.{Env, Cli, Api, EnvOverride}
use Rattle.gitconf_sources.specs.Reports.{VariableReport}
use Rattle.gitconf_sources.specs.Places.{place_of}
use Rattle.gitconf_sources.proofs.PlaceLemmas.{stands}
use Rattle.gitconf_sources.proofs.storage.SourceStorageLocation.storage_location.Goals as goal

pub returns-in-Local-clause-placed : goal.returns-in-Local-clause-placed
returns-in-Local-clause-placed g c =
    IfOk-weaker c.fixed.result _ _
    (λ place is. stands (g.E.Env.variables c.args.env.now) (λ var. place_of var c.args.places.now c.args.self) (option_map string_bytes place)
    (λ var. is ∙ ap (place_of var c.args.places.now) (sym c.in-Local.is)))
    c.fixed.ensures

pub returns-in-Worktree-clause-placed : goal.returns-in-Worktree-clause-placed
returns-in-Worktree-clause-placed g c =
    IfOk-weaker c.fixed-in-Worktree.result _ _
    (λ place is. stands (g.E.Env.variables c.args.env.now) (λ var. place_of var c.args.places.now c.args.self) (option_map string_bytes place)
    (λ var. is ∙ ap (place_of var c.args.places.now) (sym c.in-Worktree.is)))
    c.fixed-in-Worktree.ensures

pub returns-in-Env-clause-placed : goal.returns-in-Env-clause-placed
returns-in-Env-clause-placed g c =
    stands (g.E.Env.variables c.args.env.now) (λ var. place_of var c.args.places.now c.args.self) None (λ var. nowhere var c.args.self c.in-Env.is)
  where
    nowhere : (var : List ℕ → VariableReport) (source : Source) → (source ≡ Env) ⊎ (source ≡ Cli) ⊎ (source ≡ Api) ⊎ (source ≡ EnvOverride) → None ≡ place_of var c.args.places.now source
    nowhere var source (inl is) = rw is refl
    nowhere var source (inr (inl is)) = rw is refl
    nowhere var source (inr (inr (inl is))) = rw is refl
    nowhere var source (inr (inr (inr is))) = rw is refl
