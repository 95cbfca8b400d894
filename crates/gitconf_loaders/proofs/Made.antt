-- Files that are made of bytes, by how the calls end.
use Rattle.std.proofs.Common.{◌≡◌, ◌≢◌, ℕ, ◌==◌, Bool, true, false, List, None, Result, Ok, Err, refl, sym, ap, subst, ◌∙◌}
use Rattle.std.specs.Prelude.{IsErrAnd}
use Rattle.std.proofs.lemmas.Bool.{eqb-true}
use Rattle.gitconf_sources.specs.Metadata.{Meta}
use Rattle.gitconf_includes.specs.declared.includes.Error.{Error}
use Rattle.gitconf_includes.specs.declared.includes.Error.TheVariants as refusals
use Rattle.gitconf_includes.specs.declared.init.Error.{Error as Init}
use Rattle.gitconf_includes.specs.Errors.{init_of_includes, init_of_parse, says}
use Rattle.gitconf_read.specs.EventResult.{IsRefused}
use Rattle.gitconf_read.specs.ParseError.{Refusal}
use Rattle.gitconf_state.specs.State.{State}
use Rattle.gitconf_includes.specs.Expansion.{Asks, Ended, Expands, IsLoaded, Leaves, On, Reached, Resolves}
use Rattle.gitconf_includes.specs.Said.{OutOfMemory}
use Rattle.gitconf_includes.proofs.Steps.{expands_wanting, leaves_refused}
use Rattle.gitconf_loaders.specs.Errors.{init_says}
use Rattle.gitconf_loaders.specs.Refused.{include_refused, parse_refused}
use Rattle.gitconf_loaders.specs.Resolving.{IsMadeOf}

parse_says : (e : Refusal) → init_says (init_of_parse e) ≡ parse_refused e
parse_says e = go (e.number == 27) refl
  where
    go : (b : Bool) → (e.number == 27) ≡ b → init_says (init_of_parse e) ≡ parse_refused e
    go true is = rw is refl
    go false is = rw is refl

pub includes_says : (e : Error) → init_says (init_of_includes e) ≡ include_refused (says e)
includes_says (refusals.CopyBuffer path fault) = refl
includes_says (refusals.Io path fault) = refl
includes_says (refusals.Parse path it) = refl
includes_says (refusals.Span it) = refl
includes_says (refusals.Interpolate it) = refl
includes_says (refusals.IncludeDepthExceeded depth) = refl
includes_says refusals.MissingConfigPath = refl
includes_says refusals.MissingGitDir = refl
includes_says (refusals.Realpath fault) = refl
includes_says refusals.Memory = refl

-- the parser refuses
pub not_loaded : (asks : Asks) (text : List ℕ) (place : Meta) (e : Refusal) (result : Result State Init) → IsRefused text e → IsErrAnd result (λ r. r ≡ init_of_parse e)
    → IsMadeOf init_says asks text place result
not_loaded asks text place e (Ok made) refused err = absurd err
not_loaded asks text place e (Err r) refused err = (Err (parse_refused e), (e, refused, refl), sym (ap init_says err ∙ parse_says e))

-- an include refuses
pub not_expanded : (asks : Asks) (text : List ℕ) (place : Meta) (loaded new : State) (e : Error) (result : Result State Init) → IsLoaded asks.rules.lossy text place loaded
    → (r : Reached) × Expands asks.rules.max_depth asks None loaded r × Leaves says (Err e) new r → IsErrAnd result (λ r. r ≡ init_of_includes e) → IsMadeOf init_says asks text place result
not_expanded asks text place loaded new e (Ok made) load (r, expands, leaves) err = absurd err
not_expanded asks text place loaded new e (Err x) load (On done, expands, leaves) err = absurd leaves
not_expanded asks text place loaded new e (Err x) load (Ended said file, expands, leaves) err =
    (Ok loaded, load, (Ended said file, expands, ap include_refused leaves.0 ∙ sym (ap init_says err ∙ includes_says e)))

-- all is put in
pub made : (asks : Asks) (text : List ℕ) (place : Meta) (loaded new : State) → IsLoaded asks.rules.lossy text place loaded
    → (r : Reached) × Expands asks.rules.max_depth asks None loaded r × Leaves {E = Error} says (Ok tt) new r → IsMadeOf {E = Init} init_says asks text place (Ok new)
made asks text place loaded new load (r, expands, leaves) = (Ok loaded, load, (On new, subst (Expands asks.rules.max_depth asks None loaded) leaves expands, refl))

-- whether no depth is asked for
some_depth : (depth : ℕ) → depth ≢ 0 → (depth == 0) ≡ false
some_depth depth some = go (depth == 0) refl
  where
    go : (b : Bool) → (depth == 0) ≡ b → (depth == 0) ≡ false
    go true is = absurd (some (eqb-true depth 0 is))
    go false is = is

-- includes of a file are resolved
pub resolves : (asks : Asks) (old new : State) (result : Result Unit Error) → asks.rules.max_depth ≢ 0
    → (r : Reached) × Expands asks.rules.max_depth asks None old r × Leaves says result new r → Resolves says asks old result new
resolves asks old new result some (r, expands, leaves) = (r, rw (some_depth asks.rules.max_depth some) expands, leaves)

-- memory ran out before anything was done
pub resolves_wanting : (asks : Asks) (old : State) (result : Result Unit Error) → asks.rules.max_depth ≢ 0 → IsErrAnd result (λ r. r ≡ refusals.Memory) → Resolves says asks old result old
resolves_wanting asks old result some err =
    resolves asks old old result some (Ended OutOfMemory old, expands_wanting asks.rules.max_depth asks None old some, leaves_refused result refusals.Memory OutOfMemory old old err refl refl)
