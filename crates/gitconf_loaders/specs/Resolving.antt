-- A file that is made of bytes, and then expanded.
use Rattle.std.specs.Prelude.{◌≡◌, ℕ, List, Option, None, Result, Ok, Err}
use Rattle.gitconf_sources.specs.Metadata.{Meta}
use Rattle.gitconf_includes.specs.declared.init.Error.{Error}
use Rattle.gitconf_state.specs.State.{State}
use Rattle.gitconf_includes.specs.Expansion.{Asks, Ended, Expands, IsLoadOf, On, Reached}
use Rattle.gitconf_includes.specs.Outcomes.{CountsFault}
use Rattle.gitconf_loaders.specs.Errors.{init_number, init_says}
use Rattle.gitconf_loaders.specs.Refused.{include_refused, parse_refused, Refused}

-- a call makes the expanded file, or is refused with what an include's refusal says
abbrev pub Makes : {E : Type 0} → (says : E → Refused) → Result State E → Reached → Type 0
Makes says (Ok made) (On done) = made ≡ done
Makes says (Err e) (Ended said file) = include_refused said ≡ says e
Makes says (Ok made) (Ended said file) = ⊥
Makes says (Err e) (On done) = ⊥

-- what was loaded is expanded, as many levels deep as the rules say
abbrev pub MakesOf : {E : Type 0} → (says : E → Refused) → Asks → Result State E → (loaded : Result State Refused) → Type 0
MakesOf says asks result (Ok state) = (r : Reached) × Expands asks.rules.max_depth asks None state r × Makes says result r
MakesOf says asks (Ok made) (Err why) = ⊥
MakesOf says asks (Err e) (Err why) = why ≡ says e

-- the text is loaded, and then expanded
abbrev pub IsMadeOf : {E : Type 0} → (says : E → Refused) → Asks → (text : List ℕ) → Meta → Result State E → Type 0
IsMadeOf says asks text place result = (loaded : Result State Refused) × IsLoadOf parse_refused asks.rules.lossy text place loaded × MakesOf says asks result loaded

-- how often a host's files failed in such a call, as in one that resolves includes
abbrev pub MakesCounted : {T : Type 0} → Result T Error → (old new : Option ℕ) → Type 0
MakesCounted (Ok made) old new = new ≡ old
MakesCounted (Err e) old new = CountsFault (init_number e) old new

-- Two calls make the same file, or both are refused, and say the same.
abbrev pub AreMadeAlike : (one other : Result State Error) → Type 0
AreMadeAlike (Ok made) (Ok other) = made ≡ other
AreMadeAlike (Ok made) (Err f) = ⊥
AreMadeAlike (Err e) (Ok other) = ⊥
AreMadeAlike (Err e) (Err f) = init_says e ≡ init_says f
