-- Files that are loaded, as beginnings of the main theorem: each is clean if what it is made of has no entry before a first section.
use Rattle.std.proofs.Common.{◌≡◌, ℕ, Bool, true, false, List, Option, Some, None, Result, Ok, Err, subst}
use Rattle.std.specs.Prelude.{IfOk, IfSome}
use Rattle.gitconf_sources.specs.FoundFiles.{AreFound, global_sources}
use Rattle.gitconf_sources.specs.Metadata.{Meta}
use Rattle.gitconf_sources.specs.Reports.{FileReport, VariableReport}
use Rattle.gitconf_sources.specs.declared.fault.FileFault.{FileFault}
use Rattle.gitconf_sources.specs.declared.host.Places.{Places}
use Rattle.gitconf_sources.specs.declared.source.Source.{Source}
use Rattle.gitconf_state.specs.Clean.{IsClean}
use Rattle.gitconf_state.specs.State.{State}
use Rattle.gitconf_includes.specs.Expansion.{Asks, IsLoaded}
use Rattle.gitconf_includes.specs.Laws.{IncludesHeaded}
use Rattle.gitconf_loaders.specs.Globals.{IsGlobal, home_rules}
use Rattle.gitconf_loaders.specs.Headed.{AreHeadedAt, IsHeadedText}
use Rattle.gitconf_loaders.specs.Paths.{IsLoadedFrom, IsLoadOfPaths, telling}
use Rattle.gitconf_loaders.specs.Refused.{Refused}
use Rattle.gitconf_loaders.specs.Resolving.{IsMadeOf}
use Rattle.gitconf_loaders.proofs.Clean.{from_path, global_clean, made, made_whole, paths_clean}
use Rattle.gix_config.specs.Environment.{HaveSectionNames, IncludeHeaded, IsFromEnv, IsOverrides}
use Rattle.gix_config.specs.Repository.{IsHeadedRepository, IsRepository}
use Rattle.gix_config_laws.specs.Beginnings.{AlwaysReads}
use Rattle.gix_config_laws.proofs.CleanLoads.{env_clean, overrides_clean, repository_clean}

-- a load of a file, or of one if there is any, begins if the file is clean
abbrev pub BeginsIfClean : {E : Type 0} → Result State E → Type 0
BeginsIfClean loaded = IfOk loaded (λ f. IsClean f → AlwaysReads f)

abbrev pub MayBeginIfClean : {E : Type 0} → Result (Option State) E → Type 0
MayBeginIfClean loaded = IfOk loaded (λ o. IfSome o (λ f. IsClean f → AlwaysReads f))

pub begun : {E : Type 0} (P : State → Type 0) (loaded : Result State E) → IfOk loaded (λ f. P f → IsClean f) → BeginsIfClean loaded → IfOk loaded (λ f. P f → AlwaysReads f)
begun P (Ok file) clean begins = λ p. begins (clean p)
begun P (Err e) clean begins = tt

pub begun_for : {I E : Type 0} (P : I → Type 0) (loaded : Result State E) → IfOk loaded (λ f. (i : I) → P i → IsClean f) → BeginsIfClean loaded
    → IfOk loaded (λ f. (i : I) → P i → AlwaysReads f)
begun_for P (Ok file) clean begins = λ i p. begins (clean i p)
begun_for P (Err e) clean begins = tt

pub text_begins : {E : Type 0} (tells : E → Refused) (asks : Asks) (text : List ℕ) (place : Meta) (loaded : Result State E) → IsMadeOf tells asks text place loaded → BeginsIfClean loaded
    → IsHeadedText asks place text → IfOk loaded AlwaysReads
text_begins tells asks text place (Ok file) is begins heads = begins (made asks tells text place file heads is).clean
text_begins tells asks text place (Err e) is begins heads = tt

pub whole_text_begins : {E : Type 0} (tells : E → Refused) (asks : Asks) (text : List ℕ) (place : Meta) (loaded : Result State E) → IsMadeOf tells asks text place loaded
    → BeginsIfClean loaded → asks.rules.lossy ≡ false → ((file : State) → IsLoaded false text place file → IncludesHeaded asks.rules.max_depth asks file) → IfOk loaded AlwaysReads
whole_text_begins tells asks text place (Ok file) is begins whole heads = begins (made_whole asks tells text place file whole heads is)
whole_text_begins tells asks text place (Err e) is begins whole heads = tt

pub path_begins : {E : Type 0} (tells : E → Refused) (table : Option (List ℕ → FileReport)) (path : List ℕ) (source : Source) (loaded : Result State E)
    → IsLoadedFrom table path source (telling tells loaded) → BeginsIfClean loaded → IfOk loaded AlwaysReads
path_begins tells table path source (Ok file) is begins = begins (from_path table path source file is)
path_begins tells table path source (Err e) is begins = tt

pub paths_begin : {E : Type 0} (tells : E → Refused) (must_exist ignores : Bool) (asks : Asks) (metas : List Meta) (loaded : Result (Option State) E)
    → IsLoadOfPaths must_exist ignores asks metas (telling tells loaded) → MayBeginIfClean loaded → AreHeadedAt must_exist ignores asks metas
    → IfOk loaded (λ o. IfSome o AlwaysReads)
paths_begin tells must_exist ignores asks metas (Ok (Some file)) is begins heads = begins (paths_clean must_exist ignores asks metas file heads is).0
paths_begin tells must_exist ignores asks metas (Ok None) is begins heads = tt
paths_begin tells must_exist ignores asks metas (Err e) is begins heads = tt

pub globals_begin : {E : Type 0} (tells : E → Refused) (variables : Option (List ℕ → VariableReport)) (places : Places) (table : Option (List ℕ → FileReport)) (loaded : Result State E)
    → IsGlobal variables places table (telling tells loaded) → BeginsIfClean loaded
    → ((found : List Meta) → AreFound variables places table global_sources found → AreHeadedAt true false (record { rules = home_rules places; table = table }) found)
    → IfOk loaded AlwaysReads
globals_begin tells variables places table (Ok file) is begins heads = begins (global_clean variables places table file heads is).0
globals_begin tells variables places table (Err e) is begins heads = tt

pub env_begins : {E : Type 0} (tells : E → Refused) (reports : Option (List ℕ → VariableReport)) (asks : Asks) (loaded : Result (Option State) E)
    → IsFromEnv reports asks (telling tells loaded) → MayBeginIfClean loaded → (variables : List ℕ → VariableReport) → reports ≡ Some variables → HaveSectionNames variables
    → IncludeHeaded variables asks → IfOk loaded (λ o. IfSome o AlwaysReads)
env_begins tells reports asks (Ok (Some file)) is begins variables told named heads =
    begins (env_clean variables asks file named heads (subst (λ o. IsFromEnv o asks (Ok (Some file))) told is)).0
env_begins tells reports asks (Ok None) is begins variables told named heads = tt
env_begins tells reports asks (Err e) is begins variables told named heads = tt

pub overrides_begin : {E : Type 0} (tells : E → Refused) (reports : Option (List ℕ → VariableReport)) (places : Places) (table : Option (List ℕ → FileReport)) (loaded : Result State E)
    → IsOverrides reports places table (telling tells loaded) → BeginsIfClean loaded → (variables : List ℕ → VariableReport) → reports ≡ Some variables → HaveSectionNames variables
    → IncludeHeaded variables (record { rules = home_rules places; table = table }) → IfOk loaded AlwaysReads
overrides_begin tells reports places table (Ok file) is begins variables told named heads =
    begins (overrides_clean variables places table file named heads (subst (λ o. IsOverrides o places table (Ok file)) told is)).0
overrides_begin tells reports places table (Err e) is begins variables told named heads = tt

pub repository_begins : {E : Type 0} (tells : E → Refused) (reports : Option (List ℕ → VariableReport)) (places : Places) (table : Option (List ℕ → FileReport)) (dir : List ℕ) (real : Result (List ℕ) FileFault) (loaded : Result State E)
    → IsRepository reports places table dir real (telling tells loaded) → BeginsIfClean loaded → (variables : List ℕ → VariableReport) → reports ≡ Some variables
    → HaveSectionNames variables → IsHeadedRepository variables places table dir real → IfOk loaded AlwaysReads
repository_begins tells reports places table dir real (Ok file) is begins variables told named heads =
    begins (repository_clean variables places table dir real file named heads (subst (λ o. IsRepository o places table dir real (Ok file)) told is)).0
repository_begins tells reports places table dir real (Err e) is begins variables told named heads = tt
