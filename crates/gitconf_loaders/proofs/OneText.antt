-- Over one table that is told a text makes one file, apart from running out of memory.
use Rattle.std.proofs.Common.{◌≡◌, ◌≢◌, ◌==◌, if◌then◌else◌, ℕ, Bool, List, Some, None, Result, Ok, Err, IfErr, refl, sym, subst, ap, ◌∙◌}
use Rattle.gitconf_sources.specs.Metadata.{Meta}
use Rattle.gitconf_sources.specs.Reports.{FileReport}
use Rattle.gitconf_includes.specs.declared.init.Error.{Error}
use Rattle.gitconf_state.specs.State.{State}
use Rattle.gitconf_includes.specs.Expansion.{Asks, Ended, IsLoadOf, On, Reached}
use Rattle.gitconf_includes.specs.Laws.{IsAnswered}
use Rattle.gitconf_includes.specs.Said.{known}
use Rattle.gitconf_includes.proofs.OneLoad.{one_load_told}
use Rattle.gitconf_includes.proofs.OneOutcome.{one_outcome}
use Rattle.gitconf_read.specs.ParseError.{Refusal}
use Rattle.gitconf_loaders.specs.Errors.{init_says}
use Rattle.gitconf_loaders.specs.Refused.{include_refused, parse_refused, OutOfMemory, Refused, Unparsed}
use Rattle.gitconf_loaders.specs.Resolving.{AreMadeAlike, IsMadeOf, Makes, MakesOf}

-- what is said of two refusals of one text
pub parse_alike : (e f : Refusal) → known e ≡ known f → parse_refused e ≡ parse_refused f
parse_alike e f same = ap (λ (r : Refusal). if r.number == 27 then OutOfMemory else Unparsed r) same

-- apart from running out of memory, a text has one load
pub one_text : (lossy : Bool) (text : List ℕ) (place : Meta) (one other : Result State Refused) → IfErr one (λ why. why ≢ OutOfMemory) → IfErr other (λ why. why ≢ OutOfMemory)
    → IsLoadOf parse_refused lossy text place one → IsLoadOf parse_refused lossy text place other → one ≡ other
one_text = one_load_told parse_refused (λ (why : Refused). why ≢ OutOfMemory) (λ e answered memory. answered (rw memory refl)) parse_alike

-- a call that returns has a load and an outcome that are returned

loaded_answered : (asks : Asks) (result : Result State Error) (loaded : Result State Refused) → IfErr result (λ e. init_says e ≢ OutOfMemory) → MakesOf init_says asks result loaded → IfErr loaded (λ why. why ≢ OutOfMemory)
loaded_answered asks result (Ok state) known makes = tt
loaded_answered asks (Ok made) (Err n) known makes = absurd makes
loaded_answered asks (Err e) (Err n) known makes = λ memory. known (sym makes ∙ memory)

made_answered : (result : Result State Error) (r : Reached) → IfErr result (λ e. init_says e ≢ OutOfMemory) → Makes init_says result r → IsAnswered r
made_answered (Ok made) (On done) known makes = tt
made_answered (Ok made) (Ended n file) known makes = absurd makes
made_answered (Err e) (On done) known makes = absurd makes
made_answered (Err e) (Ended said file) known makes = λ memory. known (sym makes ∙ ap include_refused memory)

-- calls of one outcome make files alike
made_alike : (one other : Result State Error) (r : Reached) → Makes init_says one r → Makes init_says other r → AreMadeAlike one other
made_alike (Ok made) (Ok other) (On done) is too = is ∙ sym too
made_alike (Ok made) (Ok other) (Ended n file) is too = absurd is
made_alike (Ok made) (Err f) (On done) is too = absurd too
made_alike (Ok made) (Err f) (Ended n file) is too = absurd is
made_alike (Err e) (Ok other) (On done) is too = absurd is
made_alike (Err e) (Ok other) (Ended n file) is too = absurd too
made_alike (Err e) (Err f) (On done) is too = absurd is
made_alike (Err e) (Err f) (Ended n file) is too = sym is ∙ too

-- of one load
one_made : (asks : Asks) (files : List ℕ → FileReport) (one other : Result State Error) (loaded : Result State Refused) → asks.table ≡ Some files
    → IfErr one (λ e. init_says e ≢ OutOfMemory) → IfErr other (λ e. init_says e ≢ OutOfMemory) → MakesOf init_says asks one loaded → MakesOf init_says asks other loaded → AreMadeAlike one other
one_made asks files one other (Ok state) tells known known_too (r, is, makes) (s, too, makes_too) =
    let same : r ≡ s = one_outcome asks files asks.rules.max_depth None state r s tells (made_answered one r known makes) (made_answered other s known_too makes_too) is too in
    made_alike one other r makes (subst (Makes init_says other) (sym same) makes_too)
one_made asks files (Ok made) other (Err n) tells known known_too is too = absurd is
one_made asks files (Err e) (Ok made) (Err n) tells known known_too is too = absurd too
one_made asks files (Err e) (Err f) (Err n) tells known known_too is too = sym is ∙ too

-- Apart from running out of memory, a text from one place makes one file.
pub one_file : (asks : Asks) (files : List ℕ → FileReport) (text : List ℕ) (place : Meta) (one other : Result State Error) → asks.table ≡ Some files
    → IfErr one (λ e. init_says e ≢ OutOfMemory) → IfErr other (λ e. init_says e ≢ OutOfMemory) → IsMadeOf init_says asks text place one → IsMadeOf init_says asks text place other → AreMadeAlike one other
one_file asks files text place one other tells known known_too (loaded, load, makes) (loaded_too, load_too, makes_too) =
    let same : loaded ≡ loaded_too = one_text asks.rules.lossy text place loaded loaded_too (loaded_answered asks one loaded known makes) (loaded_answered asks other loaded_too known_too makes_too) load load_too in
    one_made asks files one other loaded tells known known_too makes (subst (MakesOf init_says asks other) (sym same) makes_too)
