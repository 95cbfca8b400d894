-- An included file that is fetched.
use Rattle.std.proofs.Common.{◌≡◌, ◌≢◌, ◌⊎◌, ℕ, ◌==◌, if◌then◌else◌, Bool, true, false, List, Option, Some, None, Result, Ok, Err, inl, inr, refl, sym, ap, ◌∙◌, subst}
use Rattle.std.specs.Prelude.{IfSome, IsErrAnd, string_bytes}
use Rattle.std.specs.declared.alloc.Global.{Global}
use Rattle.std.specs.declared.string.String.{String}
use Rattle.std.proofs.lemmas.Bool.{eqb-true}
use Rattle.std.specs.declared.vec.Vec.{Vec}
use Rattle.gitconf_sources.specs.Metadata.{Meta}
use Rattle.gitconf_sources.specs.Reports.{FileReport, IsReadOf, read_of}
use Rattle.gitconf_sources.specs.declared.fault.FileFault.{FileFault}
use Rattle.gitconf_includes.specs.declared.includes.Error.{Error}
use Rattle.gitconf_includes.specs.Errors.{include_of_parse, says}
use Rattle.gitconf_read.specs.EventResult.{IsRefused}
use Rattle.gitconf_read.specs.ParseError.{Refusal}
use Rattle.gitconf_state.specs.State.{State}
use Rattle.gitconf_includes.specs.Expansion.{Asks, IsFetched, IsLoaded, IsLoadOf, May, included_meta}
use Rattle.gitconf_includes.specs.Outcomes.{told}
use Rattle.gitconf_includes.specs.Said.{fault_said, known, parse_said, CannotParse, OutOfMemory, Said, TooDeep}

-- a call was refused when out of memory, or is what is fetched
abbrev pub Fetches : Asks → Meta → (path : List ℕ) → Result State Said → Type 0
Fetches asks from path outcome = (outcome ≡ Err OutOfMemory) ⊎ IsFetched asks from path outcome

-- a fault is returned by the table, or is out of memory
pub faulted : (Z : Type 0) (asks : Asks) (from : Meta) (path : List ℕ) (fault : FileFault) (said : Said)
    → IfSome asks.table (λ files. IsReadOf {Z = Z} (Err fault) (files path)) → said ≡ fault_said path fault → Fetches asks from path (Err said)
faulted Z asks from path fault said told is = go asks.table refl told
  where
    go : (table : Option (List ℕ → FileReport)) → asks.table ≡ table → IfSome table (λ files. IsReadOf {Z = Z} (Err fault) (files path)) → Fetches asks from path (Err said)
    go None e answered = inr (Err fault, rw e tt, ap Err is)
    go (Some files) e (inl wanting) = inl (ap Err (is ∙ rw wanting refl))
    go (Some files) e (inr read) = inr (Err fault, rw e (sym read), ap Err is)

-- a text that is read is returned by the table
pub answered : {Z : Type 0} (table : Option (List ℕ → FileReport)) (path : List ℕ) (text : Vec ℕ Z)
    → IfSome table (λ files. IsReadOf (Ok text) (files path)) → May table (λ files. ◌≡◌ {A = Result (List ℕ) FileFault} (Ok text.items) (read_of (files path)))
answered None path text told = tt
answered (Some files) path text told = sym told

-- the level is at its end
pub too_deep : {Z : Type 0} (asks : Asks) (from : Meta) (path : List ℕ) (text : Vec ℕ Z) → IfSome asks.table (λ files. IsReadOf (Ok text) (files path))
    → from.level ≡ 255 → Fetches asks from path (Err (TooDeep asks.rules.max_depth))
too_deep asks from path text told deep = inr (Ok text.items, answered asks.table path text told, rw deep refl)

no_end : (level : ℕ) → level ≢ 255 → (level == 255) ≡ false
no_end level within = go (level == 255) refl
  where
    go : (b : Bool) → (level == 255) ≡ b → (level == 255) ≡ false
    go true is = absurd (within (eqb-true level 255 is))
    go false is = is

-- the outcome of the load is that of the fetch
loads : {Z : Type 0} (asks : Asks) (from : Meta) (path : List ℕ) (text : Vec ℕ Z) (fetched : Result State Said) → IfSome asks.table (λ files. IsReadOf (Ok text) (files path))
    → from.level ≢ 255 → IsLoadOf (parse_said path) asks.rules.lossy text.items (included_meta from path) fetched → Fetches asks from path fetched
loads asks from path text fetched read within load = inr (Ok text.items, answered asks.table path text read, rw (no_end from.level within) load)

pub loaded : {Z : Type 0} (asks : Asks) (from place : Meta) (path : List ℕ) (text : Vec ℕ Z) (state : State) → IfSome asks.table (λ files. IsReadOf (Ok text) (files path))
    → from.level ≢ 255 → place ≡ included_meta from path → IsLoaded asks.rules.lossy text.items place state → Fetches asks from path (Ok state)
loaded asks from place path text state told within is load = loads asks from path text (Ok state) told within (subst (λ m. IsLoaded asks.rules.lossy text.items m state) is load)

-- what the refusal of the parser says
pub parse_says : (at : String Global) (path : List ℕ) (e : Refusal) → string_bytes at ≡ path → says (include_of_parse at e) ≡ parse_said path e
parse_says at path e same = go (e.number == 27) refl
  where
    go : (b : Bool) → (e.number == 27) ≡ b → says (include_of_parse at e) ≡ parse_said path e
    go true is = rw is refl
    go false is = rw is (ap (λ p. CannotParse p (known e)) same)

pub refused : {Z T : Type 0} (asks : Asks) (from : Meta) (path : List ℕ) (text : Vec ℕ Z) (at : String Global) (e : Refusal) (f : T → State) (result : Result T Error)
    → IfSome asks.table (λ files. IsReadOf (Ok text) (files path)) → from.level ≢ 255 → string_bytes at ≡ path → IsRefused text.items e
    → IsErrAnd result (λ r. r ≡ include_of_parse at e) → Fetches asks from path (told f result)
refused asks from path text at e f (Ok made) read within same is err = absurd err
refused asks from path text at e f (Err r) read within same is err = loads asks from path text (Err (says r)) read within (e, is, ap says err ∙ parse_says at path e same)
