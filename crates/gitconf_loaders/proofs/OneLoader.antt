-- Over tables that are told each load has one outcome, apart from running out of memory.
use Rattle.std.proofs.Common.{◌≡◌, ◌≢◌, ◌⊎◌, ◌++◌, ℕ, Bool, true, false, List, [], ◌∷◌, Option, Some, None, Result, Ok, Err, IfErr, inl, inr, refl, sym, ap, subst, ◌∙◌}
use Rattle.gitconf_sources.specs.FoundFiles.{AreFound, IsFileAt, IsFound, global_sources}
use Rattle.gitconf_sources.specs.Metadata.{Meta, meta_of_file}
use Rattle.gitconf_sources.specs.Places.{IsPlaced, place_of}
use Rattle.gitconf_sources.specs.Reports.{FileReport, VariableReport, is_there, read_of, trust_of}
use Rattle.gitconf_sources.specs.declared.fault.FileFault.{FileFault}
use Rattle.gitconf_sources.specs.declared.host.Places.{Places}
use Rattle.gitconf_sources.specs.declared.source.Source.{Source}
use Rattle.gitconf_sources.specs.declared.source.Trust.{Trust}
use Rattle.gitconf_sources.specs.declared.source.Trust.TheVariants.{Full}
use Rattle.gitconf_state.specs.State.{State}
use Rattle.gitconf_includes.specs.Expansion.{Asks, Ended, IsLoadOf, On, Reached}
use Rattle.gitconf_includes.specs.Laws.{IsAnswered}
use Rattle.gitconf_read.specs.ParseError.{Refusal}
use Rattle.gitconf_includes.proofs.OneLoad.{one_load_told}
use Rattle.gitconf_includes.proofs.OneOutcome.{one_outcome}
use Rattle.gitconf_loaders.specs.Globals.{home_rules, IsGlobal, IsOrEmpty}
use Rattle.gitconf_loaders.specs.Paths.{AreFilesLoaded, Around, HasOneOutcome, has_room_behind, IsAppendedTo, IsFileLoaded, IsFileRead, IsLoadedFrom, IsLoadOfPaths, IsMadeBehind, IsMetaLoaded, IsReadWhereTrusted, IsTextTaken, Joins, LoadsOn, once, taken, telling, Then}
use Rattle.gitconf_loaders.specs.Refused.{fault_refused, include_refused, parse_refused, within, NoRoom, OutOfMemory, Refused, Unmade}
use Rattle.gitconf_loaders.specs.Resolving.{IsMadeOf, Makes, MakesOf}
use Rattle.gitconf_loaders.proofs.OneText.{one_text, parse_alike}

pub not_wanting : {T : Type 0} (r : Result T Refused) → IfErr r (λ why. why ≢ OutOfMemory) → r ≡ Err OutOfMemory → ⊥
not_wanting (Ok made) known is = absurd (cc)
not_wanting {T} (Err why) known is = known (said is)
  where
    said : ◌≡◌ {A = Result T Refused} (Err why) (Err OutOfMemory) → why ≡ OutOfMemory
    said is = cc

-- what is computed is one outcome
pub one_value : {T : Type 0} (value : Result T Refused) → HasOneOutcome (λ r. r ≡ value)
one_value value one other known too is is_too = is ∙ sym is_too

-- memory may run out before
pub or_wanting : {T : Type 0} (Outcome : Result T Refused → Type 0) → HasOneOutcome Outcome → HasOneOutcome (λ r. (r ≡ Err OutOfMemory) ⊎ Outcome r)
or_wanting Outcome single one other known too (inl wanting) is_too = absurd (not_wanting one known wanting)
or_wanting Outcome single one other known too (inr is) (inl wanting) = absurd (not_wanting other too wanting)
or_wanting Outcome single one other known too (inr is) (inr is_too) = single one other known too is is_too

-- one step, and then the next

before : {T U : Type 0} (next : T → Result U Refused → Type 0) (mid : Result T Refused) (r : Result U Refused) → IfErr r (λ why. why ≢ OutOfMemory) → LoadsOn next mid r → IfErr mid (λ why. why ≢ OutOfMemory)
before next (Ok made) r known later = tt
before {U = U} next (Err why) r known later = subst (λ (x : Result U Refused). IfErr x (λ why. why ≢ OutOfMemory)) later known

one_behind : {T U : Type 0} (next : T → Result U Refused → Type 0) → ((made : T) → HasOneOutcome (next made)) → (mid : Result T Refused) → HasOneOutcome (LoadsOn next mid)
one_behind next single (Ok made) one other known too is is_too = single made one other known too is is_too
one_behind next single (Err why) one other known too is is_too = is ∙ sym is_too

pub one_then : {T U : Type 0} (First : Result T Refused → Type 0) (next : T → Result U Refused → Type 0) → HasOneOutcome First → ((made : T) → HasOneOutcome (next made)) → HasOneOutcome (Then First next)
one_then First next first single one other known too (mid, is, later) (mid_too, is_too, later_too) =
    let same : mid ≡ mid_too = first mid mid_too (before next mid one known later) (before next mid_too other too later_too) is is_too in
    one_behind next single mid one other known too later (subst (λ m. LoadsOn next m other) (sym same) later_too)

-- with more around what its refusal says
pub one_around : {T : Type 0} (around : Refused → Refused) (Step : Result T Refused → Type 0) → HasOneOutcome Step → HasOneOutcome (Around around Step)
one_around {T} around Step single one other known too (inner, is, r) (inner_too, is_too, r_too) =
    let same : inner ≡ inner_too = single inner inner_too (inside inner one known r) (inside inner_too other too r_too) is is_too in
    r ∙ ap (telling (within around)) same ∙ sym r_too
  where
    inside : (inner r : Result T Refused) → IfErr r (λ why. why ≢ OutOfMemory) → r ≡ telling (within around) inner → IfErr inner (λ why. why ≢ OutOfMemory)
    inside (Ok t) r known is = tt
    inside (Err why) r known is = λ memory. (subst (λ (x : Result T Refused). IfErr x (λ w. w ≢ OutOfMemory)) is known) (ap (within around) memory)

-- a file that is made and expanded

makes_answered : (result : Result State Refused) (r : Reached) → IfErr result (λ why. why ≢ OutOfMemory) → Makes (λ why. why) result r → IsAnswered r
makes_answered (Ok made) (On done) known makes = tt
makes_answered (Ok made) (Ended n file) known makes = absurd makes
makes_answered (Err e) (On done) known makes = absurd makes
makes_answered (Err e) (Ended said file) known makes = λ memory. known (sym makes ∙ ap include_refused memory)

makes_one : (one other : Result State Refused) (r : Reached) → Makes (λ why. why) one r → Makes (λ why. why) other r → one ≡ other
makes_one (Ok made) (Ok other) (On done) is too = ap Ok (is ∙ sym too)
makes_one (Ok made) (Ok other) (Ended n file) is too = absurd is
makes_one (Ok made) (Err f) (On done) is too = absurd too
makes_one (Ok made) (Err f) (Ended n file) is too = absurd is
makes_one (Err e) (Ok other) (On done) is too = absurd is
makes_one (Err e) (Ok other) (Ended n file) is too = absurd too
makes_one (Err e) (Err f) (On done) is too = absurd is
makes_one (Err e) (Err f) (Ended n file) is too = ap Err (sym is ∙ too)

pub one_expanded : (asks : Asks) (files : List ℕ → FileReport) → asks.table ≡ Some files → (loaded : Result State Refused) → HasOneOutcome (λ r. MakesOf (λ why. why) asks r loaded)
one_expanded asks files tells (Ok state) one other known too (r, is, makes) (s, is_too, makes_too) =
    let same : r ≡ s = one_outcome asks files asks.rules.max_depth None state r s tells (makes_answered one r known makes) (makes_answered other s too makes_too) is is_too in
    makes_one one other r makes (subst (Makes (λ why. why) other) (sym same) makes_too)
one_expanded asks files tells (Err n) (Ok made) other known too is is_too = absurd is
one_expanded asks files tells (Err n) (Err e) (Ok made) known too is is_too = absurd is_too
one_expanded asks files tells (Err n) (Err e) (Err f) known too is is_too = ap Err (sym is ∙ is_too)

loaded_known : (asks : Asks) (result : Result State Refused) (loaded : Result State Refused) → IfErr result (λ why. why ≢ OutOfMemory) → MakesOf (λ why. why) asks result loaded → IfErr loaded (λ why. why ≢ OutOfMemory)
loaded_known asks result (Ok state) known makes = tt
loaded_known asks (Ok made) (Err n) known makes = absurd makes
loaded_known asks (Err e) (Err n) known makes = λ memory. known (sym makes ∙ memory)

one_made : (asks : Asks) (files : List ℕ → FileReport) → asks.table ≡ Some files → (text : List ℕ) (place : Meta) → HasOneOutcome (IsMadeOf (λ why. why) asks text place)
one_made asks files tells text place one other known too (loaded, load, makes) (loaded_too, load_too, makes_too) =
    let same : loaded ≡ loaded_too = one_text asks.rules.lossy text place loaded loaded_too (loaded_known asks one loaded known makes) (loaded_known asks other loaded_too too makes_too) load load_too in
    one_expanded asks files tells loaded one other known too makes (subst (MakesOf (λ why. why) asks other) (sym same) makes_too)

-- files that are loaded by their paths, each appended to those before it

one_joined : (path : List ℕ) (target : Option State) (made : State) → HasOneOutcome (Joins path target made)
one_joined path None made one other known too is is_too = is ∙ sym is_too
one_joined path (Some target) made one other known too is is_too = go (has_room_behind target made) is is_too
  where
    go : (room : Bool) → elim room as (λ _. Type 0) [ true ↦ (now : State) × IsAppendedTo target made now × (one ≡ Ok (Some now)) | false ↦ one ≡ Err (Unmade path (NoRoom 3)) ]
        → elim room as (λ _. Type 0) [ true ↦ (now : State) × IsAppendedTo target made now × (other ≡ Ok (Some now)) | false ↦ other ≡ Err (Unmade path (NoRoom 3)) ] → one ≡ other
    go true (now, put, is) (now_too, put_too, is_too) = is ∙ ap (λ s. Ok (Some s)) (put ∙ sym put_too) ∙ sym is_too
    go false is is_too = is ∙ sym is_too

one_behind_others : (asks : Asks) (files : List ℕ → FileReport) → asks.table ≡ Some files → (meta : Meta) (path : List ℕ) (target : Option State) (text : Result (Option (List ℕ)) Refused)
    → HasOneOutcome (IsMadeBehind asks meta path target text)
one_behind_others asks files tells meta path target (Err why) one other known too is is_too = is ∙ sym is_too
one_behind_others asks files tells meta path target (Ok None) one other known too is is_too = is ∙ sym is_too
one_behind_others asks files tells meta path target (Ok (Some text)) one other known too is is_too =
    one_then (Around (Unmade path) (IsMadeOf (λ why. why) asks text meta)) (Joins path target) (one_around (Unmade path) (IsMadeOf (λ why. why) asks text meta) (one_made asks files tells text meta)) (one_joined path target) one other known too is is_too

one_file_loaded : (must_exist ignores : Bool) (asks : Asks) (files : List ℕ → FileReport) (meta : Meta) (path : List ℕ) (target : Option State)
    → HasOneOutcome (IsFileLoaded must_exist ignores (record { rules = asks.rules; table = Some files }) meta path target)
one_file_loaded must_exist ignores asks files meta path target one other known too (inl wanting) is_too = absurd (not_wanting one known wanting)
one_file_loaded must_exist ignores asks files meta path target one other known too (inr is) (inl wanting) = absurd (not_wanting other too wanting)
one_file_loaded must_exist ignores asks files meta path target one other known too (inr (text, (answer, told, is), made)) (inr (text_too, (answer_too, told_too, is_too), made_too)) =
    let answers : answer_too ≡ answer = told_too ∙ sym told in
    let texts : text_too ≡ text = is_too ∙ ap (taken must_exist ignores path) answers ∙ sym is in
    one_behind_others (record { rules = asks.rules; table = Some files }) files refl meta path target text one other known too made
    (subst (λ t. IsMadeBehind (record { rules = asks.rules; table = Some files }) meta path target t other) texts made_too)

one_meta_loaded : (must_exist ignores : Bool) (asks : Asks) (files : List ℕ → FileReport) (meta : Meta) (target : Option State)
    → HasOneOutcome (IsMetaLoaded must_exist ignores (record { rules = asks.rules; table = Some files }) meta target)
one_meta_loaded must_exist ignores asks files meta target one other known too is is_too = go meta.path is is_too
  where
    go : (path : Option (List ℕ))
        → elim path as (λ _. Type 0) [ None ↦ one ≡ Ok target | Some p ↦ IsFileLoaded must_exist ignores (record { rules = asks.rules; table = Some files }) meta p target one ]
        → elim path as (λ _. Type 0) [ None ↦ other ≡ Ok target | Some p ↦ IsFileLoaded must_exist ignores (record { rules = asks.rules; table = Some files }) meta p target other ] → one ≡ other
    go None is is_too = is ∙ sym is_too
    go (Some path) is is_too = one_file_loaded must_exist ignores asks files meta path target one other known too is is_too

one_files_loaded : (must_exist ignores : Bool) (asks : Asks) (files : List ℕ → FileReport) (metas : List Meta) (target : Option State)
    → HasOneOutcome (AreFilesLoaded must_exist ignores (record { rules = asks.rules; table = Some files }) metas target)
one_files_loaded must_exist ignores asks files [] target one other known too is is_too = is ∙ sym is_too
one_files_loaded must_exist ignores asks files (meta ∷ metas) target one other known too is is_too =
    one_then (IsMetaLoaded must_exist ignores (record { rules = asks.rules; table = Some files }) meta target) (AreFilesLoaded must_exist ignores (record { rules = asks.rules; table = Some files }) metas)
    (one_meta_loaded must_exist ignores asks files meta target) (one_files_loaded must_exist ignores asks files metas) one other known too is is_too

pub one_load_of_paths : (files : List ℕ → FileReport) (must_exist ignores : Bool) (asks : Asks) (metas : List Meta) → asks.table ≡ Some files → HasOneOutcome (IsLoadOfPaths must_exist ignores asks metas)
one_load_of_paths files must_exist ignores asks metas tells one other known too is is_too =
    let told : asks ≡ record { rules = asks.rules; table = Some files } = (λ i. record { rules = asks.rules; table = tells i }) in
    or_wanting (AreFilesLoaded must_exist ignores (record { rules = asks.rules; table = Some files }) (once [] metas) None) (one_files_loaded must_exist ignores asks files (once [] metas) None) one other known too
    (subst (λ a. IsLoadOfPaths must_exist ignores a metas one) told is) (subst (λ a. IsLoadOfPaths must_exist ignores a metas other) told is_too)

-- a file that is loaded by its path, without its includes

one_at : (path : List ℕ) (lossy : Bool) (text : List ℕ) (place : Meta) (one other : Result State Refused) → IfErr one (λ why. why ≢ OutOfMemory) → IfErr other (λ why. why ≢ OutOfMemory)
    → IsLoadOf (λ e. within (Unmade path) (parse_refused e)) lossy text place one → IsLoadOf (λ e. within (Unmade path) (parse_refused e)) lossy text place other → one ≡ other
one_at path =
    one_load_told (λ (e : Refusal). within (Unmade path) (parse_refused e)) (λ (why : Refused). why ≢ OutOfMemory) (λ e answered memory. answered (rw memory refl))
    (λ e f same. ap (within (Unmade path)) (parse_alike e f same))

one_read : (files : List ℕ → FileReport) (path : List ℕ) (source : Source) (trust : Trust) → HasOneOutcome (IsFileRead (Some files) path source trust)
one_read files path source trust one other known too (answer, told, is) (answer_too, told_too, is_too) = go answer answer_too (told ∙ sym told_too) is is_too
  where
    go : (answer answer_too : Result (List ℕ) FileFault) → answer ≡ answer_too
        → elim answer as (λ _. Type 0) [ Err fault ↦ one ≡ Err (fault_refused path fault) | Ok text ↦ IsLoadOf (λ e. within (Unmade path) (parse_refused e)) false text (meta_of_file path source trust) one ]
        → elim answer_too as (λ _. Type 0) [ Err fault ↦ other ≡ Err (fault_refused path fault) | Ok text ↦ IsLoadOf (λ e. within (Unmade path) (parse_refused e)) false text (meta_of_file path source trust) other ] → one ≡ other
    go (Err fault) (Err fault_too) same is is_too =
        let faults : fault ≡ fault_too = cc in
        is ∙ ap (λ (f : FileFault). Err (fault_refused path f)) faults ∙ sym is_too
    go (Err fault) (Ok text) same is is_too = absurd (cc)
    go (Ok text) (Err fault) same is is_too = absurd (cc)
    go (Ok text) (Ok text_too) same is is_too =
        let texts : text_too ≡ text = cc in
        one_at path false text (meta_of_file path source trust) one other known too is (subst (λ t. IsLoadOf (λ e. within (Unmade path) (parse_refused e)) false t (meta_of_file path source trust) other) texts is_too)

one_where_trusted : (files : List ℕ → FileReport) (path : List ℕ) (source : Source) (answer : Result Trust FileFault) → HasOneOutcome (IsReadWhereTrusted (Some files) path source answer)
one_where_trusted files path source (Ok trust) one other known too is is_too = one_read files path source trust one other known too is is_too
one_where_trusted files path source (Err fault) one other known too is is_too = is ∙ sym is_too

pub one_loaded_from : (files : List ℕ → FileReport) (path : List ℕ) (source : Source) → HasOneOutcome (IsLoadedFrom (Some files) path source)
one_loaded_from files path source one other known too (inl wanting) is_too = absurd (not_wanting one known wanting)
one_loaded_from files path source one other known too (inr is) (inl wanting) = absurd (not_wanting other too wanting)
one_loaded_from files path source one other known too (inr (answer, told, is)) (inr (answer_too, told_too, is_too)) =
    let answers : answer_too ≡ answer = told_too ∙ sym told in
    one_where_trusted files path source answer one other known too is (subst (λ a. IsReadWhereTrusted (Some files) path source a other) answers is_too)

-- the files of the machine and of the user

one_file_at : (files : List ℕ → FileReport) (source : Source) (place : Option (List ℕ)) (one other : List Meta) → IsFileAt (Some files) source place one → IsFileAt (Some files) source place other → one ≡ other
one_file_at files source None one other is is_too = is ∙ sym is_too
one_file_at files source (Some path) one other (there, told, is) (there_too, told_too, is_too) = go there there_too (told ∙ sym told_too) is is_too
  where
    go : (there there_too : Bool) → there ≡ there_too → elim there as (λ _. Type 0) [ true ↦ one ≡ meta_of_file path source Full ∷ [] | false ↦ one ≡ [] ]
        → elim there_too as (λ _. Type 0) [ true ↦ other ≡ meta_of_file path source Full ∷ [] | false ↦ other ≡ [] ] → one ≡ other
    go true true same is is_too = is ∙ sym is_too
    go true false same is is_too = absurd (cc)
    go false true same is is_too = absurd (cc)
    go false false same is is_too = is ∙ sym is_too

module _ (variables : List ℕ → VariableReport) (places : Places) (files : List ℕ → FileReport) where
  one_found : (source : Source) (one other : List Meta) → IsFound (Some variables) places (Some files) source one → IsFound (Some variables) places (Some files) source other → one ≡ other
  one_found source one other (place, (var, told, is), at) (place_too, (var_too, told_too, is_too), at_too) =
      let vars : var_too ≡ var = told_too ∙ sym told in
      let same : place_too ≡ place = is_too ∙ ap (λ v. place_of v places source) vars ∙ sym is in
      one_file_at files source place one other at (subst (λ p. IsFileAt (Some files) source p other) same at_too)

  all_found : (sources : List Source) (one other : List Meta) → AreFound (Some variables) places (Some files) sources one → AreFound (Some variables) places (Some files) sources other → one ≡ other
  all_found [] one other is is_too = is ∙ sym is_too
  all_found (source ∷ sources) one other (here, at, rest, later, is) (here_too, at_too, rest_too, later_too, is_too) =
      let front : here ≡ here_too = one_found source here here_too at at_too in
      let back : rest ≡ rest_too = all_found sources rest rest_too later later_too in
      is ∙ ap (λ h. h ++ rest) front ∙ ap (λ r. here_too ++ r) back ∙ sym is_too

  pub one_global : HasOneOutcome (IsGlobal (Some variables) places (Some files))
  one_global one other known too (inl wanting) is_too = absurd (not_wanting one known wanting)
  one_global one other known too (inr is) (inl wanting) = absurd (not_wanting other too wanting)
  one_global one other known too (inr (found, at, is)) (inr (found_too, at_too, is_too)) =
      let same : found_too ≡ found = all_found global_sources found_too found at_too at in
      one_then (IsLoadOfPaths true false (record { rules = home_rules places; table = Some files }) found) IsOrEmpty
      (one_load_of_paths files true false (record { rules = home_rules places; table = Some files }) found refl) (λ made. one_or_empty made) one other known too is
      (subst (λ f. Then (IsLoadOfPaths true false (record { rules = home_rules places; table = Some files }) f) IsOrEmpty other) same is_too)
    where
      one_or_empty : (made : Option State) → HasOneOutcome (IsOrEmpty made)
      one_or_empty made one other known too is is_too = is ∙ sym is_too
