-- What each file that is put in keeps of a file, its whole expansion keeps.
use Rattle.std.proofs.Common.{◌≡◌, ◌⊎◌, ℕ, zero, suc, if◌then◌else◌, Bool, true, false, List, [], ◌∷◌, Option, Some, None, Result, Ok, Err, inl, inr, refl, sym, ap, subst}
use Rattle.std.specs.List.{AllByRecursion}
use Rattle.std.specs.Option.{unwrap_or}
use Rattle.gitconf_sources.specs.Metadata.{Meta}
use Rattle.gitconf_sources.specs.Reports.{is_there}
use Rattle.gitconf_includes.specs.Said.{NoRoom, OutOfMemory, Said, TooDeep}
use Rattle.gitconf_includes.specs.Paths.{file_named}
use Rattle.gitconf_state.specs.Including.{has_room, spliced, visited, whole, with_sections}
use Rattle.gitconf_state.specs.State.{SectionState, State}
use Rattle.gitconf_includes.specs.Expansion.{Asks, Deeper, Ended, Expands, Follows, FollowsAll, Gives, GoesOn, IsFetched, IsJoined, IsPutIn, May, On, Reached, Visits, Wanting}
use Rattle.gitconf_includes.specs.Inclusion.{followed, Includes, inclusion, Inclusion, is_followed, named_paths, NoInclude}
use Rattle.gitconf_includes.specs.Laws.{file_of, HoldsOfNamed}
use Rattle.gitconf_includes.specs.Rules.{Rules}
use Rattle.gitconf_includes.proofs.Steps.{all_done, whole_visited}

-- What holds of what is done and what is still to be visited (P), and while a section from there is under way (At): each step of a visit
-- keeps it, where Q holds of what is put in for that section. F then holds of the whole file.
pub record EachStepKeeps (P : State → List SectionState → Type 0) (At : Meta → State → List SectionState → Type 0) (Q : Meta → State → Type 0) (F : State → Type 0) : Type 0 where
  pub visit : (s : SectionState) (rest : List SectionState) (done : State) → P done (s ∷ rest) → At s.meta (visited done s) rest
  pub put : (from : Meta) (other : State) (rest : List SectionState) (done : State) → has_room other rest done ≡ true → At from done rest → Q from other → At from (spliced other rest done) rest
  pub leave : (from : Meta) (rest : List SectionState) (done : State) → At from done rest → P done rest
  pub file : (rest : List SectionState) (done : State) → P done rest → F (whole done rest)

module _ (Q : Meta → State → Type 0) (asks : Asks) (deeper : Deeper) (Named : Meta → (file : List ℕ) → Type 0) where
  -- Q holds of each file that is included and expanded, if Named holds of it, as of each that a section names
  abbrev pub Holds : Type 0
  Holds = (from : Meta) (path : List ℕ) (other parent full : State) → Named from path → IsFetched asks from path (Ok other) → deeper (Some parent) other (On full) → Q from full

-- what holds of each holds of all
pub all_of : {A : Type 0} (P : A → Type 0) → ((x : A) → P x) → (xs : List A) → AllByRecursion P xs
all_of P each [] = tt
all_of P each (x ∷ xs) = (each x, all_of P each xs)

-- nothing is asked of the files that sections name
abbrev pub Any : Meta → (file : List ℕ) → Type 0
Any from file = Unit {0}

pub any_named : (asks : Asks) (s : SectionState) → HoldsOfNamed asks Any s
any_named asks s = all_of (λ path. (file : List ℕ) → file_named asks.rules s.meta path ≡ Ok (Some file) → Unit {0}) (λ path file named. tt) (named_paths (inclusion s))

-- what holds of the paths that an include names holds of those that are followed
followed_named : (P : List ℕ → Type 0) (rules : Rules) (from : Meta) (searched : State) (includes : Inclusion) (paths : List (List ℕ)) → followed rules from searched includes ≡ Ok paths
    → AllByRecursion P (named_paths includes) → AllByRecursion P paths
followed_named P rules from searched includes paths is named = go includes is named
  where
    paths_in : Result (List (List ℕ)) Said → List (List ℕ)
    paths_in (Ok all) = all
    paths_in (Err said) = []

    of_condition : (all : List (List ℕ)) (follows : Result Bool Said)
        → ◌≡◌ {A = Result (List (List ℕ)) Said} (elim follows [ Err said ↦ Err said | Ok on ↦ if on then Ok all else Ok [] ]) (Ok paths) → AllByRecursion P all → AllByRecursion P paths
    of_condition all (Err said) e holds = absurd (cc)
    of_condition all (Ok true) e holds = subst (AllByRecursion P) (ap paths_in e) holds
    of_condition all (Ok false) e holds = subst (AllByRecursion P) (ap paths_in e) tt

    go : (includes : Inclusion) → followed rules from searched includes ≡ Ok paths → AllByRecursion P (named_paths includes) → AllByRecursion P paths
    go NoInclude e holds = subst (AllByRecursion P) (ap paths_in e) tt
    go (Includes condition all) e holds = of_condition all (is_followed rules from searched condition) e holds

-- an outcome, with what is still to be visited
abbrev pub Kept : (P : State → List SectionState → Type 0) (F : State → Type 0) (rest : List SectionState) → Reached → Type 0
Kept P F rest (On now) = P now rest
Kept P F rest (Ended said file) = F file

module _ (P : State → List SectionState → Type 0) (At : Meta → State → List SectionState → Type 0) (Q : Meta → State → Type 0) (F : State → Type 0) (asks : Asks) (deeper : Deeper)
    (keeps : EachStepKeeps P At Q F) (Named : Meta → (file : List ℕ) → Type 0) (names : (s : SectionState) (rest : List SectionState) (done : State) → P done (s ∷ rest) → HoldsOfNamed asks Named s)
    (holds : Holds Q asks deeper Named) where
  -- what is asked of each file that a path names
  abbrev pub HoldsAt : Meta → (path : List ℕ) → Type 0
  HoldsAt from path = (file : List ℕ) → file_named asks.rules from path ≡ Ok (Some file) → Named from file

  whole_file : (from : Meta) (rest : List SectionState) (done : State) → At from done rest → F (whole done rest)
  whole_file from rest done kept = keeps.file rest done (keeps.leave from rest done kept)

  ended : (from : Meta) (rest : List SectionState) (done : State) (said : Said) (r : Reached) → At from done rest → r ≡ Ended said (whole done rest) → Kept (At from) F rest r
  ended from rest done said r kept is = subst (Kept (At from) F rest) (sym is) (whole_file from rest done kept)

  put_in : (rest : List SectionState) (done : State) (from : Meta) (path : List ℕ) (other : State) (inner r : Reached) → At from done rest → Named from path → IsFetched asks from path (Ok other)
      → deeper (Some (whole done rest)) other inner → IsPutIn rest done inner r → Kept (At from) F rest r
  put_in rest done from path other (Ended said file) r kept named fetched expands is = ended from rest done said r kept is
  put_in rest done from path other (On full) r kept named fetched expands is = go (has_room full rest done) refl is
    where
      go : (b : Bool) → has_room full rest done ≡ b → elim b as (λ _. Type 0) [ true ↦ r ≡ On (spliced full rest done) | false ↦ r ≡ Ended (NoRoom 3) (whole done rest) ] → Kept (At from) F rest r
      go true room put = subst (Kept (At from) F rest) (sym put) (keeps.put from full rest done room kept (holds from path other (whole done rest) full named fetched expands))
      go false room none = ended from rest done (NoRoom 3) r kept none

  follows : (from : Meta) (path : List ℕ) (rest : List SectionState) (done : State) (r : Reached) → At from done rest → HoldsAt from path → Follows deeper asks from path rest done r → Kept (At from) F rest r
  follows from path rest done r kept named (inl wanting) = ended from rest done OutOfMemory r kept wanting
  follows from path rest done r kept named (inr is) = go (file_named asks.rules from path) refl is
    where
      joined : (file : List ℕ) (fetched : Result State Said) → Named from file → IsFetched asks from file fetched → IsJoined deeper rest done fetched r → Kept (At from) F rest r
      joined file (Err said) asked fetches ends = ended from rest done said r kept ends
      joined file (Ok other) asked fetches joins = put_in rest done from file other joins.0 r kept asked fetches joins.1 joins.2

      there_or_not : (file : List ℕ) (there : Bool) → Named from file → elim there as (λ _. Type 0) [
        | false ↦ r ≡ On done
        | true ↦ (fetched : Result State Said) × IsFetched asks from file fetched × IsJoined deeper rest done fetched r
      ] → Kept (At from) F rest r
      there_or_not file false asked left_out = subst (Kept (At from) F rest) (sym left_out) kept
      there_or_not file true asked found = joined file found.0 asked found.1 found.2

      go : (file : Result (Option (List ℕ)) Said) → file_named asks.rules from path ≡ file → elim file as (λ _. Type 0) [
        | Err said ↦ r ≡ Ended said (whole done rest)
        | Ok None ↦ r ≡ On done
        | Ok (Some file) ↦ (there : Bool) × May asks.table (λ told. there ≡ is_there (told file)) × elim there as (λ _. Type 0) [
          | false ↦ r ≡ On done
          | true ↦ (fetched : Result State Said) × IsFetched asks from file fetched × IsJoined deeper rest done fetched r
        ]
      ] → Kept (At from) F rest r
      go (Err said) at refused = ended from rest done said r kept refused
      go (Ok None) at left_out = subst (Kept (At from) F rest) (sym left_out) kept
      go (Ok (Some file)) at found = there_or_not file found.0 (named file at) found.2

  -- an outcome that goes on leaves what is after it, and one that is refused ends all
  pub goes_on : (Here There : State → List SectionState → Type 0) (behind : State → Reached → Type 0) (rest left : List SectionState) (mid r : Reached) → Kept Here F rest mid
      → ((now : State) → Here now rest → behind now r → Kept There F left r) → GoesOn behind mid r → Kept There F left r
  goes_on Here There behind rest left (On now) r kept later is = later now kept is
  goes_on Here There behind rest left (Ended said file) r kept later is = subst (Kept There F left) (sym is) kept

  pub follows_all : (from : Meta) (paths : List (List ℕ)) (rest : List SectionState) (done : State) (r : Reached) → At from done rest → AllByRecursion (HoldsAt from) paths
      → FollowsAll deeper asks from paths rest done r → Kept (At from) F rest r
  follows_all from [] rest done r kept named is = subst (Kept (At from) F rest) (sym is) kept
  follows_all from (path ∷ paths) rest done r kept named is =
      goes_on (At from) (At from) (FollowsAll deeper asks from paths rest) rest rest is.0 r (follows from path rest done is.0 kept named.0 is.1)
      (λ now here later. follows_all from paths rest now r here named.1 later) is.2

  pub gives : (parent : Option State) (from : Meta) (inclusion : Inclusion) (rest : List SectionState) (done : State) (r : Reached) → At from done rest
      → AllByRecursion (HoldsAt from) (named_paths inclusion) → Gives deeper asks parent from inclusion rest done r → Kept (At from) F rest r
  gives parent from inclusion rest done r kept named (inl wanting) = ended from rest done OutOfMemory r kept wanting
  gives parent from inclusion rest done r kept named (inr is) = go (followed asks.rules from (unwrap_or parent (whole done rest)) inclusion) refl is
    where
      go : (paths : Result (List (List ℕ)) Said) → followed asks.rules from (unwrap_or parent (whole done rest)) inclusion ≡ paths → elim paths as (λ _. Type 0) [
        | Err said ↦ r ≡ Ended said (whole done rest)
        | Ok all ↦ FollowsAll deeper asks from all rest done r
      ] → Kept (At from) F rest r
      go (Err said) at refused = ended from rest done said r kept refused
      go (Ok paths) at all =
          follows_all from paths rest done r kept (followed_named (HoldsAt from) asks.rules from (unwrap_or parent (whole done rest)) inclusion paths at named) all

  pub visits : (parent : Option State) (rest : List SectionState) (done : State) (r : Reached) → P done rest → Visits deeper asks parent rest done r → Kept P F [] r
  visits parent [] done r kept is = subst (Kept P F []) (sym is) kept
  visits parent (s ∷ rest) done r kept is =
      goes_on (At s.meta) P (Visits deeper asks parent rest) rest [] is.0 r (gives parent s.meta (inclusion s) rest (visited done s) is.0 (keeps.visit s rest done kept) (names s rest done kept) is.1)
      (λ now here later. visits parent rest now r (keeps.leave s.meta rest now here) later) is.2

  -- the file that follows an outcome, once all is visited
  pub at_end : (r : Reached) → Kept P F [] r → F (file_of r)
  at_end (On now) kept = subst F (all_done now) (keeps.file [] now kept)
  at_end (Ended said file) kept = kept

  pub one_level : (parent : Option State) (old : State) (r : Reached) → P (with_sections [] old) old.sections → Wanting old r ⊎ Visits deeper asks parent old.sections (with_sections [] old) r → F (file_of r)
  one_level parent old r kept (inl wanting) = subst (λ x. F (file_of x)) (sym wanting) (keeps.file old.sections (with_sections [] old) kept)
  one_level parent old r kept (inr is) = at_end r (visits parent old.sections (with_sections [] old) r kept is)

-- at the last level all stays
pub limit : (F : State → Type 0) (asks : Asks) (old : State) (r : Reached) → F old → r ≡ (if asks.rules.refuses_depth then Ended (TooDeep asks.rules.max_depth) old else On old) → F (file_of r)
limit F asks old r kept is = go asks.rules.refuses_depth is
  where
    go : (refuses : Bool) → r ≡ (if refuses then Ended (TooDeep asks.rules.max_depth) old else On old) → F (file_of r)
    go true ends = subst (λ x. F (file_of x)) (sym ends) kept
    go false on = subst (λ x. F (file_of x)) (sym on) kept

-- an expansion keeps what each step of its visits keeps, where Q holds of each file that is put in
pub expansion_from : (P : State → List SectionState → Type 0) (At : Meta → State → List SectionState → Type 0) (Q : Meta → State → Type 0) (F : State → Type 0) (asks : Asks)
    → EachStepKeeps P At Q F → ((n : ℕ) → Holds Q asks (Expands n asks) Any)
    → (left : ℕ) (parent : Option State) (old : State) (r : Reached) → P (with_sections [] old) old.sections → Expands left asks parent old r → F (file_of r)
unfolding Expands
expansion_from P At Q F asks keeps holds zero parent old r kept is = limit F asks old r (keeps.file old.sections (with_sections [] old) kept) is
expansion_from P At Q F asks keeps holds (suc left) parent old r kept is =
    one_level P At Q F asks (Expands left asks) keeps Any (λ s rest done more. any_named asks s) (holds left) parent old r kept is

-- what holds of a file holds of it with another one put in, of which Q holds
abbrev pub Keeps : (P Q : State → Type 0) → Type 0
Keeps P Q = (other : State) (rest : List SectionState) (done : State) → has_room other rest done ≡ true → P (whole done rest) → Q other → P (whole (spliced other rest done) rest)

pub is_kept : (P Q : State → Type 0) → Keeps P Q → EachStepKeeps (λ done rest. P (whole done rest)) (λ from done rest. P (whole done rest)) (λ from other. Q other) P
is_kept P Q keeps = record {
  visit = λ s rest done kept. subst P (sym (whole_visited done s rest)) kept;
  put = λ from other rest done room kept holds. keeps other rest done room kept holds;
  leave = λ from rest done kept. kept;
  file = λ rest done kept. kept;
}

-- the same of what is asked of the whole file alone
pub expansion : (P Q : State → Type 0) (asks : Asks) → Keeps P Q → ((n : ℕ) → Holds (λ from other. Q other) asks (Expands n asks) Any)
    → (left : ℕ) (parent : Option State) (old : State) (r : Reached) → P old → Expands left asks parent old r → P (file_of r)
expansion P Q asks keeps holds left parent old r kept is =
    expansion_from (λ done rest. P (whole done rest)) (λ from done rest. P (whole done rest)) (λ from other. Q other) P asks (is_kept P Q keeps) holds left parent old r kept is

-- and what each file that is loaded has, each file has that is put in
pub whole_expansion : (P : State → Type 0) (asks : Asks) → Keeps P P → ((from : Meta) (path : List ℕ) (other : State) → IsFetched asks from path (Ok other) → P other)
    → (left : ℕ) (parent : Option State) (old : State) (r : Reached) → P old → Expands left asks parent old r → P (file_of r)
unfolding Expands
whole_expansion P asks keeps loaded zero parent old r kept is = limit P asks old r kept is
whole_expansion P asks keeps loaded (suc left) parent old r kept is =
    one_level (λ done rest. P (whole done rest)) (λ from done rest. P (whole done rest)) (λ from other. P other) P asks (Expands left asks) (is_kept P P keeps) Any
    (λ s rest done more. any_named asks s) (λ from path other above full named fetched deeper. whole_expansion P asks keeps loaded left (Some above) other (On full) (loaded from path other fetched) deeper) parent old r kept is

-- what is done and what is still to be visited, of whose sections that holds what is asked of the files that they name
abbrev Left : (asks : Asks) (Named : Meta → (file : List ℕ) → Type 0) → (F : State → Type 0) → (done : State) → (rest : List SectionState) → Type 0
Left asks Named F done rest = F (whole done rest) × AllByRecursion (HoldsOfNamed asks Named) rest

left_kept : (asks : Asks) (Named : Meta → (file : List ℕ) → Type 0) (P Q : State → Type 0) → Keeps P Q
    → EachStepKeeps (Left asks Named P) (λ from done rest. Left asks Named P done rest) (λ from other. Q other) P
left_kept asks Named P Q keeps = record {
  visit = λ s rest done kept. (subst P (sym (whole_visited done s rest)) kept.0, kept.1.1);
  put = λ from other rest done room kept holds. (keeps other rest done room kept.0 holds, kept.1);
  leave = λ from rest done kept. kept;
  file = λ rest done kept. kept.0;
}

-- one level, where the files that sections name have what is put in
pub level_of_named : (P Q : State → Type 0) (asks : Asks) (deeper : Deeper) (Named : Meta → (file : List ℕ) → Type 0) → Keeps P Q → Holds (λ from other. Q other) asks deeper Named
    → (parent : Option State) (old : State) (r : Reached) → AllByRecursion (HoldsOfNamed asks Named) old.sections → P old
    → Wanting old r ⊎ Visits deeper asks parent old.sections (with_sections [] old) r → P (file_of r)
level_of_named P Q asks deeper Named keeps holds parent old r named kept is =
    one_level (Left asks Named P) (λ from done rest. Left asks Named P done rest) (λ from other. Q other) P asks deeper (left_kept asks Named P Q keeps) Named
    (λ s rest done more. more.1.0) holds parent old r (kept, named) is
