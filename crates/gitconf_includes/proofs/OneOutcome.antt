-- Over one table that is told an expansion has one outcome, apart from running out of memory.
use Rattle.std.proofs.Common.{◌≡◌, ◌≢◌, ◌⊎◌, ℕ, zero, suc, ◌==◌, Bool, true, false, List, [], ◌∷◌, Option, Some, None, Result, Ok, Err, IfErr, inl, inr, refl, sym, ap, subst, ◌∙◌}
use Rattle.std.specs.Option.{unwrap_or}
use Rattle.gitconf_sources.specs.Metadata.{Meta}
use Rattle.gitconf_sources.specs.Reports.{FileReport, is_there}
use Rattle.gitconf_sources.specs.declared.fault.FileFault.{FileFault}
use Rattle.gitconf_includes.specs.declared.includes.Error.{Error}
use Rattle.gitconf_includes.specs.Errors.{says}
use Rattle.gitconf_includes.specs.Paths.{file_named}
use Rattle.gitconf_includes.specs.Rules.{Rules}
use Rattle.gitconf_includes.specs.Said.{fault_said, parse_said, NoRoom, OutOfMemory, Said, TooDeep}
use Rattle.gitconf_state.specs.Including.{has_room, spliced, visited, whole, with_sections}
use Rattle.gitconf_state.specs.State.{SectionState, State}
use Rattle.gitconf_includes.specs.Expansion.{included_meta, Asks, Deeper, Ended, Expands, Follows, FollowsAll, Gives, GoesOn, IsFetched, IsJoined, IsLoadOf, IsPutIn, Leaves, On, Reached, Resolves, Visits, Wanting}
use Rattle.gitconf_includes.specs.Inclusion.{followed, inclusion, Inclusion}
use Rattle.gitconf_includes.specs.Laws.{EndAlike, IsAnswered}
use Rattle.gitconf_includes.proofs.OneLoad.{one_said}

-- rules, over a table
abbrev pub over : Rules → (List ℕ → FileReport) → Asks
over rules files = record { rules = rules; table = Some files }

-- an outcome is another one, or is that memory ran out
abbrev pub IsOne : (Reached → Type 0) → Type 0
IsOne Outcome = (r s : Reached) → IsAnswered r → IsAnswered s → Outcome r → Outcome s → r ≡ s

pub not_wanting : (file : State) (r : Reached) → IsAnswered r → Wanting file r → ⊥
not_wanting file r answered wanting = let known : IsAnswered (Ended OutOfMemory file) = subst IsAnswered wanting answered in known refl

-- an outcome is returned only if what comes before it is

before_put : (rest : List SectionState) (done : State) (inner r : Reached) → IsAnswered r → IsPutIn rest done inner r → IsAnswered inner
before_put rest done (On other) r answered is = tt
before_put rest done (Ended said file) r answered is = subst IsAnswered is answered

before_joined : (deeper : Deeper) (rest : List SectionState) (done : State) (fetched : Result State Said) (r : Reached) → IsAnswered r → IsJoined deeper rest done fetched r → IfErr fetched (λ said. said ≢ OutOfMemory)
before_joined deeper rest done (Ok other) r answered is = tt
before_joined deeper rest done (Err said) r answered is = subst IsAnswered is answered

pub before_others : (behind : State → Reached → Type 0) (mid r : Reached) → IsAnswered r → GoesOn behind mid r → IsAnswered mid
before_others behind (On now) r answered is = tt
before_others behind (Ended said file) r answered is = subst IsAnswered is answered

-- what comes after one outcome
one_behind : (behind : State → Reached → Type 0) → ((now : State) → IsOne (behind now)) → (mid : Reached) → IsOne (GoesOn behind mid)
one_behind behind one (On now) r s known known_too is too = one now r s known known_too is too
one_behind behind one (Ended said file) r s known known_too is too = is ∙ sym too

goes_on : (First : Reached → Type 0) (behind : State → Reached → Type 0) → IsOne First → ((now : State) → IsOne (behind now)) → (mid other r s : Reached) → IsAnswered r → IsAnswered s
    → First mid → GoesOn behind mid r → First other → GoesOn behind other s → r ≡ s
goes_on First behind first one mid other r s known known_too is later too later_too =
    let same : mid ≡ other = first mid other (before_others behind mid r known later) (before_others behind other s known_too later_too) is too in
    one_behind behind one mid r s known known_too later (subst (λ m. GoesOn behind m s) (sym same) later_too)

one_put_in : (rest : List SectionState) (done : State) (inner r s : Reached) → IsPutIn rest done inner r → IsPutIn rest done inner s → r ≡ s
one_put_in rest done (Ended said file) r s is too = is ∙ sym too
one_put_in rest done (On other) r s is too = go (has_room other rest done) is too
  where
    go : (b : Bool) → elim b as (λ _. Type 0) [ true ↦ r ≡ On (spliced other rest done) | false ↦ r ≡ Ended (NoRoom 3) (whole done rest) ]
        → elim b as (λ _. Type 0) [ true ↦ s ≡ On (spliced other rest done) | false ↦ s ≡ Ended (NoRoom 3) (whole done rest) ] → r ≡ s
    go true is too = is ∙ sym too
    go false is too = is ∙ sym too

module _ (rules : Rules) (files : List ℕ → FileReport) where
  -- what is fetched, where a text is read: at the last level, or before it
  abbrev Read : (from : Meta) (path text : List ℕ) → (end : Bool) → Result State Said → Type 0
  Read from path text end fetched = elim end as (λ _. Type 0) [ true ↦ fetched ≡ Err (TooDeep rules.max_depth) | false ↦ IsLoadOf (parse_said path) rules.lossy text (included_meta from path) fetched ]

  one_fetched : (from : Meta) (path : List ℕ) (one other : Result State Said) → IfErr one (λ said. said ≢ OutOfMemory) → IfErr other (λ said. said ≢ OutOfMemory)
      → IsFetched (over rules files) from path one → IsFetched (over rules files) from path other → one ≡ other
  one_fetched from path one other known known_too (answer, told, is) (answer_too, told_too, is_too) = go answer answer_too (told ∙ sym told_too) is is_too
    where
      at_level : (text : List ℕ) (end : Bool) → Read from path text end one → Read from path text end other → one ≡ other
      at_level text true is too = is ∙ sym too
      at_level text false is too = one_said path rules.lossy text (included_meta from path) one other known known_too is too

      go : (answer answer_too : Result (List ℕ) FileFault) → answer ≡ answer_too
          → elim answer as (λ _. Type 0) [ Err fault ↦ one ≡ Err (fault_said path fault) | Ok text ↦ Read from path text (from.level == 255) one ]
          → elim answer_too as (λ _. Type 0) [ Err fault ↦ other ≡ Err (fault_said path fault) | Ok text ↦ Read from path text (from.level == 255) other ] → one ≡ other
      go (Err fault) (Err fault_too) same is too =
          let faults : fault ≡ fault_too = cc in
          is ∙ ap Err (ap (fault_said path) faults) ∙ sym too
      go (Err fault) (Ok text) same is too = absurd (cc)
      go (Ok text) (Err fault) same is too = absurd (cc)
      go (Ok text) (Ok text_too) same is too =
          let texts : text_too ≡ text = cc in
          at_level text (from.level == 255) is (subst (λ t. Read from path t (from.level == 255) other) texts too)

  module _ (deeper : Deeper) (one : (above other : State) → IsOne (deeper (Some above) other)) where
    one_joined : (rest : List SectionState) (done : State) (fetched : Result State Said) (r s : Reached) → IsAnswered r → IsAnswered s
        → IsJoined deeper rest done fetched r → IsJoined deeper rest done fetched s → r ≡ s
    one_joined rest done (Err said) r s known known_too is too = is ∙ sym too
    one_joined rest done (Ok other) r s known known_too (inner, is, put) (inner_too, too, put_too) =
        let same : inner ≡ inner_too = one (whole done rest) other inner inner_too (before_put rest done inner r known put) (before_put rest done inner_too s known_too put_too) is too in
        one_put_in rest done inner r s put (subst (λ i. IsPutIn rest done i s) (sym same) put_too)

    -- what a path comes to where a file is, or none
    abbrev Found : (from : Meta) (rest : List SectionState) (done : State) (file : List ℕ) → (there : Bool) → Reached → Type 0
    Found from rest done file there end = elim there as (λ _. Type 0) [
      | false ↦ end ≡ On done
      | true ↦ (fetched : Result State Said) × IsFetched (over rules files) from file fetched × IsJoined deeper rest done fetched end
    ]

    -- what it comes to by the file that it names
    abbrev Named : (from : Meta) (rest : List SectionState) (done : State) → Result (Option (List ℕ)) Said → Reached → Type 0
    Named from rest done named end = elim named as (λ _. Type 0) [
      | Err said ↦ end ≡ Ended said (whole done rest)
      | Ok None ↦ end ≡ On done
      | Ok (Some file) ↦ (there : Bool) × (there ≡ is_there (files file)) × Found from rest done file there end
    ]

    pub one_follows : (from : Meta) (path : List ℕ) (rest : List SectionState) (done : State) (r s : Reached) → IsAnswered r → IsAnswered s
        → Follows deeper (over rules files) from path rest done r → Follows deeper (over rules files) from path rest done s → r ≡ s
    one_follows from path rest done r s known known_too (inl wanting) too = absurd (not_wanting (whole done rest) r known wanting)
    one_follows from path rest done r s known known_too (inr is) (inl wanting) = absurd (not_wanting (whole done rest) s known_too wanting)
    one_follows from path rest done r s known known_too (inr is) (inr too) = go (file_named rules from path) is too
      where
        found : (file : List ℕ) (there : Bool) → Found from rest done file there r → Found from rest done file there s → r ≡ s
        found file false is too = is ∙ sym too
        found file true (fetched, fetches, joins) (fetched_too, fetches_too, joins_too) =
            let same : fetched ≡ fetched_too = one_fetched from file fetched fetched_too (before_joined deeper rest done fetched r known joins) (before_joined deeper rest done fetched_too s known_too joins_too) fetches fetches_too in
            one_joined rest done fetched r s known known_too joins (subst (λ f. IsJoined deeper rest done f s) (sym same) joins_too)

        go : (named : Result (Option (List ℕ)) Said) → Named from rest done named r → Named from rest done named s → r ≡ s
        go (Err said) is too = is ∙ sym too
        go (Ok None) is too = is ∙ sym too
        go (Ok (Some file)) (there, told, is) (there_too, told_too, too) =
            let same : there_too ≡ there = told_too ∙ sym told in
            found file there is (subst (λ b. Found from rest done file b s) same too)

    one_follows_all : (from : Meta) (paths : List (List ℕ)) (rest : List SectionState) (done : State) (r s : Reached) → IsAnswered r → IsAnswered s
        → FollowsAll deeper (over rules files) from paths rest done r → FollowsAll deeper (over rules files) from paths rest done s → r ≡ s
    one_follows_all from [] rest done r s known known_too is too = is ∙ sym too
    one_follows_all from (path ∷ paths) rest done r s known known_too (mid, is, later) (other, too, later_too) =
        goes_on (Follows deeper (over rules files) from path rest done) (FollowsAll deeper (over rules files) from paths rest) (one_follows from path rest done)
        (λ now. one_follows_all from paths rest now) mid other r s known known_too is later too later_too

    -- what a section gives, by the paths that are followed
    abbrev Given : (from : Meta) (rest : List SectionState) (done : State) → Result (List (List ℕ)) Said → Reached → Type 0
    Given from rest done paths end = elim paths as (λ _. Type 0) [ Err said ↦ end ≡ Ended said (whole done rest) | Ok all ↦ FollowsAll deeper (over rules files) from all rest done end ]

    pub one_gives : (parent : Option State) (from : Meta) (inclusion : Inclusion) (rest : List SectionState) (done : State) (r s : Reached) → IsAnswered r → IsAnswered s
        → Gives deeper (over rules files) parent from inclusion rest done r → Gives deeper (over rules files) parent from inclusion rest done s → r ≡ s
    one_gives parent from inclusion rest done r s known known_too (inl wanting) too = absurd (not_wanting (whole done rest) r known wanting)
    one_gives parent from inclusion rest done r s known known_too (inr is) (inl wanting) = absurd (not_wanting (whole done rest) s known_too wanting)
    one_gives parent from inclusion rest done r s known known_too (inr is) (inr too) = go (followed rules from (unwrap_or parent (whole done rest)) inclusion) is too
      where
        go : (paths : Result (List (List ℕ)) Said) → Given from rest done paths r → Given from rest done paths s → r ≡ s
        go (Err said) is too = is ∙ sym too
        go (Ok paths) is too = one_follows_all from paths rest done r s known known_too is too

    one_visits : (parent : Option State) (rest : List SectionState) (done : State) (r s : Reached) → IsAnswered r → IsAnswered s
        → Visits deeper (over rules files) parent rest done r → Visits deeper (over rules files) parent rest done s → r ≡ s
    one_visits parent [] done r s known known_too is too = is ∙ sym too
    one_visits parent (t ∷ rest) done r s known known_too (mid, is, later) (other, too, later_too) =
        goes_on (Gives deeper (over rules files) parent t.meta (inclusion t) rest (visited done t)) (Visits deeper (over rules files) parent rest)
        (one_gives parent t.meta (inclusion t) rest (visited done t)) (λ now. one_visits parent rest now) mid other r s known known_too is later too later_too

    one_level : (parent : Option State) (old : State) (r s : Reached) → IsAnswered r → IsAnswered s
        → Wanting old r ⊎ Visits deeper (over rules files) parent old.sections (with_sections [] old) r
        → Wanting old s ⊎ Visits deeper (over rules files) parent old.sections (with_sections [] old) s → r ≡ s
    one_level parent old r s known known_too (inl wanting) too = absurd (not_wanting old r known wanting)
    one_level parent old r s known known_too (inr is) (inl wanting) = absurd (not_wanting old s known_too wanting)
    one_level parent old r s known known_too (inr is) (inr too) = one_visits parent old.sections (with_sections [] old) r s known known_too is too

  pub one_expansion : (left : ℕ) (parent : Option State) (old : State) (r s : Reached) → IsAnswered r → IsAnswered s
      → Expands left (over rules files) parent old r → Expands left (over rules files) parent old s → r ≡ s
  unfolding Expands
  one_expansion zero parent old r s known known_too is too = is ∙ sym too
  one_expansion (suc left) parent old r s known known_too is too =
      one_level (Expands left (over rules files)) (λ above other. one_expansion left (Some above) other) parent old r s known known_too is too

-- Over one table that is told two outcomes of one expansion, neither for running out of memory, are equal.
pub one_outcome : (asks : Asks) (files : List ℕ → FileReport) (left : ℕ) (parent : Option State) (old : State) (r s : Reached) → asks.table ≡ Some files → IsAnswered r → IsAnswered s
    → Expands left asks parent old r → Expands left asks parent old s → r ≡ s
one_outcome asks files left parent old r s tells known known_too is too =
    let told : asks ≡ over asks.rules files = (λ i. record { rules = asks.rules; table = tells i }) in
    one_expansion asks.rules files left parent old r s known known_too (subst (λ a. Expands left a parent old r) told is) (subst (λ a. Expands left a parent old s) told too)

-- a call that returns leaves an outcome that is returned
pub left_answered : (result : Result Unit Error) (new : State) (r : Reached) → IfErr result (λ e. says e ≢ OutOfMemory) → Leaves says result new r → IsAnswered r
left_answered (Ok done) new r known leaves = subst IsAnswered (sym leaves) tt
left_answered (Err e) new (On done) known leaves = absurd leaves
left_answered (Err e) new (Ended n file) known leaves = λ memory. known (sym leaves.0 ∙ memory)

-- calls of one outcome end alike
left_alike : (one other : Result Unit Error) (new left : State) (r : Reached) → Leaves says one new r → Leaves says other left r → EndAlike one other new left
left_alike (Ok done) (Ok made) new left r is too = let same : On new ≡ On left = sym is ∙ too in cc
left_alike (Ok done) (Err f) new left r is too = subst (Leaves says (Err f) left) is too
left_alike (Err e) (Ok made) new left r is too = subst (Leaves says (Err e) new) too is
left_alike (Err e) (Err f) new left (On done) is too = absurd is
left_alike (Err e) (Err f) new left (Ended n file) is too = (sym is.0 ∙ too.0, is.1 ∙ sym too.1)

-- So two calls on one file, neither refused when out of memory, end alike.
pub one_resolution : (asks : Asks) (files : List ℕ → FileReport) (old new left : State) (one other : Result Unit Error) → asks.table ≡ Some files
    → IfErr one (λ e. says e ≢ OutOfMemory) → IfErr other (λ e. says e ≢ OutOfMemory) → Resolves says asks old one new → Resolves says asks old other left → EndAlike one other new left
one_resolution asks files old new left one other tells known known_too (r, is, leaves) (s, too, leaves_too) =
    let same : r ≡ s = go (asks.rules.max_depth == 0) is too in
    left_alike one other new left r leaves (subst (Leaves says other left) (sym same) leaves_too)
  where
    go : (b : Bool) → elim b as (λ _. Type 0) [ true ↦ r ≡ On old | false ↦ Expands asks.rules.max_depth asks None old r ]
        → elim b as (λ _. Type 0) [ true ↦ s ≡ On old | false ↦ Expands asks.rules.max_depth asks None old s ] → r ≡ s
    go true is too = is ∙ sym too
    go false is too =
        one_outcome asks files asks.rules.max_depth None old r s tells (left_answered one new r known leaves) (left_answered other left s known_too leaves_too) is too
