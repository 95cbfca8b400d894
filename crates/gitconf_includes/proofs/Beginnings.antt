-- Where memory runs out, what a file has by then stays in what the same expansion leaves otherwise.
use Rattle.std.proofs.Common.{◌≡◌, ◌≢◌, ◌⊎◌, ℕ, zero, suc, ◌==◌, Bool, true, false, List, [], ◌∷◌, Option, Some, None, Result, Ok, Err, IfErr, IsErrAnd, inl, inr, refl, sym, ap, subst, ◌∙◌}
use Rattle.std.specs.Option.{unwrap_or}
use Rattle.gitconf_sources.specs.Metadata.{Meta}
use Rattle.gitconf_sources.specs.Reports.{FileReport, is_there}
use Rattle.gitconf_includes.specs.Said.{number_of, NoRoom, OutOfMemory, Said}
use Rattle.gitconf_includes.specs.declared.includes.Error.{Error}
use Rattle.gitconf_includes.specs.Errors.{includes_number, says}
use Rattle.gitconf_includes.specs.Paths.{file_named}
use Rattle.gitconf_includes.specs.Rules.{Rules}
use Rattle.gitconf_state.specs.Including.{has_room, spliced, visited, whole, with_sections}
use Rattle.gitconf_state.specs.State.{AreNumbered, SectionState, State}
use Rattle.gitconf_includes.specs.Expansion.{Asks, Deeper, Ended, Expands, Follows, FollowsAll, Gives, GoesOn, IsFetched, IsJoined, IsPutIn, Leaves, May, On, Reached, Resolves, Visits, Wanting}
use Rattle.gitconf_includes.specs.Inclusion.{followed, inclusion, Inclusion, named_paths}
use Rattle.gitconf_includes.specs.Laws.{file_of, HoldsOfNamed, IsAnswered, IsKept}
use Rattle.gitconf_includes.proofs.Keeping as keeping
use Rattle.gitconf_includes.proofs.Keeping.{all_of, any_named, is_kept, Any, EachStepKeeps, HoldsAt, Kept}
use Rattle.gitconf_includes.proofs.Memory.{EndsOnly, expands_only}
use Rattle.gitconf_includes.proofs.Numbers.{numbers_stay}
use Rattle.gitconf_includes.proofs.OneOutcome.{before_others, not_wanting, one_expansion, one_follows, one_gives, left_answered, over, IsOne}
use Rattle.gitconf_includes.proofs.OwnSections.{put_in, same_stays, Stays}

-- A path that is refused leaves what was there before it.

put_ended : (rest : List SectionState) (done : State) (inner : Reached) (said : Said) (file : State) → IsPutIn rest done inner (Ended said file) → file ≡ whole done rest
put_ended rest done (Ended n other) said file is = ap file_of is
put_ended rest done (On other) said file is = go (has_room other rest done) is
  where
    go : (b : Bool) → elim b as (λ _. Type 0) [ true ↦ Ended said file ≡ On (spliced other rest done) | false ↦ Ended said file ≡ Ended (NoRoom 3) (whole done rest) ] → file ≡ whole done rest
    go true is = absurd (cc)
    go false is = ap file_of is

follows_ended : (deeper : Deeper) (asks : Asks) (from : Meta) (path : List ℕ) (rest : List SectionState) (done : State) (said : Said) (file : State)
    → Follows deeper asks from path rest done (Ended said file) → file ≡ whole done rest
follows_ended deeper asks from path rest done said file (inl wanting) = ap file_of wanting
follows_ended deeper asks from path rest done said file (inr is) = go (file_named asks.rules from path) is
  where
    joined : (fetched : Result State Said) → IsJoined deeper rest done fetched (Ended said file) → file ≡ whole done rest
    joined (Err n) ends = ap file_of ends
    joined (Ok other) joins = put_ended rest done joins.0 said file joins.2

    found : (named : List ℕ) (there : Bool) → elim there as (λ _. Type 0) [
      | false ↦ Ended said file ≡ On done
      | true ↦ (fetched : Result State Said) × IsFetched asks from named fetched × IsJoined deeper rest done fetched (Ended said file)
    ] → file ≡ whole done rest
    found named false is = absurd (cc)
    found named true is = joined is.0 is.2

    go : (named : Result (Option (List ℕ)) Said) → elim named as (λ _. Type 0) [
      | Err n ↦ Ended said file ≡ Ended n (whole done rest)
      | Ok None ↦ Ended said file ≡ On done
      | Ok (Some named) ↦ (there : Bool) × May asks.table (λ told. there ≡ is_there (told named)) × elim there as (λ _. Type 0) [
        | false ↦ Ended said file ≡ On done
        | true ↦ (fetched : Result State Said) × IsFetched asks from named fetched × IsJoined deeper rest done fetched (Ended said file)
      ]
    ] → file ≡ whole done rest
    go (Err n) is = ap file_of is
    go (Ok None) is = absurd (cc)
    go (Ok (Some named)) is = found named is.0 is.2

-- Memory ran out in one expansion, which left `end`; the other one goes the same way up to there, and keeps it from there on.
module _ (rules : Rules) (files : List ℕ → FileReport) (deeper : Deeper) (one : (above other : State) → IsOne (deeper (Some above) other)) (end : State) (numbered : AreNumbered end.next end.sections) where
  -- what is kept at each step: `end` stays
  abbrev P : State → List SectionState → Type 0
  P done rest = Stays end (whole done rest)

  -- also while a section is under way
  abbrev At : Meta → State → List SectionState → Type 0
  At from done rest = P done rest

  -- nothing is asked of what is put in
  abbrev Q : Meta → State → Type 0
  Q from other = Unit {0}

  keeps : EachStepKeeps P At Q (Stays end)
  keeps = is_kept (Stays end) (λ _. Unit {0}) (λ other rest done room kept holds. put_in end other rest done kept)

  names : (s : SectionState) (rest : List SectionState) (done : State) → P done (s ∷ rest) → HoldsOfNamed (over rules files) Any s
  names s rest done kept = any_named (over rules files) s

  holds : keeping.Holds Q (over rules files) deeper Any
  holds from path other parent full named fetched expands = tt

  any_path : (from : Meta) (path : List ℕ) (file : List ℕ) → file_named rules from path ≡ Ok (Some file) → Any from file
  any_path from path file named = tt

  ends_here : (rest : List SectionState) (done : State) → end ≡ whole done rest → P done rest
  ends_here rest done is = subst (Stays end) is (same_stays end numbered)

  follows_all_on : (from : Meta) (paths : List (List ℕ)) (rest : List SectionState) (done : State) (r : Reached) → IsAnswered r
      → FollowsAll deeper (over rules files) from paths rest done (Ended OutOfMemory end) → FollowsAll deeper (over rules files) from paths rest done r → Kept P (Stays end) rest r
  follows_all_on from [] rest done r answered is too = absurd (cc)
  follows_all_on from (path ∷ paths) rest done r answered (Ended said file, is, later) too =
      let here : end ≡ whole done rest = ap file_of later ∙ follows_ended deeper (over rules files) from path rest done said file is in
      keeping.follows_all P At Q (Stays end) (over rules files) deeper keeps Any names holds from (path ∷ paths) rest done r (ends_here rest done here)
      (all_of (HoldsAt P At Q (Stays end) (over rules files) deeper keeps Any names holds from) (any_path from) (path ∷ paths)) too
  follows_all_on from (path ∷ paths) rest done r answered (On now, is, later) (other, too, later_too) =
      let same : other ≡ On now = one_follows rules files deeper one from path rest done other (On now) (before_others (FollowsAll deeper (over rules files) from paths rest) other r answered later_too) tt too is in
      follows_all_on from paths rest now r answered later (subst (λ m. GoesOn (FollowsAll deeper (over rules files) from paths rest) m r) same later_too)

  gives_on : (parent : Option State) (from : Meta) (inclusion : Inclusion) (rest : List SectionState) (done : State) (r : Reached) → IsAnswered r
      → Gives deeper (over rules files) parent from inclusion rest done (Ended OutOfMemory end) → Gives deeper (over rules files) parent from inclusion rest done r → Kept P (Stays end) rest r
  gives_on parent from inclusion rest done r answered (inl wanting) too =
      keeping.gives P At Q (Stays end) (over rules files) deeper keeps Any names holds parent from inclusion rest done r (ends_here rest done (ap file_of wanting))
      (all_of (HoldsAt P At Q (Stays end) (over rules files) deeper keeps Any names holds from) (any_path from) (named_paths inclusion)) too
  gives_on parent from inclusion rest done r answered (inr is) (inl wanting) = absurd (not_wanting (whole done rest) r answered wanting)
  gives_on parent from inclusion rest done r answered (inr is) (inr too) = go (followed rules from (unwrap_or parent (whole done rest)) inclusion) is too
    where
      Given : Result (List (List ℕ)) Said → Reached → Type 0
      Given paths r = elim paths as (λ _. Type 0) [ Err said ↦ r ≡ Ended said (whole done rest) | Ok all ↦ FollowsAll deeper (over rules files) from all rest done r ]

      go : (paths : Result (List (List ℕ)) Said) → Given paths (Ended OutOfMemory end) → Given paths r → Kept P (Stays end) rest r
      go (Err said) is too = subst (Kept P (Stays end) rest) (sym too) (ends_here rest done (ap file_of is))
      go (Ok paths) is too = follows_all_on from paths rest done r answered is too

  visits_on : (parent : Option State) (rest : List SectionState) (done : State) (r : Reached) → IsAnswered r
      → Visits deeper (over rules files) parent rest done (Ended OutOfMemory end) → Visits deeper (over rules files) parent rest done r → Kept P (Stays end) [] r
  visits_on parent [] done r answered is too = absurd (cc)
  visits_on parent (t ∷ rest) done r answered (Ended said file, is, later) (other, too, later_too) =
      let ends : Gives deeper (over rules files) parent t.meta (inclusion t) rest (visited done t) (Ended OutOfMemory end) = subst (Gives deeper (over rules files) parent t.meta (inclusion t) rest (visited done t)) (sym later) is in
      let kept = gives_on parent t.meta (inclusion t) rest (visited done t) other (before_others (Visits deeper (over rules files) parent rest) other r answered later_too) ends too in
      keeping.goes_on P At Q (Stays end) (over rules files) deeper keeps Any names holds P P (Visits deeper (over rules files) parent rest) rest [] other r kept
      (λ now here next. keeping.visits P At Q (Stays end) (over rules files) deeper keeps Any names holds parent rest now r here next) later_too
  visits_on parent (t ∷ rest) done r answered (On now, is, later) (other, too, later_too) =
      let same : other ≡ On now = one_gives rules files deeper one parent t.meta (inclusion t) rest (visited done t) other (On now)
      (before_others (Visits deeper (over rules files) parent rest) other r answered later_too) tt too is in
      visits_on parent rest now r answered later (subst (λ m. GoesOn (Visits deeper (over rules files) parent rest) m r) same later_too)

  level_on : (parent : Option State) (old : State) (r : Reached) → IsAnswered r
      → Wanting old (Ended OutOfMemory end) ⊎ Visits deeper (over rules files) parent old.sections (with_sections [] old) (Ended OutOfMemory end)
      → Wanting old r ⊎ Visits deeper (over rules files) parent old.sections (with_sections [] old) r → Stays end (file_of r)
  level_on parent old r answered (inl wanting) too =
      keeping.one_level P At Q (Stays end) (over rules files) deeper keeps Any names holds parent old r (ends_here old.sections (with_sections [] old) (ap file_of wanting)) too
  level_on parent old r answered (inr is) (inl wanting) = absurd (not_wanting old r answered wanting)
  level_on parent old r answered (inr is) (inr too) =
      keeping.at_end P At Q (Stays end) (over rules files) deeper keeps Any names holds r (visits_on parent old.sections (with_sections [] old) r answered is too)

expands_on : (rules : Rules) (files : List ℕ → FileReport) (left : ℕ) (parent : Option State) (old end : State) (r : Reached) → AreNumbered end.next end.sections → IsAnswered r
    → Expands left (over rules files) parent old (Ended OutOfMemory end) → Expands left (over rules files) parent old r → Stays end (file_of r)
unfolding Expands
expands_on rules files zero parent old end r numbered answered is too = let known : IsAnswered (Ended OutOfMemory end) = subst IsAnswered (too ∙ sym is) answered in absurd (known refl)
expands_on rules files (suc left) parent old end r numbered answered is too =
    level_on rules files (Expands left (over rules files)) (λ above other. one_expansion rules files left (Some above) other) end numbered parent old r answered is too

-- Over one table that is told the file that an expansion leaves where memory runs out is kept in what it leaves otherwise.
pub beginning_stays : (asks : Asks) (files : List ℕ → FileReport) (left : ℕ) (parent : Option State) (old end : State) (r : Reached) → asks.table ≡ Some files → AreNumbered old.next old.sections
    → IsAnswered r → Expands left asks parent old (Ended OutOfMemory end) → Expands left asks parent old r → IsKept end (file_of r)
beginning_stays asks files left parent old end r tells numbered answered is too =
    let told : asks ≡ over asks.rules files = (λ i. record { rules = asks.rules; table = tells i }) in
    (expands_on asks.rules files left parent old end r (numbers_stay left asks parent old (Ended OutOfMemory end) numbered is) answered
    (subst (λ a. Expands left a parent old (Ended OutOfMemory end)) told is) (subst (λ a. Expands left a parent old r) told too)).kept

-- a call for which memory ran out
left_wanting : (result : Result Unit Error) (new : State) (r : Reached) → EndsOnly r → IsErrAnd result (λ e. includes_number e ≡ 27) → Leaves says result new r → r ≡ Ended OutOfMemory new
left_wanting (Ok made) new r only err leaves = absurd err
left_wanting (Err e) new (On done) only err leaves = absurd leaves
left_wanting (Err e) new (Ended said file) only err leaves = (λ i. Ended (only (ap number_of leaves.0 ∙ err) i) (sym leaves.1 i))

left_file : (result : Result Unit Error) (new : State) (r : Reached) → Leaves says result new r → new ≡ file_of r
left_file (Ok made) new r leaves = sym (ap file_of leaves)
left_file (Err e) new (On done) leaves = absurd leaves
left_file (Err e) new (Ended n file) leaves = leaves.1

-- So is the file that a call leaves.
pub resolved_beginning_stays : (asks : Asks) (files : List ℕ → FileReport) (old end new : State) (one other : Result Unit Error) → asks.table ≡ Some files → AreNumbered old.next old.sections
    → IsErrAnd one (λ e. includes_number e ≡ 27) → IfErr other (λ e. says e ≢ OutOfMemory)
    → Resolves says asks old one end → Resolves says asks old other new → IsKept end new
resolved_beginning_stays asks files old end new one other tells numbered wants known (r, is, leaves) (s, too, leaves_too) =
    subst (IsKept end) (sym (left_file other new s leaves_too)) (go (asks.rules.max_depth == 0) is too)
  where
    wanting : r ≡ Ended OutOfMemory end
    wanting = left_wanting one end r (only (asks.rules.max_depth == 0) is) wants leaves
      where
        only : (b : Bool) → elim b as (λ _. Type 0) [ true ↦ r ≡ On old | false ↦ Expands asks.rules.max_depth asks None old r ] → EndsOnly r
        only true none = subst EndsOnly (sym none) tt
        only false expands = expands_only asks.rules.max_depth asks None old r expands

    go : (b : Bool) → elim b as (λ _. Type 0) [ true ↦ r ≡ On old | false ↦ Expands asks.rules.max_depth asks None old r ]
        → elim b as (λ _. Type 0) [ true ↦ s ≡ On old | false ↦ Expands asks.rules.max_depth asks None old s ] → IsKept end (file_of s)
    go true is too = let same : On old ≡ Ended OutOfMemory end = sym is ∙ wanting in absurd (cc)
    go false is too =
        beginning_stays asks files asks.rules.max_depth None old end s tells numbered (left_answered other new s known leaves_too)
        (subst (Expands asks.rules.max_depth asks None old) wanting is) too
