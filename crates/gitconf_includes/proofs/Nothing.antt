-- If no section includes anything, nothing is put in.
use Rattle.std.proofs.Common.{◌≡◌, ◌⊎◌, ℕ, zero, suc, ◌==◌, Bool, true, false, List, [], ◌∷◌, Option, None, Result, Ok, Err, inl, inr, refl, sym, ap, subst, ◌∙◌}
use Rattle.std.specs.List.{AllByRecursion}
use Rattle.gitconf_sources.specs.Metadata.{Meta}
use Rattle.gitconf_includes.specs.Said.{OutOfMemory}
use Rattle.gitconf_includes.specs.declared.includes.Error.{Error}
use Rattle.gitconf_includes.specs.Errors.{says}
use Rattle.gitconf_state.specs.Including.{visited, whole, with_sections}
use Rattle.gitconf_state.specs.State.{SectionState, State}
use Rattle.gitconf_includes.specs.Expansion.{Asks, Deeper, Ended, Expands, Gives, GoesOn, Leaves, On, Reached, Resolves, Visits, Wanting}
use Rattle.gitconf_includes.specs.Inclusion.{inclusion, NoInclude}
use Rattle.gitconf_includes.specs.Laws.{IncludesNothing, IsAsItWas}
use Rattle.gitconf_includes.proofs.Steps.{all_done, whole_visited}

-- an outcome leaves a file as it is
abbrev pub Stays : State → Reached → Type 0
Stays file r = (r ≡ On file) ⊎ (r ≡ Ended OutOfMemory file)

module _ (deeper : Deeper) (asks : Asks) (parent : Option State) where
  gives_nothing : (from : Meta) (rest : List SectionState) (done : State) (r : Reached) → Gives deeper asks parent from NoInclude rest done r
      → (r ≡ On done) ⊎ (r ≡ Ended OutOfMemory (whole done rest))
  gives_nothing from rest done r (inl wanting) = inr wanting
  gives_nothing from rest done r (inr is) = inl is

  visits_nothing : (rest : List SectionState) (done : State) (r : Reached) → AllByRecursion (λ s. inclusion s ≡ NoInclude) rest → Visits deeper asks parent rest done r → Stays (whole done rest) r
  visits_nothing [] done r none is = inl (is ∙ ap On (sym (all_done done)))
  visits_nothing (s ∷ rest) done r none is =
      subst (λ f. Stays f r) (whole_visited done s rest)
      (go (λ later. visits_nothing rest (visited done s) r none.1 later) is.0
      (gives_nothing s.meta rest (visited done s) is.0 (subst (λ n. Gives deeper asks parent s.meta n rest (visited done s) is.0) none.0 is.1)) is.2)
    where
      go : (Visits deeper asks parent rest (visited done s) r → Stays (whole (visited done s) rest) r)
          → (mid : Reached) → (mid ≡ On (visited done s)) ⊎ (mid ≡ Ended OutOfMemory (whole (visited done s) rest)) → GoesOn (Visits deeper asks parent rest) mid r → Stays (whole (visited done s) rest) r
      go left mid (inl on) later = left (subst (λ m. GoesOn (Visits deeper asks parent rest) m r) on later)
      go left mid (inr ended) later = inr (subst (λ m. GoesOn (Visits deeper asks parent rest) m r) ended later)

  at_once : (old : State) (r : Reached) → IncludesNothing old → Wanting old r ⊎ Visits deeper asks parent old.sections (with_sections [] old) r → Stays old r
  at_once old r none (inl wanting) = inr wanting
  at_once old r none (inr is) = visits_nothing old.sections (with_sections [] old) r none is

pub nothing_put_in : (left : ℕ) (asks : Asks) (parent : Option State) (old : State) (r : Reached) → IncludesNothing old → Expands (suc left) asks parent old r → (r ≡ On old) ⊎ (r ≡ Ended OutOfMemory old)
unfolding Expands
nothing_put_in left asks parent old r none is = at_once (Expands left asks) asks parent old r none is

leaves : (old new : State) (result : Result Unit Error) (r : Reached) → (r ≡ On old) ⊎ (r ≡ Ended OutOfMemory old) → Leaves says result new r → IsAsItWas result old new
leaves old new (Ok made) r (inl on) is = let same : On new ≡ On old = sym is ∙ on in cc
leaves old new (Ok made) r (inr ended) is = let same : On new ≡ Ended OutOfMemory old = sym is ∙ ended in absurd (cc)
leaves old new (Err e) r (inl on) is = absurd (subst (Leaves says (Err e) new) on is)
leaves old new (Err e) r (inr ended) is = let left = subst (Leaves says (Err e) new) ended is in (sym left.0, left.1)

pub nothing_resolved : (asks : Asks) (old new : State) (result : Result Unit Error) → IncludesNothing old → Resolves says asks old result new → IsAsItWas result old new
nothing_resolved asks old new result none is = leaves old new result is.0 (go asks.rules.max_depth (asks.rules.max_depth == 0) refl is.1) is.2
  where
    go : (depth : ℕ) (b : Bool) → (depth == 0) ≡ b → elim b as (λ _. Type 0) [ true ↦ is.0 ≡ On old | false ↦ Expands depth asks None old is.0 ] → (is.0 ≡ On old) ⊎ (is.0 ≡ Ended OutOfMemory old)
    go depth true e on = inl on
    go zero false e expands = absurd (cc)
    go (suc left) false e expands = nothing_put_in left asks None old is.0 none expands
