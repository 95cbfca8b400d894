-- What one path of a section leaves, by how the call ends.
use Rattle.std.proofs.Common.{◌≡◌, ◌≢◌, ◌⊎◌, ℕ, ◌==◌, Bool, true, false, List, Option, Some, None, Result, Ok, Err, inl, inr, refl, sym, ap, subst, ◌∙◌}
use Rattle.std.specs.Prelude.{IfSome, IsErrAnd}
use Rattle.gitconf_sources.specs.Metadata.{Meta}
use Rattle.gitconf_sources.specs.Reports.{is_there}
use Rattle.gitconf_includes.specs.declared.includes.Error.{Error}
use Rattle.gitconf_includes.specs.Errors.{include_of_span, says}
use Rattle.gitconf_includes.specs.Paths.{file_named, Names}
use Rattle.gitconf_includes.specs.Said.{NoRoom, OutOfMemory, Said}
use Rattle.gitconf_state.specs.Including.{has_room, spliced, whole}
use Rattle.gitconf_state.specs.State.{SectionState, State}
use Rattle.gitconf_includes.specs.Expansion.{Asks, Deeper, Ended, Follows, IsFetched, IsJoined, IsPutIn, Leaves, May, On, Reached}
use Rattle.gitconf_includes.specs.Outcomes.{LeavesDone, told}
use Rattle.gitconf_includes.proofs.Says.{told_names}

module _ (deeper : Deeper) (asks : Asks) (from : Meta) (path : List ℕ) (rest : List SectionState) (done : State) where
  -- some outcome of the definition is what the call leaves
  abbrev pub FollowsTo : Result Unit Error → (left : List SectionState) → (now : State) → Type 0
  FollowsTo result left now = (r : Reached) × Follows deeper asks from path rest done r × LeavesDone result left now r

  -- a refusal of a path, or out of memory, leaves all as it is
  pub ended : (e : Error) (result : Result Unit Error) → (says e ≡ OutOfMemory) ⊎ (file_named asks.rules from path ≡ Err (says e))
      → IsErrAnd result (λ r. r ≡ e) → FollowsTo result rest done
  ended e (Ok made) why err = absurd err
  ended e (Err r) why err = subst (λ x. FollowsTo (Err x) rest done) (sym err) (Ended (says e) (whole done rest), follows why, (refl, refl))
    where
      follows : (says e ≡ OutOfMemory) ⊎ (file_named asks.rules from path ≡ Err (says e)) → Follows deeper asks from path rest done (Ended (says e) (whole done rest))
      follows (inl wanting) = inl (ap (λ n. Ended n (whole done rest)) wanting)
      follows (inr is) = inr (rw is refl)

  pub unnamed : (e : Error) (result : Result Unit Error) → Names (Err e) (file_named asks.rules from path) → IsErrAnd result (λ r. r ≡ e) → FollowsTo result rest done
  unnamed e result names err = ended e result (told_names e (file_named asks.rules from path) names) err

  -- a path that is left out
  pub left_out : file_named asks.rules from path ≡ Ok None → FollowsTo (Ok tt) rest done
  left_out is = (On done, inr (rw is refl), refl)

  -- what a call of the host says, the table may say
  pub may : {T : Type 0} (P : T → Type 0) (table : Option T) → IfSome table P → May table P
  may P None told = tt
  may P (Some t) told = told

  -- a path that names no file
  pub no_file : (file : List ℕ) → file_named asks.rules from path ≡ Ok (Some file) → IfSome asks.table (λ files. false ≡ is_there (files file)) → FollowsTo (Ok tt) rest done
  no_file file is answered = (On done, inr (rw is (false, may (λ files. false ≡ is_there (files file)) asks.table answered, refl)), refl)

  -- a file that is fetched, and what comes of it
  pub joins : (file : List ℕ) (fetched : Result State Said) (r : Reached) → file_named asks.rules from path ≡ Ok (Some file) → IfSome asks.table (λ files. true ≡ is_there (files file))
      → IsFetched asks from file fetched → IsJoined deeper rest done fetched r → Follows deeper asks from path rest done r
  joins file fetched r is answered fetches joined = inr (rw is (true, may (λ files. true ≡ is_there (files file)) asks.table answered, (fetched, fetches, joined)))

  -- one that is refused
  pub not_fetched : {T : Type 0} (file : List ℕ) (e : Error) (f : T → State) (result : Result Unit Error) → file_named asks.rules from path ≡ Ok (Some file) → IfSome asks.table (λ files. true ≡ is_there (files file))
      → (told f (Err e) ≡ Err OutOfMemory) ⊎ IsFetched asks from file (told f (Err e)) → IsErrAnd result (λ r. r ≡ e) → FollowsTo result rest done
  not_fetched file e f (Ok made) is answered fetches err = absurd err
  not_fetched file e f (Err r) is answered fetches err = subst (λ x. FollowsTo (Err x) rest done) (sym err) (Ended (says e) (whole done rest), follows fetches, (refl, refl))
    where
      said_in : Result State Said → Said
      said_in (Ok state) = OutOfMemory
      said_in (Err said) = said

      follows : (told f (Err e) ≡ Err OutOfMemory) ⊎ IsFetched asks from file (told f (Err e)) → Follows deeper asks from path rest done (Ended (says e) (whole done rest))
      follows (inl wanting) = inl (ap (λ n. Ended n (whole done rest)) (ap said_in wanting))
      follows (inr is_fetched) = joins file (Err (says e)) (Ended (says e) (whole done rest)) is answered is_fetched refl

  -- one that is refused further down is not put in
  pub not_expanded : (file : List ℕ) (other : State) (e : Error) (result : Result Unit Error) (state : State) → file_named asks.rules from path ≡ Ok (Some file) → IfSome asks.table (λ files. true ≡ is_there (files file))
      → IsFetched asks from file (Ok other) → (inner : Reached) → deeper (Some (whole done rest)) other inner → Leaves says (Err e) state inner
      → IsErrAnd result (λ r. r ≡ e) → FollowsTo result rest done
  not_expanded file other e result state is answered fetches (On full) expands leaves err = absurd leaves
  not_expanded file other e (Ok made) state is answered fetches (Ended n full) expands leaves err = absurd err
  not_expanded file other e (Err r) state is answered fetches (Ended n full) expands leaves err = subst (λ x. FollowsTo (Err x) rest done) (sym err)
      (Ended n (whole done rest), joins file (Ok other) (Ended n (whole done rest)) is answered fetches (Ended n full, expands, refl), (leaves.0, refl))

  -- one that is put in
  pub put_in : (file : List ℕ) (other full now : State) → file_named asks.rules from path ≡ Ok (Some file) → IfSome asks.table (λ files. true ≡ is_there (files file))
      → IsFetched asks from file (Ok other) → (inner : Reached) → deeper (Some (whole done rest)) other inner → inner ≡ On full
      → has_room full rest done ≢ false → now ≡ spliced full rest done → FollowsTo (Ok tt) rest now
  put_in file other full now is answered fetches inner expands on room put =
      (On now, joins file (Ok other) (On now) is answered fetches (On full, subst (deeper (Some (whole done rest)) other) on expands, go (has_room full rest done) refl), refl)
    where
      go : (b : Bool) → has_room full rest done ≡ b → IsPutIn rest done (On full) (On now)
      go true has = rw (has, IsPutIn) (ap On put)
      go false has = absurd (room has)

  -- one for which there is no room, or for which memory ran out
  pub not_put : (file : List ℕ) (other full now : State) (n : ℕ) (result : Result Unit Error) → file_named asks.rules from path ≡ Ok (Some file) → IfSome asks.table (λ files. true ≡ is_there (files file))
      → IsFetched asks from file (Ok other) → (inner : Reached) → deeper (Some (whole done rest)) other inner → inner ≡ On full
      → (n ≡ 3 → has_room full rest done ≡ false) → (n ≡ 3) ⊎ (n ≡ 27) → now ≡ done → IsErrAnd result (λ r. r ≡ include_of_span n) → FollowsTo result rest now
  not_put file other full now n (Ok made) is answered fetches inner expands on room known same err = absurd err
  not_put file other full now n (Err r) is answered fetches inner expands on room known same err =
      (Ended (says r) (whole done rest), follows known, (refl, ap (λ d. whole d rest) same))
    where
      said_of : (m : ℕ) → n ≡ m → says r ≡ says (include_of_span m)
      said_of m is = ap says err ∙ ap (λ k. says (include_of_span k)) is

      follows : (n ≡ 3) ⊎ (n ≡ 27) → Follows deeper asks from path rest done (Ended (says r) (whole done rest))
      follows (inr wanting) = inl (ap (λ s. Ended s (whole done rest)) (said_of 27 wanting))
      follows (inl large) = joins file (Ok other) (Ended (says r) (whole done rest)) is answered fetches
          (On full, subst (deeper (Some (whole done rest)) other) on expands, rw (room large, IsPutIn) (ap (λ s. Ended s (whole done rest)) (said_of 3 large)))

-- what was made was fetched
pub made : {T : Type 0} (f : T → State) (t : T) (P : Type 0) → (told f (Ok t) ≡ Err OutOfMemory) ⊎ P → P
made f t P (inl wanting) = absurd (cc)
made f t P (inr is) = is
