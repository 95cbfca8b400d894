-- Sections that are put in follow the own section that includes them.
use Rattle.std.proofs.Common.{◌≡◌, ℕ, zero, suc, ◌+◌, ◌<◌, ◌≤◌, ltb, Bool, true, false, List, [], ◌∷◌, ◌++◌, Option, Some, None, Ok, refl, sym, subst, ◌∙◌, arith}
use Rattle.std.specs.List.{AllByRecursion}
use Rattle.std.proofs.lemmas.Bool.{le-ltb, lt-ltb}
use Rattle.gitconf_text.specs.Part.{Item}
use Rattle.gitconf_sources.specs.Metadata.{Meta}
use Rattle.gitconf_state.specs.Edits.{held_behind_last, numbered_from}
use Rattle.gitconf_state.specs.Including.{whole}
use Rattle.gitconf_state.specs.LineEnds.{file_line_end}
use Rattle.gitconf_state.specs.State.{AreNumbered, SectionState, State}
use Rattle.gitconf_state.proofs.Edits.Keep.{behind_last_holds, holds_appended}
use Rattle.gitconf_includes.specs.Expansion.{Asks, Expands, included_meta, IsFetched, On, Reached}
use Rattle.gitconf_includes.specs.Laws.{file_of, IsIncludedBy, StandBehind}
use Rattle.gitconf_includes.proofs.Keeping.{Any, any_named, expansion_from, limit, one_level, EachStepKeeps}
use Rattle.gitconf_includes.proofs.States.{fetched_load}

-- all sections come from an include of a section from there, or from one further down
abbrev AreIncludedBy : (from : Meta) → List SectionState → Type 0
AreIncludedBy from sections = AllByRecursion (λ s. IsIncludedBy from s.meta) sections

further_down : (from here meta : Meta) → IsIncludedBy from here → IsIncludedBy here meta → IsIncludedBy from meta
further_down from here meta first is = record { source = is.source ∙ first.source; trust = is.trust ∙ first.trust; level = (let one = first.level in let two = is.level in omega arith) }

numbered_further : (from here : Meta) (first : ℕ) (ss : List SectionState) → IsIncludedBy from here → AreIncludedBy here ss → AreIncludedBy from (numbered_from first ss)
numbered_further from here first [] is all = tt
numbered_further from here first (s ∷ ss) is all = (further_down from here s.meta is all.0, numbered_further from here (first + 1) ss is all.1)

-- those of a loaded file
all_included : (from : Meta) (path : List ℕ) (ss : List SectionState) → AllByRecursion (λ s. s.meta ≡ included_meta from path) ss → AreIncludedBy from ss
all_included from path [] all = tt
all_included from path (s ∷ ss) all =
    (subst (IsIncludedBy from) (sym all.0) (record { source = refl; trust = refl; level = omega arith }), all_included from path ss all.1)

fetched_included : (asks : Asks) (from : Meta) (path : List ℕ) (other : State) → IsFetched asks from path (Ok other) → AreIncludedBy from other.sections
fetched_included asks from path other fetched = let load = fetched_load asks from path other fetched in all_included from path other.sections load.2.2.metas

-- and of its expansion
record Below (from : Meta) (done : State) (rest : List SectionState) : Type 0 where
  done_are : AreIncludedBy from done.sections
  rest_are : AreIncludedBy from rest

record IsUnderWay (from here : Meta) (done : State) (rest : List SectionState) : Type 0 where
  below : Below from done rest
  is : IsIncludedBy from here

below_kept : (from : Meta) → EachStepKeeps (Below from) (IsUnderWay from) (λ here other. AreIncludedBy here other.sections) (λ file. AreIncludedBy from file.sections)
below_kept from = record {
  visit = λ s rest done kept. record {
    below = record { done_are = holds_appended (λ s. IsIncludedBy from s.meta) done.sections (s ∷ []) kept.done_are (kept.rest_are.0, tt); rest_are = kept.rest_are.1 };
    is = kept.rest_are.0;
  };
  put = λ here other rest done room kept more. record {
    below = record {
      done_are = holds_appended (λ s. IsIncludedBy from s.meta) (held_behind_last (file_line_end (whole done rest)) other.front done.sections) (numbered_from done.next other.sections)
          (behind_last_holds (λ s. IsIncludedBy from s.meta) (file_line_end (whole done rest)) other.front (λ s one. one) done.sections kept.below.done_are)
          (numbered_further from here done.next other.sections kept.is more);
      rest_are = kept.below.rest_are;
    };
    is = kept.is;
  };
  leave = λ here rest done kept. kept.below;
  file = λ rest done kept. holds_appended (λ s. IsIncludedBy from s.meta) done.sections rest kept.done_are kept.rest_are;
}

all_below : (left : ℕ) (asks : Asks) (parent : Option State) (from : Meta) (old : State) (r : Reached) → AreIncludedBy from old.sections → Expands left asks parent old r → AreIncludedBy from (file_of r).sections
unfolding Expands
all_below zero asks parent from old r all is = limit (λ file. AreIncludedBy from file.sections) asks old r all is
all_below (suc left) asks parent from old r all is =
    one_level (Below from) (IsUnderWay from) (λ here other. AreIncludedBy here other.sections) (λ file. AreIncludedBy from file.sections) asks (Expands left asks) (below_kept from) Any
    (λ s rest done more. any_named asks s) (λ here path other above full named fetched deeper. all_below left asks (Some above) here other (On full) (fetched_included asks here path other fetched) deeper)
    parent old r (record { done_are = tt; rest_are = all }) is

-- where the last own section comes from
abbrev last_own : (below : ℕ) → (own : Option Meta) → List SectionState → Option Meta
last_own below own [] = own
last_own below own (s ∷ ss) = elim (ltb s.number below) [ true ↦ last_own below (Some s.meta) ss | false ↦ last_own below own ss ]

last_append : (below : ℕ) (own : Option Meta) (xs ys : List SectionState) → last_own below own (xs ++ ys) ≡ last_own below (last_own below own xs) ys
last_append below own [] ys = refl
last_append below own (s ∷ xs) ys = go (ltb s.number below) refl (last_append below (Some s.meta) xs ys) (last_append below own xs ys)
  where
    go : (b : Bool) → ltb s.number below ≡ b → last_own below (Some s.meta) (xs ++ ys) ≡ last_own below (last_own below (Some s.meta) xs) ys
        → last_own below own (xs ++ ys) ≡ last_own below (last_own below own xs) ys → last_own below own (s ∷ (xs ++ ys)) ≡ last_own below (last_own below own (s ∷ xs)) ys
    go true e one other = rw (e, last_own) one
    go false e one other = rw (e, last_own) other

stand_append : (below : ℕ) (own : Option Meta) (xs ys : List SectionState) → StandBehind below own xs → StandBehind below (last_own below own xs) ys → StandBehind below own (xs ++ ys)
stand_append below own [] ys first second = second
stand_append below own (s ∷ xs) ys first second = go (ltb s.number below) refl first second (stand_append below (Some s.meta) xs ys) (stand_append below own xs ys)
  where
    go : (b : Bool) → ltb s.number below ≡ b → StandBehind below own (s ∷ xs) → StandBehind below (last_own below own (s ∷ xs)) ys
        → (StandBehind below (Some s.meta) xs → StandBehind below (last_own below (Some s.meta) xs) ys → StandBehind below (Some s.meta) (xs ++ ys))
        → (StandBehind below own xs → StandBehind below (last_own below own xs) ys → StandBehind below own (xs ++ ys))
        → StandBehind below own (s ∷ (xs ++ ys))
    go true e first second one other = rw (e, StandBehind) (one (rw (e, StandBehind) at first) (rw (e, last_own) at second))
    go false e first second one other =
        let here = rw (e, StandBehind) at first in
        rw (e, StandBehind) (here.0, other here.1 (rw (e, last_own) at second))

-- what is held after the last one is not asked
last_held : (below : ℕ) (own : Option Meta) (line_end : List ℕ) (front : List Item) (ss : List SectionState) → last_own below own (held_behind_last line_end front ss) ≡ last_own below own ss
last_held below own line_end front [] = refl
last_held below own line_end front (s ∷ []) = refl
last_held below own line_end front (s ∷ t ∷ ss) = go (ltb s.number below) refl (last_held below (Some s.meta) line_end front (t ∷ ss)) (last_held below own line_end front (t ∷ ss))
  where
    go : (b : Bool) → ltb s.number below ≡ b → last_own below (Some s.meta) (held_behind_last line_end front (t ∷ ss)) ≡ last_own below (Some s.meta) (t ∷ ss)
        → last_own below own (held_behind_last line_end front (t ∷ ss)) ≡ last_own below own (t ∷ ss)
        → last_own below own (s ∷ held_behind_last line_end front (t ∷ ss)) ≡ last_own below own (s ∷ t ∷ ss)
    go true e one other = rw (e, last_own) one
    go false e one other = rw (e, last_own) other

stand_held : (below : ℕ) (own : Option Meta) (line_end : List ℕ) (front : List Item) (ss : List SectionState) → StandBehind below own ss → StandBehind below own (held_behind_last line_end front ss)
stand_held below own line_end front [] all = all
stand_held below own line_end front (s ∷ []) all = all
stand_held below own line_end front (s ∷ t ∷ ss) all = go (ltb s.number below) refl all (stand_held below (Some s.meta) line_end front (t ∷ ss)) (stand_held below own line_end front (t ∷ ss))
  where
    go : (b : Bool) → ltb s.number below ≡ b → StandBehind below own (s ∷ t ∷ ss)
        → (StandBehind below (Some s.meta) (t ∷ ss) → StandBehind below (Some s.meta) (held_behind_last line_end front (t ∷ ss)))
        → (StandBehind below own (t ∷ ss) → StandBehind below own (held_behind_last line_end front (t ∷ ss)))
        → StandBehind below own (s ∷ held_behind_last line_end front (t ∷ ss))
    go true e all one other = rw (e, StandBehind) (one (rw (e, StandBehind) at all))
    go false e all one other = let here = rw (e, StandBehind) at all in rw (e, StandBehind) (here.0, other here.1)

-- those that are put in for one from there
last_new : (below first : ℕ) (own : Option Meta) (ss : List SectionState) → below ≤ first → last_own below own (numbered_from first ss) ≡ own
last_new below first own [] far = refl
last_new below first own (s ∷ ss) far = rw (le-ltb first below far, last_own) (last_new below (first + 1) own ss (omega (arith, far)))

stand_new : (below first : ℕ) (from : Meta) (ss : List SectionState) → below ≤ first → AreIncludedBy from ss → StandBehind below (Some from) (numbered_from first ss)
stand_new below first from [] far all = tt
stand_new below first from (s ∷ ss) far all = rw (le-ltb first below far, StandBehind) (all.0, stand_new below (first + 1) from ss (omega (arith, far)) all.1)

-- own ones
abbrev AreOwn : (below : ℕ) → List SectionState → Type 0
AreOwn below sections = AllByRecursion (λ s. s.number < below) sections

stand_own : (below : ℕ) (own : Option Meta) (ss : List SectionState) → AreOwn below ss → StandBehind below own ss
stand_own below own [] all = tt
stand_own below own (s ∷ ss) all = rw (lt-ltb s.number below all.0, StandBehind) (stand_own below (Some s.meta) ss all.1)

are_own : (next : ℕ) (ss : List SectionState) → AreNumbered next ss → AreOwn next ss
are_own next [] all = tt
are_own next (s ∷ ss) all = (all.0, are_own next ss all.2)

record Between (below : ℕ) (done : State) (rest : List SectionState) : Type 0 where
  next : below ≤ done.next
  done_stand : StandBehind below None done.sections
  rest_own : AreOwn below rest

record IsBehindOwn (below : ℕ) (from : Meta) (done : State) (rest : List SectionState) : Type 0 where
  between : Between below done rest
  last : last_own below None done.sections ≡ Some from

behind_kept : (below : ℕ) → EachStepKeeps (Between below) (IsBehindOwn below) (λ from other. AreIncludedBy from other.sections) (λ file. StandBehind below None file.sections)
behind_kept below = record {
  visit = λ s rest done kept. record {
    between = record {
      next = kept.next;
      done_stand = stand_append below None done.sections (s ∷ []) kept.done_stand (stand_own below (last_own below None done.sections) (s ∷ []) (kept.rest_own.0, tt));
      rest_own = kept.rest_own.1;
    };
    last = last_append below None done.sections (s ∷ []) ∙ rw (lt-ltb s.number below kept.rest_own.0, last_own) refl;
  };
  put = λ from other rest done room kept more.
      let line_end = file_line_end (whole done rest) in
      let held = held_behind_last line_end other.front done.sections in
      let new = numbered_from done.next other.sections in
      let last : last_own below None held ≡ Some from = last_held below None line_end other.front done.sections ∙ kept.last in
      record {
        between = record {
          next = let n = kept.between.next in omega arith;
          done_stand = stand_append below None held new (stand_held below None line_end other.front done.sections kept.between.done_stand)
              (subst (λ own. StandBehind below own new) (sym last) (stand_new below done.next from other.sections kept.between.next more));
          rest_own = kept.between.rest_own;
        };
        last = last_append below None held new ∙ last_new below done.next (last_own below None held) other.sections kept.between.next ∙ last;
      };
  leave = λ from rest done kept. kept.between;
  file = λ rest done kept. stand_append below None done.sections rest kept.done_stand (stand_own below (last_own below None done.sections) rest kept.rest_own);
}

-- Each section that was put in follows the own section that includes it.
pub stand_behind : (left : ℕ) (asks : Asks) (parent : Option State) (old : State) (r : Reached) → AreNumbered old.next old.sections → Expands left asks parent old r → StandBehind old.next None (file_of r).sections
stand_behind left asks parent old r numbered expands =
    expansion_from (Between old.next) (IsBehindOwn old.next) (λ from other. AreIncludedBy from other.sections) (λ file. StandBehind old.next None file.sections) asks (behind_kept old.next)
    (λ n from path other above full named fetched deeper. all_below n asks (Some above) from other (On full) (fetched_included asks from path other fetched) deeper)
    left parent old r (record { next = omega arith; done_stand = tt; rest_own = are_own old.next old.sections numbered }) expands
