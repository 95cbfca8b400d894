-- Expansions give no number twice, and those of states are states.
use Rattle.std.proofs.Common.{◌≡◌, ℕ, ◌+◌, ◌==◌, ltb, leb, ◌^◌, true, false, List, [], ◌∷◌, ◌++◌, length, Option, Some, refl, sym, subst, arith, append_assoc, append-nil}
use Rattle.std.specs.List.{AllByRecursion}
use Rattle.std.proofs.lemmas.Bool.{and_parts, leb-true, ne_eqb}
use Rattle.gitconf_text.specs.Part.{Item}
use Rattle.gitconf_text.specs.Sections.{no_number}
use Rattle.gitconf_state.specs.Edits.{held_behind_last, numbered_from}
use Rattle.gitconf_state.specs.Including.{has_room, spliced, spliced_bytes, whole}
use Rattle.gitconf_state.specs.LineEnds.{file_line_end}
use Rattle.gitconf_state.specs.State.{AreNumbered, HasItems, IsState, SectionState, State}
use Rattle.gitconf_includes.specs.Expansion.{Asks, Expands, On, Reached}
use Rattle.gitconf_includes.specs.Laws.{file_of}
use Rattle.gitconf_includes.proofs.Keeping.{expansion}
use Rattle.gitconf_includes.proofs.States.{fetched_items, items_put_in, items_stay}

-- no section has a number
abbrev LackNumber : ℕ → List SectionState → Type 0
LackNumber number sections = AllByRecursion (λ t. (t.number == number) ≡ false) sections

-- what is held after the last one is not asked
lack_held : (number : ℕ) (line_end : List ℕ) (front : List Item) (xs ys : List SectionState) → LackNumber number (xs ++ ys) → LackNumber number (held_behind_last line_end front xs ++ ys)
lack_held number line_end front [] ys all = all
lack_held number line_end front (s ∷ []) ys all = all
lack_held number line_end front (s ∷ t ∷ xs) ys all = (all.0, lack_held number line_end front (t ∷ xs) ys all.1)

numbered_held : (next : ℕ) (line_end : List ℕ) (front : List Item) (xs ys : List SectionState) → AreNumbered next (xs ++ ys) → AreNumbered next (held_behind_last line_end front xs ++ ys)
numbered_held next line_end front [] ys all = all
numbered_held next line_end front (s ∷ []) ys all = all
numbered_held next line_end front (s ∷ t ∷ xs) ys all = (all.0, lack_held s.number line_end front (t ∷ xs) ys all.1, numbered_held next line_end front (t ∷ xs) ys all.2)

-- the next number is further, and no section has it
further : (next : ℕ) (ss : List SectionState) → AreNumbered next ss → AreNumbered (next + 1) ss
further next [] all = tt
further next (s ∷ ss) all = ((let here = all.0 in omega arith), all.1, further next ss all.2)

lack_next : (next : ℕ) (ss : List SectionState) → AreNumbered next ss → LackNumber next ss
lack_next next [] all = tt
lack_next next (s ∷ ss) all = (ne_eqb s.number next (λ same. let here = all.0 in omega arith), lack_next next ss all.2)

-- one more in the middle
lack_put : (number : ℕ) (xs ys : List SectionState) (t : SectionState) → LackNumber number (xs ++ ys) → (t.number == number) ≡ false → LackNumber number (xs ++ t ∷ ys)
lack_put number [] ys t all one = (one, all)
lack_put number (s ∷ xs) ys t all one = (all.0, lack_put number xs ys t all.1 one)

numbered_put : (next : ℕ) (xs ys : List SectionState) (t : SectionState) → AreNumbered next (xs ++ ys) → t.number ≡ next → AreNumbered (next + 1) (xs ++ t ∷ ys)
numbered_put next [] ys t all is = (omega arith, subst (λ n. LackNumber n ys) (sym is) (lack_next next ys all), further next ys all)
numbered_put next (s ∷ xs) ys t all is = (
  (let here = all.0 in omega arith),
  lack_put s.number xs ys t all.1 (ne_eqb t.number s.number (λ same. let here = all.0 in omega arith)),
  numbered_put next xs ys t all.2 is,
)

-- many
all_put : (next : ℕ) (xs others ys : List SectionState) → AreNumbered next (xs ++ ys) → AreNumbered (next + length others) ((xs ++ numbered_from next others) ++ ys)
all_put next xs [] ys all =
    let same : next ≡ next + length {A = SectionState} [] = omega arith in
    subst (λ n. AreNumbered n ((xs ++ []) ++ ys)) same (subst (λ ss. AreNumbered next (ss ++ ys)) (sym (append-nil xs)) all)
all_put next xs (o ∷ others) ys all =
    let t : SectionState = record { number = next; header = o.header; meta = o.meta; items = o.items; held = o.held } in
    let later = all_put (next + 1) (xs ++ t ∷ []) others ys (subst (AreNumbered (next + 1)) (sym (append_assoc xs (t ∷ []) ys)) (numbered_put next xs ys t all refl)) in
    let same : next + 1 + length others ≡ next + length (o ∷ others) = omega arith in
    subst (λ n. AreNumbered n ((xs ++ t ∷ numbered_from (next + 1) others) ++ ys)) same
    (subst (λ ss. AreNumbered (next + 1 + length others) (ss ++ ys)) (append_assoc xs (t ∷ []) (numbered_from (next + 1) others)) later)

numbered_put_in : (other : State) (rest : List SectionState) (done : State) → AreNumbered done.next (done.sections ++ rest) → AreNumbered (spliced other rest done).next ((spliced other rest done).sections ++ rest)
numbered_put_in other rest done all =
    let line_end = file_line_end (whole done rest) in
    all_put done.next (held_behind_last line_end other.front done.sections) other.sections rest (numbered_held done.next line_end other.front done.sections rest all)

pub numbers_stay : (left : ℕ) (asks : Asks) (parent : Option State) (old : State) (r : Reached) → AreNumbered old.next old.sections → Expands left asks parent old r → AreNumbered (file_of r).next (file_of r).sections
numbers_stay left asks parent old r all expands =
    expansion (λ s. AreNumbered s.next s.sections) (λ _. Unit {0}) asks (λ other rest done room kept holds. numbered_put_in other rest done kept) (λ n from path other above full named fetched deeper. tt) left parent old r all expands

-- a state with another one put in
state_put_in : (other : State) (rest : List SectionState) (done : State) → has_room other rest done ≡ true → IsState (whole done rest) → HasItems other → IsState (whole (spliced other rest done) rest)
state_put_in other rest done room is more = record {
  items = items_put_in other rest done is.items more;
  numbers = numbered_put_in other rest done is.numbers;
  within = leb-true (done.next + length other.sections) no_number
      (and_parts (ltb (done.used + spliced_bytes other rest done) (2 ^ 32)) (leb (done.next + length other.sections) no_number) room).1;
}

pub states_stay : (left : ℕ) (asks : Asks) (parent : Option State) (old : State) (r : Reached) → IsState old → Expands left asks parent old r → IsState (file_of r)
states_stay left asks parent old r is expands =
    expansion IsState HasItems asks state_put_in (λ n from path other above full named fetched deeper. items_stay n asks (Some above) other (On full) (fetched_items asks from path other fetched) deeper) left parent old r is expands
