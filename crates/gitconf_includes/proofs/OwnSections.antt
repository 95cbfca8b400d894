-- A file's own sections stay.
use Rattle.std.proofs.Common.{◌≡◌, ℕ, ◌+◌, ◌≤◌, ltb, Bool, true, false, List, [], ◌∷◌, ◌++◌, Option, refl, sym, ap, subst, ◌∙◌, arith, append_assoc, append-nil}
use Rattle.std.specs.List.{AllZip}
use Rattle.std.specs.Prelude.{map, filter}
use Rattle.std.proofs.lemmas.List.{map-append}
use Rattle.std.proofs.lemmas.List.Elements.{filter-append}
use Rattle.std.proofs.lemmas.Bool.{le-ltb, lt-ltb}
use Rattle.gitconf_text.specs.Part.{Item}
use Rattle.gitconf_state.specs.Edits.{between, held_behind_last, joined, numbered_from}
use Rattle.gitconf_state.specs.Including.{spliced, whole}
use Rattle.gitconf_state.specs.LineEnds.{file_line_end}
use Rattle.gitconf_state.specs.State.{AreNumbered, SectionState, State}
use Rattle.gitconf_includes.specs.Expansion.{Asks, Expands, Reached}
use Rattle.gitconf_includes.specs.Laws.{file_of, own_sections, unheld, HoldsAsMuch, IsKept}
use Rattle.gitconf_includes.proofs.Keeping.{expansion}

own_append : (below : ℕ) (xs ys : List SectionState) → own_sections below (xs ++ ys) ≡ own_sections below xs ++ own_sections below ys
own_append below xs ys = ap (map unheld) (filter-append (λ s. ltb s.number below) xs ys) ∙ map-append unheld (filter (λ s. ltb s.number below) xs) (filter (λ s. ltb s.number below) ys)

-- what is held after the last one is not asked
own_held : (below : ℕ) (line_end : List ℕ) (front : List Item) (ss : List SectionState) → own_sections below (held_behind_last line_end front ss) ≡ own_sections below ss
own_held below line_end front [] = refl
own_held below line_end front (s ∷ []) = go (ltb s.number below) refl
  where
    go : (b : Bool) → ltb s.number below ≡ b → own_sections below (held_behind_last line_end front (s ∷ [])) ≡ own_sections below (s ∷ [])
    go true is = rw is refl
    go false is = rw is refl
own_held below line_end front (s ∷ t ∷ ss) = go (ltb s.number below) refl (own_held below line_end front (t ∷ ss))
  where
    go : (b : Bool) → ltb s.number below ≡ b → own_sections below (held_behind_last line_end front (t ∷ ss)) ≡ own_sections below (t ∷ ss)
        → own_sections below (s ∷ held_behind_last line_end front (t ∷ ss)) ≡ own_sections below (s ∷ t ∷ ss)
    go true is later = rw is (ap (λ l. unheld s ∷ l) later)
    go false is later = rw is later

own_all : (below : ℕ) (ss : List SectionState) → AreNumbered below ss → own_sections below ss ≡ map unheld ss
own_all below [] all = refl
own_all below (s ∷ ss) all = rw (lt-ltb s.number below all.0) (ap (λ l. unheld s ∷ l) (own_all below ss all.2))

-- the sections with numbers below `below`, with what is held after them
abbrev own_with_held : (below : ℕ) → List SectionState → List SectionState
own_with_held below sections = filter (λ s. ltb s.number below) sections

-- new ones have further numbers
no_new : (below first : ℕ) (ss : List SectionState) → below ≤ first → own_with_held below (numbered_from first ss) ≡ []
no_new below first [] far = refl
no_new below first (s ∷ ss) far = rw (le-ltb first below far) (no_new below (first + 1) ss (omega (arith, far)))

-- all of them hold what they hold
own_hold : (below : ℕ) (ss : List SectionState) → AreNumbered below ss → AllZip HoldsAsMuch ss (own_with_held below ss)
own_hold below [] all = tt
own_hold below (s ∷ ss) all = rw (lt-ltb s.number below all.0) (([], sym (append-nil s.held)), own_hold below ss all.2)

-- the last one may hold more, and new ones follow
own_held_put : (below : ℕ) (line_end : List ℕ) (front : List Item) (olds xs new ys : List SectionState) → own_with_held below new ≡ [] → AllZip HoldsAsMuch olds (own_with_held below (xs ++ ys))
    → AllZip HoldsAsMuch olds (own_with_held below ((held_behind_last line_end front xs ++ new) ++ ys))
own_held_put below line_end front olds [] new ys none kept =
    subst (AllZip HoldsAsMuch olds) (sym (filter-append (λ s. ltb s.number below) new ys ∙ ap (λ l. l ++ own_with_held below ys) none)) kept
own_held_put below line_end front olds (s ∷ []) new ys none kept = go (ltb s.number below) refl olds kept
  where
    same : own_with_held below ys ≡ own_with_held below (new ++ ys)
    same = sym (filter-append (λ s. ltb s.number below) new ys ∙ ap (λ l. l ++ own_with_held below ys) none)

    go : (b : Bool) → ltb s.number below ≡ b → (olds : List SectionState) → AllZip HoldsAsMuch olds (own_with_held below (s ∷ ys))
        → AllZip HoldsAsMuch olds (own_with_held below (record s { held = joined line_end s.held front } ∷ (new ++ ys)))
    go false is olds kept = rw is (subst (AllZip HoldsAsMuch olds) same (rw is at kept))
    go true is [] kept = absurd (rw is at kept)
    go true is (o ∷ olds) kept =
        let all = rw is at kept in
        let more = between line_end s.held front ++ front in
        rw is ((all.0.0 ++ more, ap (λ l. l ++ more) all.0.1 ∙ append_assoc o.held all.0.0 more), subst (AllZip HoldsAsMuch olds) same all.1)
own_held_put below line_end front olds (s ∷ t ∷ xs) new ys none kept = go (ltb s.number below) refl olds kept (λ olds kept. own_held_put below line_end front olds (t ∷ xs) new ys none kept)
  where
    after : List SectionState
    after = (held_behind_last line_end front (t ∷ xs) ++ new) ++ ys

    go : (b : Bool) → ltb s.number below ≡ b → (olds : List SectionState) → AllZip HoldsAsMuch olds (own_with_held below (s ∷ t ∷ (xs ++ ys)))
        → ((olds : List SectionState) → AllZip HoldsAsMuch olds (own_with_held below (t ∷ (xs ++ ys))) → AllZip HoldsAsMuch olds (own_with_held below after))
        → AllZip HoldsAsMuch olds (own_with_held below (s ∷ after))
    go false is olds kept later = rw is (later olds (rw is at kept))
    go true is [] kept later = absurd (rw is at kept)
    go true is (o ∷ olds) kept later = let all = rw is at kept in rw is (all.0, later olds all.1)

-- a state keeps a file, and gives numbers that the file didn't
pub record Stays (old state : State) : Type 0 where
  next : old.next ≤ state.next
  pub kept : IsKept old state

pub put_in : (old other : State) (rest : List SectionState) (done : State) → Stays old (whole done rest) → Stays old (whole (spliced other rest done) rest)
put_in old other rest done stays = record {
  next = let n = stays.next in omega arith;
  kept = record {
    front = stays.kept.front;
    meta = stays.kept.meta;
    sections =
        let le = file_line_end (whole done rest) in
        let held = held_behind_last le other.front done.sections in
        let new = numbered_from done.next other.sections in
        own_append old.next (held ++ new) rest
        ∙ ap (λ l. l ++ own_sections old.next rest) (own_append old.next held new
        ∙ (λ i. own_held old.next le other.front done.sections i ++ map unheld (no_new old.next done.next other.sections stays.next i))
        ∙ append-nil (own_sections old.next done.sections))
        ∙ sym (own_append old.next done.sections rest) ∙ stays.kept.sections;
    held = own_held_put old.next (file_line_end (whole done rest)) other.front old.sections done.sections (numbered_from done.next other.sections) rest
        (no_new old.next done.next other.sections stays.next) stays.kept.held;
  };
}

-- a file stays as it is
pub same_stays : (old : State) → AreNumbered old.next old.sections → Stays old old
same_stays old numbered = record {
  next = omega arith;
  kept = record { front = refl; meta = refl; sections = own_all old.next old.sections numbered; held = own_hold old.next old.sections numbered };
}

pub stay : (left : ℕ) (asks : Asks) (parent : Option State) (old : State) (r : Reached) → AreNumbered old.next old.sections → Expands left asks parent old r → IsKept old (file_of r)
stay left asks parent old r numbered expands =
    (expansion (Stays old) (λ _. Unit {0}) asks (λ other rest done room kept holds. put_in old other rest done kept) (λ n from path other parent full named fetched is. tt) left parent old r
    (same_stays old numbered) expands).kept
