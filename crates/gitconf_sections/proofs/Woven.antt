-- Lists that are woven: in halves, under a function, and what holds of their elements.
use Rattle.std.proofs.Common.{◌≡◌, ℕ, ◌+◌, ◌-◌, ◌≤◌, List, [], ◌∷◌, ◌++◌, length, take, drop, map, refl, ap, sym, subst, ◌∙◌, append_assoc, arith}
use Rattle.std.specs.List.{AllByRecursion}
use Rattle.std.proofs.lemmas.List.{append-nil, drop-take, drop_all, take-append-drop, length-append, length-drop, length-take-le, map-append, take-map, drop-map, take_all, take-take, take_at, drop_at, drop-drop}
use Rattle.std.proofs.Math.Seq.{drop-nil, take-nil}
use Rattle.gitconf_sections.specs.declared.runs.Run.{Run}
use Rattle.gitconf_sections.specs.Pairs.{EachToEach, EachTwo}
use Rattle.gitconf_sections.specs.Runs.{total, weave, woven, AreRuns}

-- the runs of two halves
pub record AreHalves (l r : List Run) (first others : ℕ) : Type 0 where
  pub ahead : (total l).ahead ≤ first
  pub count : (total l).count ≤ others
  pub left : AreRuns l (total l).ahead (total l).count
  pub right : AreRuns r (first - (total l).ahead) (others - (total l).count)

along : (runs : List Run) (a b c d : ℕ) → a ≡ b → c ≡ d → AreRuns runs a c → AreRuns runs b d
along runs a b c d e f h = subst (λ n. AreRuns runs n d) e (subst (AreRuns runs a) f h)

in_halves : (l r : List Run) (first others : ℕ) → AreRuns (l ++ r) first others → AreHalves l r first others
in_halves [] r first others h = record {
  ahead = omega arith;
  count = omega arith;
  left = refl;
  right = along r first (first - 0) others (others - 0) (omega arith) (omega arith) h;
}
in_halves (x ∷ l) r first others h =
    let rest = in_halves l r (first - x.ahead) (others - x.count) h.2 in
    record {
      ahead = omega (arith, rest.ahead, h.0);
      count = omega (arith, rest.count, h.1);
      left = (
        omega arith,
        omega arith,
        along l (total l).ahead (x.ahead + (total l).ahead - x.ahead) (total l).count (x.count + (total l).count - x.count) (omega arith) (omega arith) rest.left,
      );
      right = along r (first - x.ahead - (total l).ahead) (first - (x.ahead + (total l).ahead)) (others - x.count - (total l).count) (others - (x.count + (total l).count)) (omega arith) (omega arith) rest.right;
    }

pub cut_in_halves : (runs l r : List Run) (first others : ℕ) → runs ≡ l ++ r → AreRuns runs first others → AreHalves l r first others
cut_in_halves runs l r first others two h = in_halves l r first others (subst (λ rs. AreRuns rs first others) two h)

-- what each half asks for, where the first was woven as one run
pub left_runs : (l r : List Run) (all : Run) (first others : ℕ) (count : ℕ) → AreHalves l r first others → all ≡ total l → count ≡ all.ahead + all.count → AreRuns l all.ahead (count - all.ahead)
left_runs l r all first others count h sum cut =
    rw sum (along l (total l).ahead (total l).ahead (total l).count (count - (total l).ahead) refl (let e : count ≡ (total l).ahead + (total l).count = cut ∙ (λ j. (sum j).ahead + (sum j).count) in omega (arith, e)) h.left)

pub right_runs : (l r : List Run) (all : Run) (first others : ℕ) (count : ℕ) → AreHalves l r first others → all ≡ total l → count + (all.ahead + all.count) ≡ first + others → AreRuns r (first - all.ahead) (count - (first - all.ahead))
right_runs l r all first others count h sum cut =
    let a : all.ahead ≡ (total l).ahead = ap (λ (run : Run). run.ahead) sum in
    let b : all.count ≡ (total l).count = ap (λ (run : Run). run.count) sum in
    along r (first - (total l).ahead) (first - all.ahead) (others - (total l).count) (count - (first - all.ahead)) (omega (arith, a)) (omega (arith, a, b, cut, h.ahead, h.count)) h.right

-- if there are no others, nothing goes
pub none_woven : {A : Type 0} → (runs : List Run) (xs : List A) → weave runs xs [] ≡ xs
none_woven [] xs = append-nil xs
none_woven (r ∷ runs) xs =
    rw (take-nil r.count, drop-nil r.count)
    (ap (λ l. take r.ahead xs ++ l) (none_woven runs (drop r.ahead xs)) ∙ take-append-drop r.ahead xs)

pub all_stay : {A : Type 0} → (runs : List Run) (n : ℕ) (xs : List A) → length xs ≡ n → xs ≡ woven runs n xs
all_stay runs n xs all = sym ((λ j. weave runs (take_all n xs (omega (arith, all)) j) (drop_all n xs (omega (arith, all)) j)) ∙ none_woven runs xs)

module _ {A : Type 0} where
  regroup : (a b c d : List A) → a ++ (b ++ (c ++ d)) ≡ (a ++ (b ++ c)) ++ d
  regroup a b c d = simp append_assoc

  -- the woven halves are one after the other
  pub weave-append : (l r : List Run) (first others : List A)
      → weave (l ++ r) first others
      ≡ weave l (take (total l).ahead first) (take (total l).count others) ++ weave r (drop (total l).ahead first) (drop (total l).count others)
  weave-append [] r first others = refl
  weave-append (x ∷ l) r first others =
      rw (
        take-take x.ahead (x.ahead + (total l).ahead) first (omega arith),
        take-take x.count (x.count + (total l).count) others (omega arith),
        drop-take x.ahead (total l).ahead first,
        drop-take x.count (total l).count others,
        ← drop-drop (total l).ahead x.ahead first,
        ← drop-drop (total l).count x.count others,
      )
      ((λ j. take x.ahead first ++ (take x.count others ++ weave-append l r (drop x.ahead first) (drop x.count others) j))
      ∙ regroup (take x.ahead first) (take x.count others) _ _)

  -- a list of two parts is woven as they are
  pub woven_parts : (runs : List Run) (n : ℕ) (first others : List A) → length first ≡ n → woven runs n (first ++ others) ≡ weave runs first others
  woven_parts runs n first others long = λ j. weave runs (take_at first others n long j) (drop_at first others n long j)

  -- where the first half was woven as one run, each half is woven by itself
  pub halves_woven : (runs l r : List Run) (all : Run) (n : ℕ) (xs ys before behind before2 behind2 : List A) → runs ≡ l ++ r → all ≡ total l → all.ahead ≤ n → n + all.count ≤ length xs
      → ys ≡ woven (all ∷ []) n xs → before ≡ take (all.ahead + all.count) ys → behind ≡ drop (all.ahead + all.count) ys
      → before2 ≡ woven l all.ahead before → behind2 ≡ woven r (n - all.ahead) behind → before2 ++ behind2 ≡ woven runs n xs
  halves_woven runs l r all n xs ys before behind before2 behind2 two sum ahead count is one other left right =
      let first = take n xs in
      let others = drop n xs in
      let long : length first ≡ n = length-take-le n xs (omega (arith, count)) in
      let a : length (take all.ahead first) ≡ all.ahead = length-take-le all.ahead first (omega (arith, long, ahead)) in
      let b : length (take all.count others) ≡ all.count = length-take-le all.count others (omega (arith, length-drop n xs, count)) in
      let c : length (drop all.ahead first) ≡ n - all.ahead = length-drop all.ahead first ∙ ap (λ m. m - all.ahead) long in
      let ab : length (take all.ahead first ++ take all.count others) ≡ all.ahead + all.count = length-append (take all.ahead first) (take all.count others) ∙ (λ j. a j + b j) in
      let shown : ys ≡ (take all.ahead first ++ take all.count others) ++ (drop all.ahead first ++ drop all.count others) = is ∙ sym (append_assoc (take all.ahead first) (take all.count others) (drop all.ahead first ++ drop all.count others)) in
      let front : before ≡ take all.ahead first ++ take all.count others = one ∙ ap (take (all.ahead + all.count)) shown ∙ take_at _ _ _ ab in
      let rest : behind ≡ drop all.ahead first ++ drop all.count others = other ∙ ap (drop (all.ahead + all.count)) shown ∙ drop_at _ _ _ ab in
      (λ j. (left ∙ ap (woven l all.ahead) front ∙ woven_parts l all.ahead (take all.ahead first) (take all.count others) a) j
      ++ (right ∙ ap (woven r (n - all.ahead)) rest ∙ woven_parts r (n - all.ahead) (drop all.ahead first) (drop all.count others) c) j)
      ∙ (λ j. weave l (take (sum j).ahead first) (take (sum j).count others) ++ weave r (drop (sum j).ahead first) (drop (sum j).count others))
      ∙ sym (weave-append l r first others)
      ∙ ap (λ rs. weave rs first others) (sym two)

  -- one run is a rotation
  pub run_woven : (run : Run) (n k : ℕ) (xs : List A) → n ≡ run.ahead + k
      → take run.ahead xs ++ ((drop k (take (k + run.count) (drop run.ahead xs)) ++ take k (take (k + run.count) (drop run.ahead xs))) ++ drop (k + run.count) (drop run.ahead xs)) ≡ woven (run ∷ []) n xs
  run_woven run n k xs sum =
      rw (
        sum,
        take-take run.ahead (run.ahead + k) xs (omega arith),
        drop-take run.ahead k xs,
        drop-take k run.count (drop run.ahead xs),
        take-take k (k + run.count) (drop run.ahead xs) (omega arith),
        ← drop-drop k run.ahead xs,
        drop-drop run.count k (drop run.ahead xs),
      )
      (ap (λ l. take run.ahead xs ++ l) (append_assoc (take run.count (drop k (drop run.ahead xs))) (take k (drop run.ahead xs)) (drop (k + run.count) (drop run.ahead xs))))

  pub run_rotated : (run : Run) (n : ℕ) (xs front tail part rest rotated : List A) → run.ahead ≤ n → front ≡ take run.ahead xs → tail ≡ drop run.ahead xs
      → part ≡ take (n - run.ahead + run.count) tail → rest ≡ drop (n - run.ahead + run.count) tail → rotated ≡ drop (n - run.ahead) part ++ take (n - run.ahead) part
      → front ++ (rotated ++ rest) ≡ woven (run ∷ []) n xs
  run_rotated run n xs front tail part rest rotated within one two three four five =
      let k = n - run.ahead in
      let parts : part ≡ take (k + run.count) (drop run.ahead xs) = three ∙ ap (take (k + run.count)) two in
      (λ j. one j ++ ((five ∙ (λ i. drop k (parts i) ++ take k (parts i))) j ++ (four ∙ ap (drop (k + run.count)) two) j))
      ∙ run_woven run n k xs (omega (arith, within))

-- a list of another length
pub runs_along : (runs : List Run) (first m n : ℕ) → m ≡ n → AreRuns runs first (m - first) → AreRuns runs first (n - first)
runs_along runs first m n same h = subst (λ k. AreRuns runs first (k - first)) same h

-- under f
module _ {A B : Type 0} (f : A → B) where
  map_weave : (runs : List Run) (first others : List A) → map f (weave runs first others) ≡ weave runs (map f first) (map f others)
  map_weave [] first others = map-append f first others
  map_weave (r ∷ runs) first others =
      map-append f (take r.ahead first) _
      ∙ (λ j. sym (take-map f r.ahead first) j ++ map-append f (take r.count others) (weave runs (drop r.ahead first) (drop r.count others)) j)
      ∙ (λ j. take r.ahead (map f first) ++ (sym (take-map f r.count others) j ++ map_weave runs (drop r.ahead first) (drop r.count others) j))
      ∙ (λ j. take r.ahead (map f first) ++ (take r.count (map f others) ++ weave runs (sym (drop-map f r.ahead first) j) (sym (drop-map f r.count others) j)))

  pub map_woven : (runs : List Run) (n : ℕ) (xs : List A) → map f (woven runs n xs) ≡ woven runs n (map f xs)
  map_woven runs n xs = map_weave runs (take n xs) (drop n xs) ∙ (λ j. weave runs (sym (take-map f n xs) j) (sym (drop-map f n xs) j))

-- what holds of each element
module _ {A : Type 0} (P : A → Type 0) where
  pub all_append : (a b : List A) → AllByRecursion P a → AllByRecursion P b → AllByRecursion P (a ++ b)
  all_append [] b h k = k
  all_append (x ∷ a) b h k = (h.0, all_append a b h.1 k)

  pub all_front : (a b : List A) → AllByRecursion P (a ++ b) → AllByRecursion P a
  all_front [] b h = tt
  all_front (x ∷ a) b h = (h.0, all_front a b h.1)

  pub all_rest : (a b : List A) → AllByRecursion P (a ++ b) → AllByRecursion P b
  all_rest [] b h = h
  all_rest (x ∷ a) b h = all_rest a b h.1

  all_taken : (n : ℕ) (xs : List A) → AllByRecursion P xs → AllByRecursion P (take n xs)
  all_taken n xs h = all_front (take n xs) (drop n xs) (subst (AllByRecursion P) (sym (take-append-drop n xs)) h)

  all_left : (n : ℕ) (xs : List A) → AllByRecursion P xs → AllByRecursion P (drop n xs)
  all_left n xs h = all_rest (take n xs) (drop n xs) (subst (AllByRecursion P) (sym (take-append-drop n xs)) h)

  pub all_weave : (runs : List Run) (first others : List A) → AllByRecursion P first → AllByRecursion P others → AllByRecursion P (weave runs first others)
  all_weave [] first others h k = all_append first others h k
  all_weave (r ∷ runs) first others h k =
      all_append (take r.ahead first) _ (all_taken r.ahead first h)
      (all_append (take r.count others) _ (all_taken r.count others k)
      (all_weave runs (drop r.ahead first) (drop r.count others) (all_left r.ahead first h) (all_left r.count others k)))

  pub all_woven : (runs : List Run) (n : ℕ) (xs : List A) → AllByRecursion P xs → AllByRecursion P (woven runs n xs)
  all_woven runs n xs h = all_weave runs (take n xs) (drop n xs) (all_taken n xs h) (all_left n xs h)

-- what holds of any two elements, in whatever order
module _ {A : Type 0} (R : A → A → Type 0) where
  -- lists that are cut and joined
  pub cross_left : (a b ys : List A) → EachToEach R (a ++ b) ys → EachToEach R a ys × EachToEach R b ys
  cross_left a b ys h = (all_front (λ x. AllByRecursion (R x) ys) a b h, all_rest (λ x. AllByRecursion (R x) ys) a b h)

  pub cross_right : (xs a b : List A) → EachToEach R xs (a ++ b) → EachToEach R xs a × EachToEach R xs b
  cross_right [] a b h = (tt, tt)
  cross_right (x ∷ xs) a b h =
      let rest = cross_right xs a b h.1 in
      ((all_front (R x) a b h.0, rest.0), (all_rest (R x) a b h.0, rest.1))

  pub cross_joined : (xs a b : List A) → EachToEach R xs a → EachToEach R xs b → EachToEach R xs (a ++ b)
  cross_joined [] a b h k = tt
  cross_joined (x ∷ xs) a b h k = (all_append (R x) a b h.0 k.0, cross_joined xs a b h.1 k.1)

  cross_weave : (xs : List A) (runs : List Run) (first others : List A) → EachToEach R xs first → EachToEach R xs others → EachToEach R xs (weave runs first others)
  cross_weave [] runs first others h k = tt
  cross_weave (x ∷ xs) runs first others h k = (all_weave (R x) runs first others h.0 k.0, cross_weave xs runs first others h.1 k.1)

  pub two_cut : (a b : List A) → EachTwo R (a ++ b) → EachTwo R a × EachTwo R b × EachToEach R a b
  two_cut [] b h = (tt, h, tt)
  two_cut (x ∷ a) b h =
      let rest = two_cut a b h.1 in
      ((all_front (R x) a b h.0, rest.0), rest.1, (all_rest (R x) a b h.0, rest.2))

  pub two_joined : (a b : List A) → EachTwo R a → EachTwo R b → EachToEach R a b → EachTwo R (a ++ b)
  two_joined [] b h k cross = k
  two_joined (x ∷ a) b h k cross = (all_append (R x) a b h.0 cross.0, two_joined a b h.1 k cross.1)

  module _ (back : (x y : A) → R x y → R y x) where
    one_back : (y : A) (xs : List A) (ys : List A) → EachToEach R xs (y ∷ ys) → AllByRecursion (R y) xs × EachToEach R xs ys
    one_back y [] ys h = (tt, tt)
    one_back y (x ∷ xs) ys h = let rest = one_back y xs ys h.1 in ((back x y h.0.0, rest.0), (h.0.1, rest.1))

    pub cross_back : (xs ys : List A) → EachToEach R xs ys → EachToEach R ys xs
    cross_back xs [] h = tt
    cross_back xs (y ∷ ys) h = let one = one_back y xs ys h in (one.0, cross_back xs ys one.1)

    -- one run, with what the others make of the rest
    run_apart : (runs : List Run) (a a2 b b2 : List A) → EachTwo R (a ++ a2) → EachTwo R (b ++ b2) → EachToEach R (a ++ a2) (b ++ b2)
        → EachTwo R (weave runs a2 b2) → EachTwo R (a ++ (b ++ weave runs a2 b2))
    run_apart runs a a2 b b2 h k cross later =
        let one = two_cut a a2 h in
        let two = two_cut b b2 k in
        let both = cross_left a a2 (b ++ b2) cross in
        let ours = cross_right a b b2 both.0 in
        let theirs = cross_right a2 b b2 both.1 in
        two_joined a (b ++ weave runs a2 b2) one.0
        (two_joined b (weave runs a2 b2) two.0 later (cross_weave b runs a2 b2 (cross_back a2 b theirs.0) two.2))
        (cross_joined a b (weave runs a2 b2) ours.0 (cross_weave a runs a2 b2 one.2 ours.1))

    weave_apart : (runs : List Run) (first others : List A) → EachTwo R first → EachTwo R others → EachToEach R first others → EachTwo R (weave runs first others)
    weave_apart [] first others h k cross = two_joined first others h k cross
    weave_apart (r ∷ runs) first others h k cross =
        let whole : take r.ahead first ++ drop r.ahead first ≡ first = take-append-drop r.ahead first in
        let all : take r.count others ++ drop r.count others ≡ others = take-append-drop r.count others in
        let one : EachTwo R (take r.ahead first ++ drop r.ahead first) = rw whole h in
        let two : EachTwo R (take r.count others ++ drop r.count others) = rw all k in
        let apart : EachToEach R (take r.ahead first ++ drop r.ahead first) (take r.count others ++ drop r.count others) = rw (whole, all) cross in
        let ones = two_cut (take r.ahead first) (drop r.ahead first) one in
        let twos = two_cut (take r.count others) (drop r.count others) two in
        let rest = cross_left (take r.ahead first) (drop r.ahead first) (take r.count others ++ drop r.count others) apart in
        run_apart runs (take r.ahead first) (drop r.ahead first) (take r.count others) (drop r.count others) one two apart
        (weave_apart runs (drop r.ahead first) (drop r.count others) ones.1 twos.1
        (cross_right (drop r.ahead first) (take r.count others) (drop r.count others) rest.1).1)

    pub woven_apart : (runs : List Run) (n : ℕ) (xs : List A) → EachTwo R xs → EachTwo R (woven runs n xs)
    woven_apart runs n xs h =
        let both : EachTwo R (take n xs ++ drop n xs) = rw (take-append-drop n xs) h in
        let parts = two_cut (take n xs) (drop n xs) both in
        weave_apart runs (take n xs) (drop n xs) parts.0 parts.1 parts.2
