-- The last element that passes a test: where it is, what a list is when it is changed, and what lookups then find.
use Rattle.std.proofs.Common.{◌≡◌, Bool, true, false, List, [], ◌∷◌, ◌++◌, Option, Some, None, refl, ap}
use Rattle.std.specs.Prelude.{◌&&◌, filter, flat_map, map}
use Rattle.std.specs.List.{list_all, list_any, last_or, filter_map, AllByRecursion}
use Rattle.std.proofs.lemmas.Bool.{or_left, or_right}
use Rattle.gitconf_text.proofs.Tests.{both_true}
use Rattle.gitconf_state.proofs.Loading.Filters.{both_hold}
use Rattle.gitconf_state.specs.Edit.{update_last}

-- what each change keeps holds of all after it
pub update_last_all : {A : Type 0} (test : A → Bool) (change : A → A) (p : A → Bool) → ((x : A) → p x ≡ true → p (change x) ≡ true)
    → (xs : List A) → list_all p xs ≡ true → list_all p (update_last test change xs) ≡ true
update_last_all {A} test change p keeps [] all = refl
update_last_all {A} test change p keeps (x ∷ xs) all =
    let b = both_true (p x) (list_all p xs) all in
    go (list_any test xs) (test x) refl refl b.0 b.1 (update_last_all test change p keeps xs b.1)
  where
    go : (a t : Bool) → list_any test xs ≡ a → test x ≡ t → p x ≡ true → list_all p xs ≡ true → list_all p (update_last test change xs) ≡ true
        → list_all p (update_last test change (x ∷ xs)) ≡ true
    go true t ea et here behind later = rw (ea, update_last) (both_hold (p x) (list_all p (update_last test change xs)) here later)
    go false true ea et here behind later = rw (ea, et, update_last) (both_hold (p (change x)) (list_all p xs) (keeps x here) behind)
    go false false ea et here behind later = rw (ea, et, update_last) (both_hold (p x) (list_all p xs) here behind)

-- the same of a property
pub update_last_holds : {A : Type 0} (test : A → Bool) (change : A → A) (P : A → Type 0) → ((x : A) → P x → P (change x))
    → (xs : List A) → AllByRecursion P xs → AllByRecursion P (update_last test change xs)
update_last_holds {A} test change P keeps [] all = tt
update_last_holds {A} test change P keeps (x ∷ xs) all = go (list_any test xs) (test x) refl refl (update_last_holds test change P keeps xs all.1)
  where
    go : (a t : Bool) → list_any test xs ≡ a → test x ≡ t → AllByRecursion P (update_last test change xs) → AllByRecursion P (update_last test change (x ∷ xs))
    go true t ea et later = rw (ea, update_last) (all.0, later)
    go false true ea et later = rw (ea, et, update_last) (keeps x all.0, all.1)
    go false false ea et later = rw (ea, et, update_last) (all.0, all.1)

-- one that passes is in the list
pub any_at : {A : Type 0} (test : A → Bool) (before : List A) (x : A) (behind : List A) → test x ≡ true → list_any test (before ++ x ∷ behind) ≡ true
any_at test [] x behind passes = or_left (test x) (list_any test behind) passes
any_at test (y ∷ before) x behind passes = or_right (test y) (list_any test (before ++ x ∷ behind)) (any_at test before x behind passes)

-- The last one that passes is changed, and nothing else.
pub update_last_at : {A : Type 0} (test : A → Bool) (change : A → A) (before : List A) (x : A) (behind : List A) → test x ≡ true → list_any test behind ≡ false
    → update_last test change (before ++ x ∷ behind) ≡ before ++ change x ∷ behind
update_last_at test change [] x behind passes none = rw (none, passes, update_last) refl
update_last_at test change (y ∷ before) x behind passes none =
    rw (any_at test before x behind passes, update_last) (ap (λ t. y ∷ t) (update_last_at test change before x behind passes none))

-- if none passes
record NonePass {A : Type 0} (test : A → Bool) (x : A) (xs : List A) : Type 0 where
  here : test x ≡ false
  behind : list_any test xs ≡ false

none_pass : {A : Type 0} (test : A → Bool) (x : A) (xs : List A) → list_any test (x ∷ xs) ≡ false → NonePass test x xs
none_pass test x xs none = go (test x) (list_any test xs) refl refl
  where
    go : (t a : Bool) → test x ≡ t → list_any test xs ≡ a → NonePass test x xs
    go false false et ea = record { here = et; behind = ea }
    go true a et ea = absurd (let h = rw et at none in cc)
    go false true et ea = absurd (let h = rw (et, ea) at none in cc)

-- If none passes nothing is changed.
pub update_last_none : {A : Type 0} (test : A → Bool) (change : A → A) (xs : List A) → list_any test xs ≡ false → update_last test change xs ≡ xs
update_last_none test change [] none = refl
update_last_none test change (x ∷ xs) none = let n = none_pass test x xs none in rw (n.behind, n.here, update_last) refl

-- where the last one that passes is
pub record LastAt {A : Type 0} (test : A → Bool) (xs : List A) : Type 0 where
  pub before : List A
  pub found : A
  pub behind : List A
  pub is : xs ≡ before ++ found ∷ behind
  pub passes : test found ≡ true
  pub none : list_any test behind ≡ false

pub last_at : {A : Type 0} (test : A → Bool) (xs : List A) → list_any test xs ≡ true → LastAt test xs
last_at {A} test [] some = absurd (cc)
last_at {A} test (x ∷ xs) some = go (list_any test xs) (test x) refl refl (last_at test xs)
  where
    go : (a t : Bool) → list_any test xs ≡ a → test x ≡ t → (list_any test xs ≡ true → LastAt test xs) → LastAt test (x ∷ xs)
    go true t ea et later =
        let l = later ea in
        record { before = x ∷ l.before; found = l.found; behind = l.behind; is = ap (λ t. x ∷ t) l.is; passes = l.passes; none = l.none }
    go false true ea et later = record { before = []; found = x; behind = xs; is = refl; passes = et; none = ea }
    go false false ea et later = absurd (let h = rw (et, ea) at some in cc)

pub filter_none : {A : Type 0} (test : A → Bool) (xs : List A) → list_any test xs ≡ false → filter test xs ≡ []
filter_none test [] none = refl
filter_none test (x ∷ xs) none = let n = none_pass test x xs none in rw n.here (filter_none test xs n.behind)

-- the last of those that pass
pub last_passing : {A : Type 0} (test : A → Bool) (o : Option A) (before : List A) (x : A) (behind : List A) → test x ≡ true → list_any test behind ≡ false
    → last_or o (filter test (before ++ x ∷ behind)) ≡ Some x
last_passing {A} test o [] x behind passes none = rw (passes, filter_none test behind none) refl
last_passing {A} test o (y ∷ before) x behind passes none = go (test y) refl (λ p. last_passing test p before x behind passes none)
  where
    go : (t : Bool) → test y ≡ t → ((p : Option A) → last_or p (filter test (before ++ x ∷ behind)) ≡ Some x) → last_or o (filter test (y ∷ (before ++ x ∷ behind))) ≡ Some x
    go true e later = rw e (later (Some y))
    go false e later = rw e (later o)

-- the last that one of them gives, where the last one gives one
pub last_given : {A B : Type 0} (test : A → Bool) (give : A → Option B) (o : Option B) (before : List A) (x : A) (behind : List A) (y : B)
    → test x ≡ true → list_any test behind ≡ false → give x ≡ Some y → last_or o (filter_map give (filter test (before ++ x ∷ behind))) ≡ Some y
last_given {A} {B} test give o [] x behind y passes none gives = rw (passes, filter_none test behind none) (rw gives refl)
last_given {A} {B} test give o (z ∷ before) x behind y passes none gives = go (test z) (give z) refl refl (λ p. last_given test give p before x behind y passes none gives)
  where
    go : (t : Bool) (g : Option B) → test z ≡ t → give z ≡ g → ((p : Option B) → last_or p (filter_map give (filter test (before ++ x ∷ behind))) ≡ Some y)
        → last_or o (filter_map give (filter test (z ∷ (before ++ x ∷ behind)))) ≡ Some y
    go true (Some b) e f later = rw (e, f) (later (Some b))
    go true None e f later = rw (e, f) (later o)
    go false g e f later = rw e (later o)

-- two filters are one of both tests
pub filter_both : {A : Type 0} (test other : A → Bool) (xs : List A) → filter other (filter test xs) ≡ filter (λ x. test x && other x) xs
filter_both {A} test other [] = refl
filter_both {A} test other (x ∷ xs) = go (test x) (other x) refl refl (filter_both test other xs)
  where
    go : (t o : Bool) → test x ≡ t → other x ≡ o → filter other (filter test xs) ≡ filter (λ x. test x && other x) xs
        → filter other (filter test (x ∷ xs)) ≡ filter (λ x. test x && other x) (x ∷ xs)
    go true true e f later = rw (e, f) (ap (λ t. x ∷ t) later)
    go true false e f later = rw (e, f) later
    go false o e f later = rw e later

-- of a mapped list those that pass
pub filter-mapped : {A B : Type 0} (test : B → Bool) (f : A → B) (xs : List A) → filter test (map f xs) ≡ map f (filter (λ x. test (f x)) xs)
filter-mapped {A} {B} test f [] = refl
filter-mapped {A} {B} test f (x ∷ xs) = go (test (f x)) refl (filter-mapped test f xs)
  where
    go : (t : Bool) → test (f x) ≡ t → filter test (map f xs) ≡ map f (filter (λ x. test (f x)) xs) → filter test (map f (x ∷ xs)) ≡ map f (filter (λ x. test (f x)) (x ∷ xs))
    go true e later = rw e (ap (λ ys. f x ∷ ys) later)
    go false e later = rw e later

-- what they give
pub given-mapped : {A B C : Type 0} (give : B → Option C) (f : A → B) (xs : List A) → filter_map give (map f xs) ≡ filter_map (λ x. give (f x)) xs
given-mapped {A} {B} {C} give f [] = refl
given-mapped {A} {B} {C} give f (x ∷ xs) = go (give (f x)) refl (given-mapped give f xs)
  where
    go : (o : Option C) → give (f x) ≡ o → filter_map give (map f xs) ≡ filter_map (λ x. give (f x)) xs → filter_map give (map f (x ∷ xs)) ≡ filter_map (λ x. give (f x)) (x ∷ xs)
    go None e later = rw e later
    go (Some y) e later = rw e (ap (λ ys. y ∷ ys) later)

pub listed-mapped : {A B C : Type 0} (give : B → List C) (f : A → B) (xs : List A) → flat_map give (map f xs) ≡ flat_map (λ x. give (f x)) xs
listed-mapped give f [] = refl
listed-mapped give f (x ∷ xs) = ap (λ ys. give (f x) ++ ys) (listed-mapped give f xs)
