-- Elements that are marked are those that a test passes.
use Rattle.std.proofs.Common.{◌≡◌, Bool, true, false, List, [], ◌∷◌, map, filter, Bor, refl, ap, ℕ}
use Rattle.gixcfg_commands.specs.Entries.{marked}

pub none_marked : {A : Type 0} (marks : List Bool) (xs : List A) → xs ≡ [] → marked marks xs ≡ []
none_marked [] xs none = refl
none_marked (m ∷ marks) xs none = ap (marked (m ∷ marks)) none

-- with the marks that a test gives
pub marked_by : {A : Type 0} (test : A → Bool) (xs : List A) → marked (map test xs) xs ≡ filter test xs
marked_by test [] = refl
marked_by test (x ∷ xs) = go (test x) refl (marked_by test xs)
  where
    go : (b : Bool) → test x ≡ b → marked (map test xs) xs ≡ filter test xs → marked (map test (x ∷ xs)) (x ∷ xs) ≡ filter test (x ∷ xs)
    go true e later = rw e (ap (λ ys. x ∷ ys) later)
    go false e later = rw e later

-- where all pass
pub all_kept : {A : Type 0} (test : A → Bool) (xs : List A) → ((x : A) → test x ≡ true) → xs ≡ filter test xs
all_kept test [] passes = refl
all_kept test (x ∷ xs) passes = let here = passes x in rw here (ap (λ ys. x ∷ ys) (all_kept test xs passes))

-- marks of texts are those of what the texts are of
pub marks_of_texts : {A : Type 0} (test : List ℕ → Bool) (text : A → List ℕ) (texts : List (Bor (List ℕ))) (xs : List A) → map (λ t. t.now) texts ≡ map text xs
    → map (λ t. test t.now) texts ≡ map (λ x. test (text x)) xs
marks_of_texts test text [] [] same = refl
marks_of_texts test text [] (x ∷ xs) same = absurd (cc)
marks_of_texts test text (t ∷ texts) [] same = absurd (cc)
marks_of_texts {A} test text (t ∷ texts) (x ∷ xs) same =
    let here : t.now ≡ text x = cc in
    let more : map (λ (u : Bor (List ℕ)). u.now) texts ≡ map text xs = cc in
    (λ i. test (here i) ∷ marks_of_texts test text texts xs more i)
