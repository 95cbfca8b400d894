-- A list of which a part is changed where it is.
use Rattle.std.proofs.Common.{◌≡◌, ℕ, zero, suc, ◌+◌, ◌<◌, List, [], ◌∷◌, ◌++◌, length, take, drop, get_or, set, refl, ap, sym, ◌∙◌, arith}
use Rattle.std.proofs.lemmas.List.{length-append}
use Rattle.gitconf_items.specs.declared.items.Item.{Item}
use Rattle.gitconf_sections.specs.Section.{IsSameBut}

front_is : {A : Type 0} (front more : List A) (n : ℕ) → length front ≡ n → take n (front ++ more) ≡ front
front_is [] more zero is = refl
front_is [] more (suc n) is = absurd (omega (arith, is))
front_is (x ∷ front) more zero is = absurd (omega (arith, is))
front_is (x ∷ front) more (suc n) is = ap (λ xs. x ∷ xs) (front_is front more n (omega (arith, is)))

more_is : {A : Type 0} (front more : List A) (n : ℕ) → length front ≡ n → drop n (front ++ more) ≡ more
more_is [] more zero is = refl
more_is [] more (suc n) is = absurd (omega (arith, is))
more_is (x ∷ front) more zero is = absurd (omega (arith, is))
more_is (x ∷ front) more (suc n) is = more_is front more n (omega (arith, is))

-- the part
pub part_is : {A : Type 0} (front part rest : List A) (from len : ℕ) → length front ≡ from → length part ≡ len → take len (drop from (front ++ (part ++ rest))) ≡ part
part_is front part rest from len first count = ap (take len) (more_is front (part ++ rest) from first) ∙ front_is part rest len count

rest_is : {A : Type 0} (front part rest : List A) (n : ℕ) → length front + length part ≡ n → drop n (front ++ (part ++ rest)) ≡ rest
rest_is [] part rest n is = more_is part rest n (omega (arith, is))
rest_is (x ∷ front) part rest zero is = absurd (omega (arith, is))
rest_is (x ∷ front) part rest (suc n) is = rest_is front part rest n (omega (arith, is))

-- All else is the same.
pub but_part : (old new front behind part changed rest : List Item) (from len : ℕ) → old ≡ front ++ behind → behind ≡ part ++ rest → new ≡ front ++ (changed ++ rest) → length front ≡ from → length part ≡ len
    → length changed ≡ length part → IsSameBut from len old new
but_part old new front behind part changed rest from len was split is first count same =
    let whole : old ≡ front ++ (part ++ rest) = was ∙ ap (λ xs. front ++ xs) split in
    let so : length changed ≡ len = same ∙ count in
    let a = length-append front (part ++ rest) in
    let b = length-append part rest in
    let c = length-append front (changed ++ rest) in
    let d = length-append changed rest in
    let l = ap length whole in
    let m = ap length is in
    record {
      long = omega (arith, a, b, c, d, l, m, same);
      before = ap (take from) is ∙ front_is front (changed ++ rest) from first ∙ sym (ap (take from) whole ∙ front_is front (part ++ rest) from first);
      behind = ap (drop (from + len)) is ∙ rest_is front changed rest (from + len) (omega (arith, first, so)) ∙ sym (ap (drop (from + len)) whole ∙ rest_is front part rest (from + len) (omega (arith, first, count)));
    }

-- The next one is removed from a list, and another is in its place.
pub next_taken : {A : Type 0} (at : ℕ) (xs ys : List A) (x z : A) → length ys ≡ length xs → at < length xs → drop at ys ≡ drop at xs → x ≡ get_or ys at x
    → (take (suc at) xs ≡ take at xs ++ x ∷ []) × (drop (suc at) (set ys at z) ≡ drop (suc at) xs)
next_taken at [] ys x z long within same is = absurd (omega (arith, within))
next_taken at (w ∷ xs) [] x z long within same is = absurd (omega (arith, long))
next_taken zero (w ∷ xs) (y ∷ ys) x z long within same is = (let first : w ≡ x = cc in ap (λ v. v ∷ []) first, let others : ys ≡ xs = cc in others)
next_taken (suc at) (w ∷ xs) (y ∷ ys) x z long within same is =
    let later = next_taken at xs ys x z (omega (arith, long)) (omega (arith, within)) same is in
    (ap (λ vs. w ∷ vs) later.0, later.1)
