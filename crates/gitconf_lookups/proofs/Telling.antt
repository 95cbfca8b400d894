-- What is told of each element of a list, one after the other.
use Rattle.std.proofs.Common.{◌≡◌, ℕ, ◌+◌, ◌<◌, List, [], ◌∷◌, ◌++◌, length, map, take, get_or, ap, sym, ◌∙◌}
use Rattle.std.proofs.lemmas.List.{map-append, take_more}

-- one more
pub told_more : {A B C : Type 0} (f : A → C) (g : B → C) (texts more : List B) (t : B) (xs : List A) (i : ℕ) (x : A)
    → more ≡ texts ++ t ∷ [] → map g texts ≡ map f (take i xs) → i < length xs → x ≡ get_or xs i x → g t ≡ f x → map g more ≡ map f (take (i + 1) xs)
told_more f g texts more t xs i x put told within is same =
    ap (map g) put ∙ map-append g texts (t ∷ [])
    ∙ (λ k. told k ++ same k ∷ [])
    ∙ ap (λ y. map f (take i xs) ++ f y ∷ []) is
    ∙ sym (ap (map f) (take_more xs i x within) ∙ map-append f (take i xs) (get_or xs i x ∷ []))
