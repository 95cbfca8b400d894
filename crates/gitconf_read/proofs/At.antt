-- What is at an offset of the input.
use Rattle.std.proofs.Common.{◌≡◌, ℕ, ◌+◌, List, [], ◌∷◌, ◌++◌, length, drop, get_or, refl, ap, sym, ◌∙◌, arith}
use Rattle.std.proofs.lemmas.List.{drop-drop, drop_at, get_or-drop}

-- after the front is what is left
pub behind_front : (input front rest : List ℕ) (n : ℕ) → drop n input ≡ front ++ rest → drop (n + length front) input ≡ rest
behind_front input front rest n at = sym (drop-drop (length front) n input) ∙ ap (λ t. drop (length front) t) at ∙ drop_at front rest (length front) refl

-- after a byte is what is left
pub behind_byte : (input : List ℕ) (b : ℕ) (rest : List ℕ) (n : ℕ) → drop n input ≡ b ∷ rest → drop (n + 1) input ≡ rest
behind_byte input b rest n at = behind_front input (b ∷ []) rest n at

pub byte_at : (input : List ℕ) (b : ℕ) (rest : List ℕ) (n : ℕ) → drop n input ≡ b ∷ rest → get_or input n 0 ≡ b
byte_at input b rest n at = let e : get_or input (n + 0) 0 ≡ b = sym (get_or-drop n input 0 0) ∙ ap (λ t. get_or t 0 0) at in let z : n + 0 ≡ n = omega arith in ap (λ m. get_or input m 0) (sym z) ∙ e
