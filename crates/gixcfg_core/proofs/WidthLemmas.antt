-- Texts that grow by what is as wide as a character.
use Rattle.std.proofs.Common.{◌≡◌, ℕ, ◌+◌, List, [], ◌∷◌, ◌++◌, replicate, ap, ◌∙◌, lit<}
use Rattle.std.proofs.lemmas.Str.{encode_ascii}
use Rattle.std.specs.Prelude.{encode_utf8}
use mathlib.Core.List.{append_assoc}
use lib.ListN.{replicate-append-replicate}

-- one more blank
pub blanks_more : (old new all : List ℕ) (n : ℕ) → old ≡ all ++ replicate n 32 → new ≡ old ++ encode_utf8 32 → new ≡ all ++ replicate (n + 1) 32
blanks_more old new all n was is =
    is ∙ ap (λ t. old ++ t) (encode_ascii 32 (lit< tt)) ∙ ap (λ t. t ++ (32 ∷ [])) was ∙ append_assoc all (replicate n 32) (32 ∷ [])
    ∙ ap (λ t. all ++ t) (replicate-append-replicate n 1 32)
