-- A header that is made puts no more bytes than it has.
use Rattle.std.proofs.Common.{◌≡◌, ℕ, ◌≤◌, Bool, true, false, List, [], ◌∷◌, length, Option, Some, None, refl, arith, length-append}
use Rattle.std.specs.Prelude.{filter, flat_map}
use Rattle.std.specs.List.{list_any}
use Rattle.gitconf_text.specs.Header.{spelled_header}
use Rattle.gitconf_state.specs.Edit.{header_bytes, made_header}
use Rattle.gitconf_body.proofs.Headers.{plain_bytes, quoted_bytes}

pub header_tokens : (name : List ℕ) (s : Option (List ℕ)) → header_bytes name s ≤ length (spelled_header (made_header name s))
header_tokens name None = plain_bytes name
header_tokens name (Some s) = let l = quoted_bytes name s in omega (arith, l)

-- where one passes, one is made
pub headers_tokens : {A : Type 0} (test : A → Bool) (xs : List A) (header : List ℕ) (n : ℕ) → n ≤ length header → list_any test xs ≡ true → n ≤ length (flat_map (λ (x : A). header) (filter test xs))
headers_tokens test [] header n fits some = absurd (cc)
headers_tokens {A} test (x ∷ xs) header n fits some = go (test x) refl (headers_tokens test xs header n fits)
  where
    go : (b : Bool) → test x ≡ b → (list_any test xs ≡ true → n ≤ length (flat_map (λ (x : A). header) (filter test xs))) → n ≤ length (flat_map (λ (x : A). header) (filter test (x ∷ xs)))
    go true is later = rw is (let l = length-append header (flat_map (λ (x : A). header) (filter test xs)) in omega (arith, l, fits))
    go false is later = rw is (later (let rest : list_any test xs ≡ true = rw is at some in rest))
