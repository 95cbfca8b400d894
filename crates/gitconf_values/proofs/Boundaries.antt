-- A folder's path ends where a character of the path begins, or where the path ends.
use Rattle.std.proofs.Common.{◌≡◌, ℕ, zero, suc, ◌<◌, ◌≤◌, Bool, true, false, List, length, get_or, Option, Some, None, refl, ap, sym, subst, ◌∙◌, arith}
use Rattle.std.specs.Prelude.{◌==◌, IfSome, if◌then◌else◌}
use Rattle.std.specs.Str.{IsUtf8, IsCharBoundary}
use Rattle.std.proofs.lemmas.Bool.{eqb-true, eqb-false}
use Rattle.std.proofs.lemmas.Str.{IsUtf8-nil, IsCharBoundary-from_take, IsCharBoundary-before_ascii, IsCharBoundary-after_ascii}
use Rattle.gitconf_values.specs.Paths.{trimmed_length, last_slash, parent_length}

pub trimmed_within : (n : ℕ) (path : List ℕ) → trimmed_length n path ≤ n
unfolding trimmed_length
trimmed_within zero path = omega arith
trimmed_within (suc n) path = go (get_or path n 0 == 47) refl (trimmed_within n path)
  where
    go : (c : Bool) → (get_or path n 0 == 47) ≡ c → trimmed_length n path ≤ n → trimmed_length (suc n) path ≤ suc n
    go true e later = rw (e, trimmed_length) (omega (arith, later))
    go false e later = rw (e, trimmed_length) (omega arith)

-- a slash is where a path was cut
trimmed_at : (n : ℕ) (path : List ℕ) → trimmed_length n path < n → get_or path (trimmed_length n path) 0 ≡ 47
unfolding trimmed_length
trimmed_at zero path less = absurd (let h = less in omega arith)
trimmed_at (suc n) path less = go (get_or path n 0 == 47) refl (trimmed_at n path)
  where
    go : (c : Bool) → (get_or path n 0 == 47) ≡ c → (trimmed_length n path < n → get_or path (trimmed_length n path) 0 ≡ 47) → get_or path (trimmed_length (suc n) path) 0 ≡ 47
    go true e later = rw (e, trimmed_length) (here (trimmed_length n path == n) refl)
      where
        here : (c : Bool) → (trimmed_length n path == n) ≡ c → get_or path (trimmed_length n path) 0 ≡ 47
        here true same = ap (λ k. get_or path k 0) (eqb-true (trimmed_length n path) n same) ∙ eqb-true (get_or path n 0) 47 e
        here false other = later (let within = trimmed_within n path in let differs = eqb-false (trimmed_length n path) n other in omega (arith, within, differs))
    go false e later = absurd (let h : suc n < suc n = rw (e, trimmed_length) at less in omega (arith, h))

-- the last slash is one
record LastSlash (n at : ℕ) (path : List ℕ) : Type 0 where
  within : at < n
  slash : get_or path at 0 ≡ 47

last_at : (n at : ℕ) (path : List ℕ) → last_slash n path ≡ Some at → LastSlash n at path
unfolding last_slash
last_at zero at path found = absurd (let h = found in cc)
last_at (suc n) at path found = go (get_or path n 0 == 47) refl (last_at n at path)
  where
    go : (c : Bool) → (get_or path n 0 == 47) ≡ c → (last_slash n path ≡ Some at → LastSlash n at path) → LastSlash (suc n) at path
    go true e later =
        let same : Some n ≡ Some at = rw (e, last_slash) at found in
        let is : n ≡ at = cc in
        record { within = omega (arith, is); slash = ap (λ k. get_or path k 0) (sym is) ∙ eqb-true (get_or path n 0) 47 e }
    go false e later =
        let before : last_slash n path ≡ Some at = rw (e, last_slash) at found in
        let l = later before in
        record { within = let w = l.within in omega (arith, w); slash = l.slash }

-- after a slash, in front of one, or at the start
at_start : (path : List ℕ) → IsUtf8 path → IsCharBoundary path 0
at_start path utf8 = IsCharBoundary-from_take path 0 utf8 (omega arith) IsUtf8-nil

in_front : (path : List ℕ) (n : ℕ) → n < length path → get_or path n 0 ≡ 47 → IsCharBoundary path n
in_front path n within slash = IsCharBoundary-before_ascii path n within (omega (arith, slash))

-- the folder in front of a slash
cut_boundary : (path : List ℕ) (at : ℕ) → IsUtf8 path → at < length path → get_or path at 0 ≡ 47
    → (c : Bool) → (trimmed_length at path == 0) ≡ c → IsCharBoundary path (if c then 1 else trimmed_length at path)
cut_boundary path at utf8 within slash true nothing =
    IsCharBoundary-after_ascii path 0 utf8 (omega (arith, within)) (let first : get_or path 0 0 ≡ 47 = go (at == 0) refl in omega (arith, first))
  where
    none : trimmed_length at path ≡ 0
    none = eqb-true (trimmed_length at path) 0 nothing

    go : (c : Bool) → (at == 0) ≡ c → get_or path 0 0 ≡ 47
    go true e = ap (λ k. get_or path k 0) (sym (eqb-true at 0 e)) ∙ slash
    go false e = ap (λ k. get_or path k 0) (sym none) ∙ trimmed_at at path (let differs = eqb-false at 0 e in omega (arith, none, differs))
cut_boundary path at utf8 within slash false left = go (trimmed_length at path == at) refl
  where
    go : (c : Bool) → (trimmed_length at path == at) ≡ c → IsCharBoundary path (trimmed_length at path)
    go true e = subst (IsCharBoundary path) (sym (eqb-true (trimmed_length at path) at e)) (in_front path at within slash)
    go false e =
        let small : trimmed_length at path < at = let w = trimmed_within at path in let differs = eqb-false (trimmed_length at path) at e in omega (arith, w, differs) in
        in_front path (trimmed_length at path) (omega (arith, small, within)) (trimmed_at at path small)

pub parent_boundary : (path : List ℕ) → IsUtf8 path → IfSome (parent_length path) (IsCharBoundary path)
parent_boundary path utf8 = go (trimmed_length (length path) path == 0) refl (last_slash (trimmed_length (length path) path) path) refl
  where
    go : (c : Bool) → (trimmed_length (length path) path == 0) ≡ c → (found : Option ℕ) → last_slash (trimmed_length (length path) path) path ≡ found → IfSome (parent_length path) (IsCharBoundary path)
    go true e found f = rw e tt
    go false e None f = rw (e, f) (at_start path utf8)
    go false e (Some at) f =
        let l = last_at (trimmed_length (length path) path) at path f in
        let w = trimmed_within (length path) path in
        rw (e, f) (cut_boundary path at utf8 (let small = l.within in omega (arith, small, w)) l.slash (trimmed_length at path == 0) refl)

pub cut_within : (path : List ℕ) (n : ℕ) → IsUtf8 path → Some n ≡ parent_length path → IsCharBoundary path n
cut_within path n utf8 is = subst (λ r. IfSome r (IsCharBoundary path)) (sym is) (parent_boundary path utf8)
