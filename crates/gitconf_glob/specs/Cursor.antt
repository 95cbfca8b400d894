-- A pattern with a cursor, as the code goes over it: fronts by how many bytes they have, and what the pattern matches from a place on.
-- Which texts a pattern matches is said by specs/Pattern.antt; proofs/Cutting.antt proves that both match the same texts.
use Rattle.std.specs.Prelude.{ℕ, zero, suc, ltb, ◌+◌, Bool, true, false, if◌then◌else◌, List, [], ◌∷◌, ◌&&◌, ◌||◌, ◌==◌, Option, Some, None, drop}
use Rattle.gitconf_glob.specs.Bracket.{negates}
use Rattle.gitconf_glob.specs.Counted.{bracket}
use Rattle.gitconf_glob.specs.Pattern.{Element, Literal, AnyByte, OneOf, takes, one, run}

-- What is at a pattern's front. `more` counts the bytes after the first one that belong to it.
pub data Front : Type 0 where
  -- what no text matches
  Nothing : Front
  One : (element : Element) (more : ℕ) → Front
  -- stars that take a run of bytes, with `/` or without
  Run : (slashes : Bool) (more : ℕ) → Front
  -- stars at the pattern's end that take any text
  Rest : Front
  -- stars before a `/`, which take a run of bytes, or nothing together with that `/`
  Folders : (more : ℕ) → Front

-- how many stars are at the front, if n were counted before
unfoldable pub stars_from : (n : ℕ) → List ℕ → ℕ
stars_from n [] = n
stars_from n (b ∷ p) = elim (b == 42) [ true ↦ stars_from (n + 1) p | false ↦ n ]

-- `/` comes first
abbrev pub begins_slash : List ℕ → Bool
begins_slash [] = false
begins_slash (b ∷ p) = b == 47

-- several stars at the pattern's start or after `/`, with `more` of them after the first one, before p
abbrev pub wide : (more : ℕ) (p : List ℕ) → Front
wide more [] = Rest
wide more (b ∷ p) = if b == 47 then Folders more else Run (b == 92 && begins_slash p) more

-- stars, with p after the first one
abbrev pub stars : (fresh : Bool) (p : List ℕ) → Front
stars fresh p = if fresh && ltb 0 (stars_from 0 p) then wide (stars_from 0 p) (drop (stars_from 0 p) p) else Run false (stars_from 0 p)

-- a backslash makes the byte after it stand for itself
abbrev pub escape : List ℕ → Front
escape [] = Nothing
escape (b ∷ p) = One (Literal b) 1

-- a bracket, with p after its `[`
abbrev pub one_of : List ℕ → Front
one_of p = elim (bracket p) [ None ↦ Nothing | Some r ↦ One (OneOf (negates p) r.0) r.1 ]

-- The front of the pattern b ∷ p; `fresh` says that it is at the start of the whole pattern or after `/`.
unfoldable pub front : (fresh : Bool) (b : ℕ) (p : List ℕ) → Front
front fresh b p =
    if b == 42 then stars fresh p else
    if b == 63 then One AnyByte 0 else
    if b == 92 then escape p else
    if b == 91 then one_of p else One (Literal b) 0

-- how many bytes a front has after its first one, if it takes this one byte of the text
abbrev pub passed : (ignore_case : Bool) → Front → ℕ → Option ℕ
passed ignore_case (One element more) b = if takes ignore_case element b then Some more else None
passed ignore_case f b = None

-- the empty text
abbrev pub is_empty : List ℕ → Bool
is_empty [] = true
is_empty (b ∷ text) = false

-- The pattern after its first `skip` bytes matches the text. `fresh` is about the last byte that was passed: the pattern's
-- front is at the start of the whole pattern or after `/`.
unfoldable pub matches_after : (ignore_case : Bool) (skip : ℕ) (fresh : Bool) (pattern text : List ℕ) → Bool
matches_after ignore_case skip fresh [] text = is_empty text
matches_after ignore_case (suc skip) fresh (b ∷ p) text = matches_after ignore_case skip (b == 47) p text
matches_after ignore_case zero fresh (b ∷ p) text = elim (front fresh b p) [
  | Nothing ↦ false
  | One element more ↦ one (takes ignore_case element) (matches_after ignore_case more (b == 47) p) text
  | Run slashes more ↦ run slashes (matches_after ignore_case more (b == 47) p) text
  | Rest ↦ true
  | Folders more ↦ matches_after ignore_case (more + 1) (b == 47) p text || run true (matches_after ignore_case more (b == 47) p) text
]
