-- Which texts a path pattern matches: it is cut into fronts, and these are matched one after another.
-- Source: Git's wildmatch, where `*` and `?` don't take `/`; brackets are those of specs/Bracket.antt.
use Rattle.std.specs.Prelude.{ℕ, zero, suc, Bool, true, false, not, if◌then◌else◌, List, [], ◌∷◌, ◌&&◌, ◌||◌, ◌==◌, Option, Some, None, length, get_or, drop}
use Rattle.std.specs.List.{prefix_len}
use Rattle.std.specs.Option.{option_map}
use Rattle.std.specs.Char.{to_ascii_lowercase}
use Rattle.gitconf_glob.specs.declared.bracket.Member.{Member}
use Rattle.gitconf_glob.specs.Bracket.{literal, bracket, negates, is_of_any, lets_in}

-- what takes one byte of the text
pub data Element : Type 0 where
  Literal : (byte : ℕ) → Element
  AnyByte : Element
  OneOf : (negated : Bool) (members : List Member) → Element

-- what is at a pattern's front
pub data Front : Type 0 where
  -- what no text matches
  Nothing : Front
  One : (element : Element) → Front
  -- stars that take a run of bytes, with `/` or without
  Run : (slashes : Bool) → Front
  -- stars and the `/` after them, which take nothing, or a run of any bytes and then `/`
  Folders : Front

-- an element takes the byte
abbrev pub takes : (ignore_case : Bool) → Element → ℕ → Bool
takes ignore_case (Literal c) b = if ignore_case then to_ascii_lowercase c == to_ascii_lowercase b else c == b
takes ignore_case AnyByte b = not (b == 47)
takes ignore_case (OneOf negated members) b = lets_in negated (is_of_any ignore_case members b) b

-- Stars, and what is left of the pattern after them: p, or p without its `/`. `wide` says that there are several, and
-- that they are at the pattern's start or after `/`.
abbrev pub stars : (wide : Bool) (p : List ℕ) → Front × List ℕ
stars wide [] = (Run wide, [])
stars wide (b ∷ p) = if wide && b == 47 then (Folders, p) else (Run (wide && b == 92 && get_or p 0 0 == 47), b ∷ p)

-- the element that the pattern b ∷ p begins with, if it can be read, and what is left after it
abbrev pub element : (b : ℕ) (p : List ℕ) → Option (Element × List ℕ)
element b p =
    if b == 63 then Some (AnyByte, p) else
    if b == 91 then option_map (λ (r : List Member × List ℕ). (OneOf (negates p) r.0, r.1)) (bracket p)
    else option_map (λ (r : ℕ × List ℕ). (Literal r.0, r.1)) (literal (b ∷ p))

-- The front of the pattern b ∷ p, and what is left after it; `fresh` says that it is at the start of the whole pattern or after `/`.
unfoldable pub front : (fresh : Bool) (b : ℕ) (p : List ℕ) → Front × List ℕ
front fresh b p = elim (b == 42) [
  | true ↦ stars (fresh && get_or p 0 0 == 42) (drop (prefix_len (λ c. c == 42) p) p)
  | false ↦ elim (element b p) [ None ↦ (Nothing, []) | Some e ↦ (One e.0, e.1) ]
]

-- the front ends with `/`
abbrev pub ends_slash : Front → Bool
ends_slash (One (Literal b)) = b == 47
ends_slash Folders = true
ends_slash f = false

-- The fronts of a pattern, cut one after another; it has at most n bytes.
unfoldable pub fronts : (n : ℕ) (fresh : Bool) (pattern : List ℕ) → List Front
fronts zero fresh p = []
fronts (suc n) fresh [] = []
fronts (suc n) fresh (b ∷ p) = (front fresh b p).0 ∷ fronts n (ends_slash (front fresh b p).0) (front fresh b p).1

-- a byte that the test passes, and then a text that the rest matches
abbrev pub one : (test : ℕ → Bool) (rest : List ℕ → Bool) → List ℕ → Bool
one test rest [] = false
one test rest (b ∷ text) = test b && rest text

-- a run of bytes, which may be empty, and then a text that the rest matches
unfoldable pub run : (slashes : Bool) (rest : List ℕ → Bool) → List ℕ → Bool
run slashes rest [] = rest []
run slashes rest (b ∷ text) = rest (b ∷ text) || (slashes || not (b == 47)) && run slashes rest text

-- the fronts match the text, each what it takes of it, and then the rest of them the rest of it
unfoldable pub fit : (ignore_case : Bool) → List Front → (text : List ℕ) → Bool
fit ignore_case [] text = length text == 0
fit ignore_case (Nothing ∷ fs) text = false
fit ignore_case (One element ∷ fs) text = one (takes ignore_case element) (fit ignore_case fs) text
fit ignore_case (Run slashes ∷ fs) text = run slashes (fit ignore_case fs) text
fit ignore_case (Folders ∷ fs) text = fit ignore_case fs text || run true (one (λ b. b == 47) (fit ignore_case fs)) text

-- the pattern matches the text
unfoldable pub matches : (ignore_case : Bool) (pattern text : List ℕ) → Bool
matches ignore_case pattern text = fit ignore_case (fronts (length pattern) true pattern) text
