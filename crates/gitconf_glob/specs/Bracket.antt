-- What follows a `[` of a pattern: members up to a `]`, and the bytes that they take.
-- Source: Git's wildmatch; which texts are members is this project's own rule.
use Rattle.std.specs.Prelude.{ℕ, zero, suc, pred, leb, ◌+◌, Bool, true, false, not, if◌then◌else◌, List, [], ◌∷◌, ◌&&◌, ◌||◌, ◌==◌, Option, Some, None, length, position, take, drop, get_or, codes}
use Rattle.std.specs.List.{list_any}
use Rattle.std.specs.Option.{option_map}
use Rattle.std.specs.Str.{bytes_eq}
use Rattle.std.specs.Char.{is_ascii_alphanumeric, is_ascii_alphabetic, is_ascii_control, is_ascii_digit, is_ascii_graphic, is_ascii_lowercase, is_ascii_punctuation, is_ascii_uppercase, is_ascii_hexdigit, to_ascii_lowercase, to_ascii_uppercase}
use Rattle.gitconf_glob.specs.declared.bracket.Class.{Class}
use Rattle.gitconf_glob.specs.declared.bracket.Class.TheVariants as class
use Rattle.gitconf_glob.specs.declared.bracket.Member.{Member}
use Rattle.gitconf_glob.specs.declared.bracket.Member.TheVariants.{Byte, Range, Named}

-- a byte from one to another, both included
abbrev pub is_between : (low high b : ℕ) → Bool
is_between low high b = leb low b && leb b high

-- the bytes of a class
abbrev pub is_in_class : Class → ℕ → Bool
is_in_class class.Alnum b = is_ascii_alphanumeric b
is_in_class class.Alpha b = is_ascii_alphabetic b
is_in_class class.Blank b = b == 32 || b == 9
is_in_class class.Cntrl b = is_ascii_control b
is_in_class class.Digit b = is_ascii_digit b
is_in_class class.Graph b = is_ascii_graphic b
is_in_class class.Lower b = is_ascii_lowercase b
is_in_class class.Print b = b == 32 || is_ascii_graphic b
is_in_class class.Punct b = is_ascii_punctuation b
is_in_class class.Space b = is_between 9 13 b || b == 32
is_in_class class.Upper b = is_ascii_uppercase b
is_in_class class.Xdigit b = is_ascii_hexdigit b

-- the byte is the member, or in its range or class
abbrev pub is_of : (b : ℕ) → Member → Bool
is_of b (Byte m) = b == m
is_of b (Range low high) = is_between low high b
is_of b (Named c) = is_in_class c b

-- the member takes the byte, or, without case, its lower or its upper form
abbrev pub has : (ignore_case : Bool) → Member → ℕ → Bool
has ignore_case m b = if ignore_case then is_of (to_ascii_lowercase b) m || is_of (to_ascii_uppercase b) m else is_of b m

-- one of the members takes the byte
abbrev pub is_of_any : (ignore_case : Bool) → List Member → ℕ → Bool
is_of_any ignore_case members b = list_any (λ m. has ignore_case m b) members

-- Whether a bracket takes a byte; `among` says that the byte is one of its members. A negated bracket takes the other bytes; neither takes `/`.
abbrev pub lets_in : (negated among : Bool) (b : ℕ) → Bool
lets_in negated among b = not (b == 47) && (if negated then not among else among)

-- the class of a name
abbrev pub class_named : List ℕ → Option Class
class_named name =
    if bytes_eq name (codes "alnum") then Some class.Alnum else
    if bytes_eq name (codes "alpha") then Some class.Alpha else
    if bytes_eq name (codes "blank") then Some class.Blank else
    if bytes_eq name (codes "cntrl") then Some class.Cntrl else
    if bytes_eq name (codes "digit") then Some class.Digit else
    if bytes_eq name (codes "graph") then Some class.Graph else
    if bytes_eq name (codes "lower") then Some class.Lower else
    if bytes_eq name (codes "print") then Some class.Print else
    if bytes_eq name (codes "punct") then Some class.Punct else
    if bytes_eq name (codes "space") then Some class.Space else
    if bytes_eq name (codes "upper") then Some class.Upper else
    if bytes_eq name (codes "xdigit") then Some class.Xdigit else None

-- `!` or `^`
abbrev pub negates : List ℕ → Bool
negates [] = false
negates (b ∷ p) = b == 33 || b == 94

-- The byte that comes first, or the one after a backslash; and what is left. There is none if a byte is missing.
abbrev pub literal : List ℕ → Option (ℕ × List ℕ)
literal [] = None
literal (b ∷ p) = if b == 92 then elim p [ [] ↦ None | c ∷ q ↦ Some (c, q) ] else Some (b, p)

-- a `-` and a byte other than `]`: a range continues
abbrev pub goes_on : List ℕ → Bool
goes_on p = get_or p 0 0 == 45 && not (get_or p 1 93 == 93)

-- a byte or a range, and what is left
abbrev pub byte_or_range : List ℕ → Option (Member × List ℕ)
byte_or_range p = elim (literal p) [
  | None ↦ None
  | Some low ↦ if goes_on low.1
      then option_map (λ (high : ℕ × List ℕ). (Range low.0 high.0, high.1)) (literal (drop 1 low.1))
      else Some (Byte low.0, low.1)
]

-- what comes before the first `]`, without the `:` that has to come directly before it; and what is left after the `]`
abbrev pub cut_name : List ℕ → Option (List ℕ × List ℕ)
cut_name p = elim (position (λ b. b == 93) p) [ None ↦ None | Some n ↦ if get_or p (pred n) 0 == 58 then Some (take (pred n) p, drop (n + 1) p) else None ]

-- the name of a class that comes first, between `[:` and `:]`, and what is left
abbrev pub class_name : List ℕ → Option (List ℕ × List ℕ)
class_name p = if get_or p 0 0 == 91 && get_or p 1 0 == 58 then cut_name (drop 2 p) else None

-- A member, and what is left. There is none if a byte is missing, or for an unknown class.
abbrev pub member : List ℕ → Option (Member × List ℕ)
member p = elim (class_name p) [
  | None ↦ byte_or_range p
  | Some c ↦ option_map (λ (k : Class). (Named k, c.1)) (class_named c.0)
]

-- The members up to a `]`, and what is left after it; as the first of them, a `]` is a member. There are fewer than n.
unfoldable pub members : (n : ℕ) (first : Bool) → List ℕ → Option (List Member × List ℕ)
members zero first p = None
members (suc n) first p = elim (get_or p 0 0 == 93 && not first) [
  | true ↦ Some ([], drop 1 p)
  | false ↦ elim (member p) [
    | None ↦ None
    | Some m ↦ option_map (λ (r : List Member × List ℕ). (m.0 ∷ r.0, r.1)) (members n false m.1)
  ]
]

-- the members of a bracket, read after its `[`, and what is left after its `]`; none if it takes nothing
abbrev pub bracket : List ℕ → Option (List Member × List ℕ)
bracket p = members (length p) true (drop (if negates p then 1 else 0) p)
