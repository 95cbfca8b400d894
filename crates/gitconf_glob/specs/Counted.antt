-- Members of a bracket by how many bytes they have, as the code reads them: it goes by places and cuts nothing off.
-- What a bracket is is said by specs/Bracket.antt; proofs/MembersLeft.antt proves that both read the same members.
use Rattle.std.specs.Prelude.{ℕ, zero, suc, pred, ltb, ◌+◌, Bool, true, false, not, if◌then◌else◌, List, [], ◌∷◌, ◌&&◌, ◌==◌, Option, Some, None, take, drop, get_or}
use Rattle.std.specs.Option.{option_map}
use Rattle.gitconf_glob.specs.declared.bracket.Class.{Class}
use Rattle.gitconf_glob.specs.declared.bracket.Member.{Member}
use Rattle.gitconf_glob.specs.declared.bracket.Member.TheVariants.{Byte, Range, Named}
use Rattle.gitconf_glob.specs.Bracket.{is_of_any, class_named, negates}

-- `]` comes first
abbrev pub begins_close : List ℕ → Bool
begins_close [] = false
begins_close (b ∷ p) = b == 93

-- the offset of the first `]`, counted from n
unfoldable pub close_from : (n : ℕ) → List ℕ → Option ℕ
close_from n [] = None
close_from n (b ∷ p) = elim (b == 93) [ true ↦ Some n | false ↦ close_from (n + 1) p ]

-- how many bytes the name between `[:` and `:]` has, read after `[:`; a `:` directly before the first `]` is needed
abbrev pub name_length : List ℕ → Option ℕ
name_length p = elim (close_from 0 p) [
  | None ↦ None
  | Some n ↦ if ltb 0 n && get_or p (pred n) 0 == 58 then Some (pred n) else None
]

-- the byte that comes first, or the one after a backslash; and how many bytes it has after its first one
abbrev pub literal : List ℕ → Option (ℕ × ℕ)
literal [] = None
literal (b ∷ p) = if b == 92 then elim p [ [] ↦ None | c ∷ q ↦ Some (c, 1) ] else Some (b, 0)

-- a `-` and a byte other than `]`: a range continues
abbrev pub goes_on : List ℕ → Bool
goes_on [] = false
goes_on (b ∷ []) = false
goes_on (b ∷ c ∷ p) = b == 45 && not (c == 93)

-- a byte or a range
abbrev pub byte_or_range : List ℕ → Option (Member × ℕ)
byte_or_range p = elim (literal p) [
  | None ↦ None
  | Some low ↦ if goes_on (drop (low.1 + 1) p)
      then option_map (λ (high : ℕ × ℕ). (Range low.0 high.0, low.1 + 2 + high.1)) (literal (drop (low.1 + 2) p))
      else Some (Byte low.0, low.1)
]

-- how many bytes the name of a class has, if a class comes first
abbrev pub class_length : List ℕ → Option ℕ
class_length [] = None
class_length (b ∷ []) = None
class_length (b ∷ c ∷ p) = if b == 91 && c == 58 then name_length p else None

-- A member, and how many bytes it has after its first one. There is none if a byte is missing, or for an unknown class.
unfoldable pub member : List ℕ → Option (Member × ℕ)
member p = elim (class_length p) [
  | None ↦ byte_or_range p
  | Some n ↦ option_map (λ (c : Class). (Named c, n + 3)) (class_named (take n (drop 2 p)))
]

-- Members up to the `]`, and how many bytes they have with it, after the first `skip` bytes. While the first member is looked for,
-- a `]` is a member.
unfoldable pub members : (first : Bool) (skip : ℕ) → List ℕ → Option (List Member × ℕ)
members first skip [] = None
members first (suc skip) (b ∷ p) = option_map (λ (r : List Member × ℕ). (r.0, r.1 + 1)) (members first skip p)
members first zero (b ∷ p) = elim (b == 93 && not first) [
  | true ↦ Some ([], 1)
  | false ↦ elim (member (b ∷ p)) [
    | None ↦ None
    | Some m ↦ option_map (λ (r : List Member × ℕ). (m.0 ∷ r.0, r.1 + 1)) (members false m.1 p)
  ]
]

-- how many bytes come before the members: 1 after `!` or `^`, otherwise 0
abbrev pub members_begin : List ℕ → ℕ
members_begin p = if negates p then 1 else 0

-- the members of a bracket, read after its `[`, and how many bytes it has there; none if it takes nothing
abbrev pub bracket : List ℕ → Option (List Member × ℕ)
bracket p = option_map (λ (r : List Member × ℕ). (r.0, members_begin p + r.1)) (members true 0 (drop (members_begin p) p))

-- whether the byte is one of the members that were read, and how many bytes they have
abbrev pub among : (ignore_case : Bool) (b : ℕ) → Option (List Member × ℕ) → Option (Bool × ℕ)
among ignore_case b read = option_map (λ (r : List Member × ℕ). (is_of_any ignore_case r.0 b, r.1)) read
