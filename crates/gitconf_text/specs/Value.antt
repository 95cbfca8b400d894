-- Values: what follows `=`, its raw text, its meaning, and how a meaning is written.
-- Source: the git-config manual page, and gix-config; that an open quote before a last backslash is refused is this project's own rule.
use Rattle.std.specs.Prelude.{◌≡◌, ◌⊎◌, ℕ, Bool, true, false, not, List, [], ◌∷◌, ◌++◌, ◌==◌, ◌&&◌, ◌||◌, if◌then◌else◌, flat_map}
use Rattle.std.specs.List.{list_any}
use Rattle.gitconf_text.specs.Bytes.{is_blank, is_whitespace}
use Rattle.gitconf_text.specs.Text.{begins, ends, is_line_end}
use Rattle.gitconf_text.specs.Unit.{LineFeed, Quote, Mark, White, class_of, is_white, is_mark, TextUnit, Escape, OpenEscape, Plain, units_of}

-- a piece of a value other than the last one: its bytes, and the line ending after its backslash
pub record Piece : Type 0 where
  pub text : List ℕ
  pub line_end : List ℕ

-- the pieces before the last one, and the last one
pub record Value : Type 0 where
  pub pieces : List Piece
  pub last : List ℕ

-- its bytes, as they follow `=` and the blanks
abbrev pub spelled_value : Value → List ℕ
spelled_value v = flat_map (λ (p : Piece). p.text ++ 92 ∷ p.line_end) v.pieces ++ v.last

-- the raw text: the pieces put together
abbrev pub raw_of : Value → List ℕ
raw_of v = flat_map (λ (p : Piece). p.text) v.pieces ++ v.last

-- the units of all pieces, in order
abbrev pub value_units : Value → List TextUnit
value_units v = flat_map (λ (p : Piece). units_of p.text) v.pieces ++ units_of v.last

-- the bytes that a value may have after a backslash: `n`, `t`, `b`, `\` and `"`
abbrev pub is_value_escape : ℕ → Bool
is_value_escape b = b == 110 || b == 116 || b == 98 || b == 92 || b == 34

-- quotes come in pairs, `;` and `#` are between those of a pair, and each escape is one that a value may have;
-- quoted: the first of a pair comes before
abbrev pub are_paired : (quoted : Bool) → List TextUnit → Bool
are_paired quoted [] = not quoted
are_paired quoted (Escape b ∷ units) = is_value_escape b && are_paired quoted units
are_paired quoted (OpenEscape ∷ units) = false
are_paired quoted (Plain b ∷ units) = elim (class_of b) [
  | Quote ↦ are_paired (not quoted) units
  | Mark ↦ quoted && are_paired quoted units
  | LineFeed ↦ false
  | _ ↦ are_paired quoted units
]

-- white space, and then LF, a comment or the end
abbrev pub may_follow_value : List ℕ → Bool
may_follow_value [] = true
may_follow_value (b ∷ rest) = elim (class_of b) [
  | White ↦ may_follow_value rest
  | LineFeed ↦ true
  | Mark ↦ true
  | _ ↦ false
]

-- Each piece but the last ends with a backslash and a line ending, and the last not with white space;
-- or the input ends with a backslash, and the last piece is empty.
abbrev pub IsEnded : List Piece → (last rest : List ℕ) → Type 0
IsEnded [] last rest = (ends is_white last ≡ false) × (may_follow_value rest ≡ true)
IsEnded (p ∷ pieces) last rest =
    ((is_line_end p.line_end ≡ true) × IsEnded pieces last rest)
    ⊎ ((p.line_end ≡ []) × (pieces ≡ []) × (last ≡ []) × (rest ≡ []))

-- the value may come before rest
pub record FitsValue (v : Value) (rest : List ℕ) : Type 0 where
  pub front : begins is_blank (spelled_value v ++ rest) ≡ false
  pub units : are_paired false (value_units v) ≡ true
  pub end : IsEnded v.pieces v.last rest

-- text is a value with this raw text, where rest follows
abbrev pub IsValue : (text raw rest : List ℕ) → Type 0
IsValue text raw rest = (v : Value) × (text ≡ spelled_value v) × (raw ≡ raw_of v) × FitsValue v rest

-- what the byte after a backslash stands for
abbrev pub escape_meaning : ℕ → ℕ
escape_meaning b = if b == 110 then 10 else if b == 116 then 9 else if b == 98 then 8 else b

-- what a unit of a value stands for; an unescaped quote and a backslash at the end stand for nothing
abbrev pub unit_meaning : TextUnit → List ℕ
unit_meaning (Escape b) = escape_meaning b ∷ []
unit_meaning OpenEscape = []
unit_meaning (Plain b) = elim (class_of b) [ Quote ↦ [] | _ ↦ b ∷ [] ]

-- the meaning of a raw text
abbrev pub plain : List ℕ → List ℕ
plain raw = flat_map unit_meaning (units_of raw)

-- the byte as it is written in a value
abbrev pub escaped_byte : ℕ → List ℕ
escaped_byte b =
    if b == 10 then 92 ∷ 110 ∷ [] else
    if b == 9 then 92 ∷ 116 ∷ [] else
    if b == 34 then 92 ∷ 34 ∷ [] else
    if b == 92 then 92 ∷ 92 ∷ [] else
    b ∷ []

-- white space at the front or the end, or `;` or `#` anywhere
abbrev pub needs_quotes : List ℕ → Bool
needs_quotes bytes = begins is_whitespace bytes || ends is_whitespace bytes || list_any is_mark bytes

-- how a meaning is written
abbrev pub escaped : List ℕ → List ℕ
escaped bytes =
    if needs_quotes bytes then 34 ∷ (flat_map escaped_byte bytes ++ 34 ∷ [])
    else flat_map escaped_byte bytes
