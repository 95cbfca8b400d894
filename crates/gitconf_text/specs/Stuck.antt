-- Where and why a text is refused.
use Rattle.std.specs.Prelude.{◌≡◌, ◌⊎◌, ◌<◌, ◌+◌, ℕ, Bool, true, false, List, [], ◌∷◌, ◌++◌, ◌==◌, length, count_by, codes, if◌then◌else◌}
use Rattle.std.specs.List.{list_all, list_any}
use Rattle.gitconf_text.specs.Bytes.{is_blank}
use Rattle.gitconf_text.specs.Text.{begins}
use Rattle.gitconf_text.specs.Value.{Value, spelled_value, FitsValue}
use Rattle.gitconf_text.specs.Names.{is_value_name}
use Rattle.gitconf_text.specs.Part.{Part, ItemPart, HeaderPart, spelled_part, spelled, FitsPart, AreFit}
use Rattle.gitconf_text.specs.Document.{unmarked}

-- a value name, the blanks before `=`, and the blanks after it (`behind`)
pub record IsAssignment (name blanks behind : List ℕ) : Type 0 where
  pub name_is : is_value_name name ≡ true
  pub blanks_are : list_all is_blank blanks ≡ true
  pub behind_are : list_all is_blank behind ≡ true

-- the bytes of a key, blanks, `=` and the blanks after it
abbrev pub spelled_assignment : (name blanks behind : List ℕ) → List ℕ
spelled_assignment name blanks behind = name ++ (blanks ++ 61 ∷ behind)

-- no value begins at the front of rest
abbrev pub NoValue : (rest : List ℕ) → Type 0
NoValue rest = (v : Value) (behind : List ℕ) → rest ≡ spelled_value v ++ behind → FitsValue v behind → ⊥

-- neither an item nor a header begins at the front of rest, nor a key with blanks and `=`
pub record NoPart (rest : List ℕ) : Type 0 where
  pub part : (p : Part) (behind : List ℕ) → rest ≡ spelled_part p ++ behind → FitsPart p behind → ⊥
  pub assignment : (name blanks behind : List ℕ) → IsAssignment name blanks [] → rest ≡ spelled_assignment name blanks behind → ⊥

-- the part is a header
abbrev pub is_header_part : Part → Bool
is_header_part (ItemPart i) = false
is_header_part (HeaderPart h) = true

-- what was looked for after these parts
abbrev pub kind_behind : List Part → List ℕ
kind_behind parts = if list_any is_header_part parts then codes "name" else codes "section header"

-- the number of the line after this text
abbrev pub line_behind : List ℕ → ℕ
line_behind text = 1 + count_by (λ b. b == 10) text

-- the text is parts, and then rest, at whose front no further part begins
pub record IsPartFault (text : List ℕ) (line : ℕ) (rest kind : List ℕ) : Type 0 where
  pub parts : List Part
  pub whole : unmarked text ≡ spelled parts ++ rest
  pub fit : AreFit parts rest
  pub unread : 0 < length rest
  pub nothing : NoPart rest
  pub kind_is : kind ≡ kind_behind parts
  pub line_is : line ≡ line_behind (spelled parts)

-- the text is parts, a key, blanks, `=` and blanks, and then rest, at whose front no value begins
pub record IsValueFault (text : List ℕ) (line : ℕ) (rest kind : List ℕ) : Type 0 where
  pub parts : List Part
  pub name : List ℕ
  pub blanks : List ℕ
  pub behind : List ℕ
  pub assignment : IsAssignment name blanks behind
  pub whole : unmarked text ≡ spelled parts ++ (spelled_assignment name blanks behind ++ rest)
  pub fit : AreFit parts (spelled_assignment name blanks behind ++ rest)
  pub unblank : begins is_blank rest ≡ false
  pub nothing : NoValue rest
  pub kind_is : kind ≡ codes "value"
  pub line_is : line ≡ line_behind (spelled parts ++ spelled_assignment name blanks behind)

-- the text can't be read from rest on: rest begins in this line, and this kind of token was looked for
abbrev pub IsStuck : (text : List ℕ) (line : ℕ) (rest kind : List ℕ) → Type 0
IsStuck text line rest kind = IsPartFault text line rest kind ⊎ IsValueFault text line rest kind
