-- Names of sections and of values, and the headers that are made of them.
-- A name is spelled with letters, digits and dashes, and two spellings that differ in case alone are one name.
use Rattle.std.specs.Prelude.{◌≡◌, ℕ, Bool, true, false, not, ◌==◌, ◌&&◌, ◌||◌, List, [], ◌∷◌, Option, Some, None, Result, Ok, Err, flat_map}
use Rattle.std.specs.Char.{is_ascii_alphabetic}
use Rattle.std.specs.List.{list_all}
use Rattle.std.specs.declared.cmp.Ordering.{Ordering}
use Rattle.std.specs.Ordering.{nat_cmp, on}
use Rattle.std.specs.Cmp.Lexicographic.{pointwise, slice_cmp}
use Rattle.std.specs.Hash.{HashWrites, u8}
use Rattle.gitconf_text.specs.Bytes.{is_name_byte, fold}

-- a section's name in a header that is made: name bytes, or nothing
abbrev pub is_made_name : List ℕ → Bool
is_made_name bytes = list_all is_name_byte bytes

-- a section's name: one or more name bytes
abbrev pub is_name : List ℕ → Bool
is_name [] = false
is_name (b ∷ bs) = is_made_name (b ∷ bs)

-- a value's name: a letter, and then name bytes
abbrev pub is_value_name : List ℕ → Bool
is_value_name [] = false
is_value_name (b ∷ bs) = is_ascii_alphabetic b && is_made_name bs

-- what a `ValueName` holds: a value's name, or nothing
abbrev pub is_value_name_or_empty : List ℕ → Bool
is_value_name_or_empty [] = true
is_value_name_or_empty (b ∷ bs) = is_value_name (b ∷ bs)

-- a subsection in a header that is made: neither LF nor NUL
abbrev pub is_valid_subsection : List ℕ → Bool
is_valid_subsection bytes = list_all (λ b. not (b == 10 || b == 0)) bytes

-- the same, if there is a subsection
abbrev pub is_valid_or_none : Option (List ℕ) → Bool
is_valid_or_none None = true
is_valid_or_none (Some bytes) = is_valid_subsection bytes

-- the same name: equal bytes without case
abbrev pub is_same_name : List ℕ → List ℕ → Bool
is_same_name = on fold (pointwise ◌==◌)

-- the order of names: that of their bytes without case
abbrev pub name_order : List ℕ → List ℕ → Ordering
name_order = on fold (slice_cmp nat_cmp)

-- what a name feeds a hasher: its bytes without case, one at a time
abbrev pub name_writes : List ℕ → HashWrites
name_writes bytes = flat_map u8 (fold bytes)

-- the result of a conversion that takes no memory: the bytes where they are valid, otherwise refusal 6
abbrev pub IsConverted : Bool → List ℕ → Result (List ℕ) ℕ → Type 0
IsConverted valid bytes (Ok made) = (valid ≡ true) × (made ≡ bytes)
IsConverted valid bytes (Err number) = (valid ≡ false) × (number ≡ 6)
