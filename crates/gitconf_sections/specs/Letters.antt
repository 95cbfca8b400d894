-- Names one after the other in one list of bytes, and their places there.
use Rattle.std.specs.Prelude.{◌≡◌, ℕ, ◌+◌, ◌≤◌, List, ◌++◌, length, take, drop, Option, Some, None}
use Rattle.std.specs.Option.{option_map}
use Rattle.gitconf_sections.specs.declared.letters.Part.{Part}
use Rattle.gitconf_sections.specs.declared.letters.Names.{Names}

-- the bytes at a place
abbrev pub part_of : (letters : List ℕ) → Part → List ℕ
part_of letters p = take p.len (drop p.start letters)

-- the place is within that many bytes
abbrev pub PartFits : (count : ℕ) → Part → Type 0
PartFits count p = p.start + p.len ≤ count

-- the place of a subsection, if there is one, is within that many bytes
abbrev pub SubsectionFits : (count : ℕ) → Option Part → Type 0
SubsectionFits count None = Unit {0}
SubsectionFits count (Some p) = PartFits count p

-- where the name is; the subsection, if there is one, follows it
abbrev pub name_part : Names → Part
name_part n = record { start = n.start; len = n.name_len }

-- where the subsection is, if there is one: directly after the name
abbrev pub subsection_part : Names → Option Part
subsection_part n = option_map (λ len. record { start = n.start + n.name_len; len = len }) n.subsection_len

-- both are within that many bytes
abbrev pub NamesFit : (count : ℕ) → Names → Type 0
NamesFit count n = PartFits count (name_part n) × SubsectionFits count (subsection_part n)

-- the bytes were put after the others, at this place
pub record IsPut (bytes old new : List ℕ) (p : Part) : Type 0 where
  pub new_is : new ≡ old ++ bytes
  pub start_is : p.start ≡ length old
  pub len_is : p.len ≡ length bytes

-- so were those of a subsection, if there is one; it has that many
abbrev pub IsSubsectionPut : (subsection : Option (List ℕ)) (old new : List ℕ) → Option ℕ → Type 0
IsSubsectionPut (Some bytes) old new (Some len) = IsPut bytes old new (record { start = length old; len = len })
IsSubsectionPut None old new None = new ≡ old
IsSubsectionPut _ old new _ = ⊥

-- how many bytes a subsection has
abbrev pub subsection_len : Option (List ℕ) → ℕ
subsection_len (Some bytes) = length bytes
subsection_len None = 0

-- a name and a subsection were put after other bytes, at these places
pub record ArePut (name : List ℕ) (subsection : Option (List ℕ)) (old new : List ℕ) (n : Names) : Type 0 where
  pub more : List ℕ
  pub new_is : new ≡ old ++ more
  pub name_is : part_of new (name_part n) ≡ name
  pub subsection_is : option_map (part_of new) (subsection_part n) ≡ subsection
  pub fit : NamesFit (length new) n

-- the same places, after `by` bytes were put before
abbrev pub moved_names : (by : ℕ) → Names → Names
moved_names by n = record n { start = by + n.start }
