-- How far a walk over a text went, and what it met; only proofs and private functions see it.
use Rattle.std.specs.Prelude.{◌≡◌, ◌≤◌, ◌==◌, ℕ, false, true, List, [], ◌∷◌, Option, Some, None, count_by, drop, length, take}
use Rattle.std.specs.Option.{option_map}
use Rattle.gitconf_sources.specs.Key.{Key}
use Rattle.gitconf_text.specs.Document.{unmarked}
use Rattle.gitconf_text.specs.Part.{Part}
use Rattle.gitconf_text.specs.Token.{tokens_of}
use Rattle.gitconf_read.specs.declared.reading.Expected.{Expected}
use Rattle.gitconf_read.specs.declared.reading.Expected.TheVariants.{SectionHeader}
use Rattle.gitconf_read.specs.Stretches.{IsStretch}
use Rattle.gitconf_parse.specs.declared.lookup.walk.Cursor.{Cursor}
use Rattle.gitconf_parse.specs.declared.lookup.walk.Met.{Met}
use Rattle.gitconf_parse.specs.Met.{MetEntry, Standing, met_in, after_parts}
use Rattle.gitconf_parse.specs.Places.{raw_at}

-- where the walk stands
abbrev pub standing : Cursor → Standing
standing c = record { meant = c.meant; anew = c.anew }

-- where a walk over a whole text begins: before any section
abbrev pub first_standing : Standing
first_standing = record { meant = false; anew = true }

-- The cursor is at the start of a text, behind its mark.
pub record IsStart (input : List ℕ) (c : Cursor) : Type 0 where
  pub inside : c.at ≤ length input
  pub unmarked_is : drop c.at input ≡ unmarked input
  pub line : count_by (λ b. b == 10) (take c.at input) ≡ 0
  pub wanted : c.wanted ≡ SectionHeader
  pub stands : standing c ≡ first_standing

-- the entry that was met
abbrev pub met_of : (input : List ℕ) → Met → MetEntry
met_of input m = record { anew = m.anew; raw = option_map (raw_at input) m.value }

-- the entry that was met, if there is one
abbrev pub mets_of : (input : List ℕ) → Option Met → List MetEntry
mets_of input None = []
mets_of input (Some m) = met_of input m ∷ []

-- The text was read from one cursor up to another, and these entries of the key were met.
pub record IsWalk (input : List ℕ) (key : Key) (from to : Cursor) (met : List MetEntry) : Type 0 where
  pub parts : List Part
  pub stretch : IsStretch input from.at from.wanted to.at to.wanted (tokens_of parts)
  pub met_are : met_in key (standing from) parts ≡ met
  pub stands : after_parts key (standing from) parts ≡ standing to

-- Between two offsets are parts that tell a walk nothing.
pub record IsGap (input : List ℕ) (at : ℕ) (wanted : Expected) (end : ℕ) : Type 0 where
  pub parts : List Part
  pub stretch : IsStretch input at wanted end wanted (tokens_of parts)
  pub quiet : (key : Key) (s : Standing) → (met_in key s parts ≡ []) × (after_parts key s parts ≡ s)
