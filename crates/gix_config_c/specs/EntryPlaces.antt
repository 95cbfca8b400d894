-- Entries that a call hands out.
use Rattle.std.specs.Prelude.{◌≡◌, ℕ, Bool, true, false, Option, Some, None}
use denote.RawPtr.{null_ptr}
use Rattle.std.specs.declared.vec.Vec.{Vec}
use Rattle.gix_config_c.specs.Blocks.{LieAt}
use Rattle.gix_config_c.specs.declared.block.Span.{Span}
use Rattle.gix_config_c.specs.declared.entry.Entry.{Entry}
use Rattle.gix_config_c.specs.declared.entry.EntryPlace.{EntryPlace}

-- the bytes of the vector lie there, if there is one
abbrev pub LieAtIf : {Z : Type 0} → Option (Vec ℕ Z) → (is_there : Bool) → Span → Type 0
LieAtIf (Some v) is_there span = (is_there ≡ true) × LieAt v span
LieAtIf None is_there span = (is_there ≡ false) × (span.at ≡ null_ptr) × (span.len ≡ 0)

-- the parts of the entry lie there
pub record LiesAt (entry : Entry) (place : EntryPlace) : Type 0 where
  pub section : LieAt entry.section place.section
  pub subsection : LieAtIf entry.subsection place.has_subsection place.subsection
  pub name : LieAt entry.name place.name
  pub value : LieAtIf entry.value place.has_value place.value
