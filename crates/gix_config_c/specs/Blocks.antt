-- Bytes that a call hands out.
use Rattle.std.specs.Prelude.{◌≡◌, ℕ, List, length, Option, Some, None}
use Rattle.std.specs.Vec.{vec_ptr}
use denote.RawPtr.{Ptr, null_ptr}
use Rattle.std.specs.declared.vec.Vec.{Vec}
use Rattle.gix_config_c.specs.declared.block.Block.{Block}
use Rattle.gix_config_c.specs.declared.block.Span.{Span}
use Rattle.gix_config_c.specs.declared.object.Object.{Object}
use Rattle.gix_config_c.specs.declared.object.Object.TheVariants.{Bytes}

-- the object is these bytes, and the pointer points to them
abbrev pub AreAt : (at : Ptr) → (bytes : List ℕ) → Option Object → Type 0
AreAt at bytes (Some (Bytes v)) = (v.items ≡ bytes) × (at ≡ vec_ptr v)
AreAt at bytes _ = ⊥

-- the block owns these bytes
abbrev pub Holds : (bytes : List ℕ) → Block → Type 0
Holds bytes block = (block.len ≡ length bytes) × AreAt block.at bytes block.owner.it

-- the bytes of the vector lie there
abbrev pub LieAt : {Z : Type 0} → Vec ℕ Z → Span → Type 0
LieAt v span = (span.at ≡ vec_ptr v) × (span.len ≡ length v.items)

-- the block owns nothing
abbrev pub IsFreed : Block → Type 0
IsFreed block = (block.at ≡ null_ptr) × (block.len ≡ 0) × (block.owner.it ≡ None)

-- the block is as it was
abbrev pub IsKept : (old new : Block) → Type 0
IsKept old new = (new.at ≡ old.at) × (new.len ≡ old.len) × (new.owner.it ≡ old.owner.it)
