-- What a handle owns.
use Rattle.std.specs.Prelude.{Option, None, Some}
use base.Fml.{Fml, ftrue, ffalse}
use denote.RattleType.{RattleType}
use denote.RawPtr.{Ptr, block_ptr, null_ptr}
use Rattle.std.specs.Box.Ownership.{box_owns}
use Rattle.std.specs.contracts.impls.GlobalAllocator.TheImpl.{ghosts}
use Rattle.std.specs.declared.alloc.Global.{Global}

-- the pointer is to a block on the heap with the object and the right to free it; or it is null, and there is no object
abbrev pub is_held : (Of : RattleType) → Global → Ptr → Option Of.Denot → Fml
is_held Of heap null_ptr None = ftrue
is_held Of heap null_ptr (Some object) = ffalse
is_held Of heap (block_ptr block offset) None = ffalse
is_held Of heap (block_ptr block offset) (Some object) = box_owns (ghosts.dealloc_token heap) Of (block_ptr block offset) object
