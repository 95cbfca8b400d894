-- What a walk over the bytes of a raw text has left.
use Rattle.std.specs.Prelude.{ℕ, List, ◌++◌, flat_map}
use Rattle.gitconf_items.specs.declared.entry.Piece.{Piece}
use Rattle.gitconf_items.specs.Events.{bytes_of}
use Rattle.gitconf_lookups.specs.declared.equality.RawBytes.{RawBytes}

-- the bytes that a walk has left
abbrev pub raw_left : RawBytes → List ℕ
raw_left it = it.text.now ++ (flat_map (λ (p : Piece). bytes_of it.buffer.now p.text) it.pieces.now ++ it.last.now)
