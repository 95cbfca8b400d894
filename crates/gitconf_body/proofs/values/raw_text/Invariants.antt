use Rattle.std.proofs.Common.{◌≡◌, take}
use Rattle.std.specs.List.{flat_map}
use Rattle.gitconf_items.specs.Events.{bytes_of}
use Rattle.gitconf_items.specs.declared.entry.Piece.{Piece}
use Rattle.gitconf_body.proofs.values.raw_text.Given as goal

-- the pieces before are there
abbrev pub invariant-loop-piece : goal.invariant-loop-piece
invariant-loop-piece l = l.raw.items ≡ flat_map (λ (p : Piece). bytes_of l.buffer p.text) (take l.piece-index l.value.pieces.items)
