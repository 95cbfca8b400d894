use Rattle.std.proofs.Common.{◌≡◌, ◌-◌, ◌∙◌, length, slice_index_or, subst, arith, add-one}
use Rattle.std.proofs.lemmas.List.{get_or_default}
use Rattle.gitconf_items.specs.declared.entry.Piece.{Piece}
use Rattle.gitconf_items.specs.Items.{piece_of}
use Rattle.gitconf_items.specs.ItemsFit.{PieceFits}
use Rattle.gitconf_items.specs.Moves.{IsMoved}
use Rattle.gitconf_items.proofs.Moves.{AreChanged, all_at, all_moved, next_changed, next_same}
use Rattle.gitconf_items.proofs.moving.move_pieces.Goals as goal

abbrev blank : Piece
blank = record { text = record { start = 0; len = 0 }; line_end = record { start = 0; len = 0 } }

pub moved_piece-requires : goal.moved_piece-requires
moved_piece-requires c =
    let old = c.args.pieces.now in
    let now = c.loop-at.pieces in
    let piece = slice_index_or now c.loop-at.at blank in
    let here = next_same (IsMoved piece_of PieceFits c.args.by) c.loop-at.at old now blank c.loop-at.invariant ∙ get_or_default old c.loop-at.at blank piece c.loop-at-test.true in
    all_at (PieceFits (4294967295 - c.args.by)) old c.loop-at.at piece c.loop-at-test.true here c.requires

pub loop-at-preserved : goal.loop-at-preserved
loop-at-preserved c =
    let old = c.args.pieces.now in
    let now = c.loop-at.pieces in
    let piece = slice_index_or now c.loop-at.at blank in
    let here = next_same (IsMoved piece_of PieceFits c.args.by) c.loop-at.at old now blank c.loop-at.invariant ∙ get_or_default old c.loop-at.at blank piece c.loop-at-test.true in
    rw add-one (next_changed (IsMoved piece_of PieceFits c.args.by) c.loop-at.at old now piece c.moved_piece.result c.loop-at.invariant c.loop-at-test.true here c.moved_piece.ensures)

pub returns-clause-moved : goal.returns-clause-moved
returns-clause-moved c =
    let old = c.args.pieces.now in
    let whole : c.loop-at.at ≡ length old = omega (arith, c.loop-at-test.false, c.loop-at.auto.at-end) in
    all_moved piece_of PieceFits c.args.by old c.loop-at.pieces (subst (λ n. AreChanged (IsMoved piece_of PieceFits c.args.by) n old c.loop-at.pieces) whole c.loop-at.invariant)
