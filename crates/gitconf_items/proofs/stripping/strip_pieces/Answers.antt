use Rattle.std.proofs.Common.{◌≡◌, ◌∙◌, length, slice_index_or, subst, arith, add-one}
use Rattle.std.proofs.lemmas.List.{get_or_default}
use Rattle.gitconf_items.specs.declared.entry.Piece.{Piece}
use Rattle.gitconf_items.specs.Items.{piece_of}
use Rattle.gitconf_items.specs.ItemsFit.{PieceFits}
use Rattle.gitconf_items.specs.Stripped.{stripped_piece, IsStripped}
use Rattle.gitconf_items.proofs.Moves.{AreChanged, next_changed, next_same}
use Rattle.gitconf_items.proofs.Strips.{all_stripped}
use Rattle.gitconf_items.proofs.stripping.strip_pieces.Goals as goal

abbrev change : Piece → Piece → Type 0
change = IsStripped piece_of stripped_piece PieceFits

pub loop-at-preserved : goal.loop-at-preserved
loop-at-preserved c =
    let old = c.args.pieces.now in
    let now = c.loop-at.pieces in
    let blank : Piece = record { text = record { start = 0; len = 0 }; line_end = record { start = 0; len = 0 } } in
    let piece = slice_index_or now c.loop-at.at blank in
    let here = next_same change c.loop-at.at old now blank c.loop-at.invariant ∙ get_or_default old c.loop-at.at blank piece c.loop-at-test.true in
    rw add-one (next_changed change c.loop-at.at old now piece c.stripped_piece.result c.loop-at.invariant c.loop-at-test.true here c.stripped_piece.ensures)

pub returns-clause-stripped : goal.returns-clause-stripped
returns-clause-stripped c =
    let old = c.args.pieces.now in
    let whole : c.loop-at.at ≡ length old = omega (arith, c.loop-at-test.false, c.loop-at.auto.at-end) in
    all_stripped piece_of stripped_piece PieceFits old c.loop-at.pieces (subst (λ n. AreChanged change n old c.loop-at.pieces) whole c.loop-at.invariant)
