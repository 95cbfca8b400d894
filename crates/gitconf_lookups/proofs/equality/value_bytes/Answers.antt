use Rattle.std.proofs.Common.{◌++◌, List, ap, ◌∙◌}
use Rattle.std.specs.Prelude.{flat_map}
use Rattle.gitconf_text.specs.Value as grammar
use Rattle.gitconf_items.specs.declared.entry.Piece.{Piece}
use Rattle.gitconf_items.specs.Events.{bytes_of}
use Rattle.gitconf_items.specs.Items.{value_of}
use Rattle.gitconf_lookups.proofs.Meanings.{pieces_raw}
use Rattle.gitconf_lookups.proofs.equality.value_bytes.Goals as goal

pub returns : goal.returns
returns c =
    let buffer = c.args.buffer.now in
    let value = c.args.value.now in
    ap (λ (pieces : List Piece). flat_map (λ (p : Piece). bytes_of buffer p.text) pieces ++ c.bytes_in-last.result.now) c.as_slice.ensures
    ∙ ap (λ texts. texts ++ c.bytes_in-last.result.now) (pieces_raw buffer value.pieces.items)
    ∙ ap (λ last. flat_map (λ (p : grammar.Piece). p.text) (value_of buffer value).pieces ++ last) c.bytes_in-last.ensures
