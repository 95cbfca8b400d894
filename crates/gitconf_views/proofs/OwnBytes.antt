-- The bytes that a section has for itself are no more than those of its text.
use Rattle.std.proofs.Common.{◌+◌, ◌≤◌, List, [], ◌∷◌, ◌++◌, length, flat_map, Option, Some, None, arith, length-append}
use Rattle.gitconf_text.specs.Header.{Header, PlainHeader, DottedHeader, QuotedHeader, spelled_header}
use Rattle.gitconf_text.specs.Part.{Assigned, Item, BlanksItem, LineEndsItem, CommentItem, EntryItem, spelled_assigned, spelled_item}
use Rattle.gitconf_text.specs.Value.{Piece, spelled_value}
use Rattle.gitconf_body.specs.Copies.{assigned_size, header_size, item_size, items_size, pieces_size}
use Rattle.gitconf_state.specs.State.{SectionState}
use Rattle.gitconf_views.specs.Alone.{section_size}

header_within : (h : Header) → header_size h ≤ length (spelled_header h)
header_within (PlainHeader name) = simp length-append (omega arith)
header_within (DottedHeader name subsection) = simp length-append (omega arith)
header_within (QuotedHeader name blanks spelling) = simp length-append (omega arith)

pieces_within : (ps : List Piece) → pieces_size ps ≤ length (flat_map (λ (p : Piece). p.text ++ 92 ∷ p.line_end) ps)
pieces_within [] = omega arith
pieces_within (p ∷ ps) =
    let later = pieces_within ps in
    let both = length-append (p.text ++ 92 ∷ p.line_end) (flat_map (λ (p : Piece). p.text ++ 92 ∷ p.line_end) ps) in
    let first = length-append p.text (92 ∷ p.line_end) in
    omega (arith, later, both, first)

assigned_within : (o : Option Assigned) → assigned_size o ≤ length (spelled_assigned o)
assigned_within None = omega arith
assigned_within (Some a) =
    let pieces = pieces_within a.value.pieces in
    let behind = length-append a.blanks (spelled_value a.value) in
    let value = length-append (flat_map (λ (p : Piece). p.text ++ 92 ∷ p.line_end) a.value.pieces) a.value.last in
    omega (arith, pieces, behind, value)

item_within : (i : Item) → item_size i ≤ length (spelled_item i)
item_within (BlanksItem run) = omega arith
item_within (LineEndsItem run) = omega arith
item_within (CommentItem tag text) = omega arith
item_within (EntryItem e) =
    let assigned = assigned_within e.assigned in
    let first = length-append e.name (e.blanks ++ spelled_assigned e.assigned) in
    let behind = length-append e.blanks (spelled_assigned e.assigned) in
    omega (arith, assigned, first, behind)

items_within : (is : List Item) → items_size is ≤ length (flat_map spelled_item is)
items_within [] = omega arith
items_within (i ∷ is) =
    let first = item_within i in
    let later = items_within is in
    let both = length-append (spelled_item i) (flat_map spelled_item is) in
    omega (arith, first, later, both)

pub own_within : (s : SectionState) → section_size s ≤ length (spelled_header s.header) + length (flat_map spelled_item s.items)
own_within s =
    let header = header_within s.header in
    let items = items_within s.items in
    omega (arith, header, items)
