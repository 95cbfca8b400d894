-- Bytes appended to the buffer leave items as they are.
use Rattle.std.proofs.Common.{◌≡◌, ℕ, List, [], ◌∷◌, ◌++◌, length, map, take, drop, Some, refl, ap, ◌∙◌, arith, length-append}
use Rattle.std.specs.List.{AllByRecursion}
use Rattle.std.proofs.lemmas.List.{drop-append-le, take-append-le, length-drop}
use Rattle.gitconf_text.specs.Part as parts
use Rattle.gitconf_items.specs.declared.event.Span.{Span}
use Rattle.gitconf_items.specs.declared.entry.Piece.{Piece}
use Rattle.gitconf_items.specs.declared.entry.Assigned.{Assigned}
use Rattle.gitconf_items.specs.declared.entry.Assigned.TheVariants as forms
use Rattle.gitconf_items.specs.declared.items.Item.{Item}
use Rattle.gitconf_items.specs.declared.items.Item.TheVariants as items
use Rattle.gitconf_items.specs.Events.{bytes_of, SpanFits}
use Rattle.gitconf_items.specs.Items.{piece_of, assigned_of, item_of, items_of}
use Rattle.gitconf_items.specs.ItemsFit.{PieceFits, AssignedFits, ItemFits, AreItemsWithin}

pub bytes_more : (buffer more : List ℕ) (s : Span) → SpanFits (length buffer) s → bytes_of (buffer ++ more) s ≡ bytes_of buffer s
bytes_more buffer more s fits =
    ap (take s.len) (drop-append-le s.start buffer more (omega (arith, fits)))
    ∙ take-append-le s.len (drop s.start buffer) more (let l = length-drop s.start buffer in omega (arith, fits, l))

pub span_more : (buffer more : List ℕ) (s : Span) → SpanFits (length buffer) s → SpanFits (length (buffer ++ more)) s
span_more buffer more s fits = let l = length-append buffer more in omega (arith, fits, l)

pub pieces_more : (buffer more : List ℕ) (ps : List Piece) → AllByRecursion (PieceFits (length buffer)) ps → map (piece_of (buffer ++ more)) ps ≡ map (piece_of buffer) ps
pieces_more buffer more [] fits = refl
pieces_more buffer more (p ∷ ps) fits = λ i. record { text = bytes_more buffer more p.text fits.0.0 i; line_end = bytes_more buffer more p.line_end fits.0.1 i } ∷ pieces_more buffer more ps fits.1 i

pub pieces_fit_more : (buffer more : List ℕ) (ps : List Piece) → AllByRecursion (PieceFits (length buffer)) ps → AllByRecursion (PieceFits (length (buffer ++ more))) ps
pieces_fit_more buffer more [] fits = tt
pieces_fit_more buffer more (p ∷ ps) fits = ((span_more buffer more p.text fits.0.0, span_more buffer more p.line_end fits.0.1), pieces_fit_more buffer more ps fits.1)

pub assigned_more : (buffer more : List ℕ) (a : Assigned) → AssignedFits (length buffer) a → assigned_of (buffer ++ more) a ≡ assigned_of buffer a
assigned_more buffer more forms.Nothing fits = refl
assigned_more buffer more (forms.Plain blanks value) fits = λ i. Some (record {
  blanks = bytes_more buffer more blanks fits.0 i;
  value = record { pieces = []; last = bytes_more buffer more value fits.1 i };
})
assigned_more buffer more (forms.Continued c) fits = λ i. Some (record {
  blanks = bytes_more buffer more c.blanks fits.0 i;
  value = record { pieces = pieces_more buffer more c.value.pieces.items fits.1.0 i; last = bytes_more buffer more c.value.last fits.1.1 i };
})

pub assigned_fits_more : (buffer more : List ℕ) (a : Assigned) → AssignedFits (length buffer) a → AssignedFits (length (buffer ++ more)) a
assigned_fits_more buffer more forms.Nothing fits = tt
assigned_fits_more buffer more (forms.Plain blanks value) fits = (span_more buffer more blanks fits.0, span_more buffer more value fits.1)
assigned_fits_more buffer more (forms.Continued c) fits =
    (span_more buffer more c.blanks fits.0, (pieces_fit_more buffer more c.value.pieces.items fits.1.0, span_more buffer more c.value.last fits.1.1))

pub item_more : (buffer more : List ℕ) (i : Item) → ItemFits (length buffer) i → item_of (buffer ++ more) i ≡ item_of buffer i
item_more buffer more (items.Blanks run) fits = ap parts.BlanksItem (bytes_more buffer more run fits)
item_more buffer more (items.LineEnds run) fits = ap parts.LineEndsItem (bytes_more buffer more run fits)
item_more buffer more (items.Comment tag text) fits = ap (parts.CommentItem tag) (bytes_more buffer more text fits)
item_more buffer more (items.Entry e) fits = λ i. parts.EntryItem (record {
  name = bytes_more buffer more e.name fits.0 i;
  blanks = bytes_more buffer more e.blanks fits.1 i;
  assigned = assigned_more buffer more e.assigned fits.2 i;
})

pub item_fits_more : (buffer more : List ℕ) (i : Item) → ItemFits (length buffer) i → ItemFits (length (buffer ++ more)) i
item_fits_more buffer more (items.Blanks run) fits = span_more buffer more run fits
item_fits_more buffer more (items.LineEnds run) fits = span_more buffer more run fits
item_fits_more buffer more (items.Comment tag text) fits = span_more buffer more text fits
item_fits_more buffer more (items.Entry e) fits = (span_more buffer more e.name fits.0, span_more buffer more e.blanks fits.1, assigned_fits_more buffer more e.assigned fits.2)

-- items stand for the same, and stand within the longer buffer
pub items_more : (buffer more : List ℕ) (is : List Item) → AreItemsWithin (length buffer) is → items_of (buffer ++ more) is ≡ items_of buffer is
items_more buffer more [] fits = refl
items_more buffer more (x ∷ is) fits = λ i. item_more buffer more x fits.0 i ∷ items_more buffer more is fits.1 i

pub items_fit_more : (buffer more : List ℕ) (is : List Item) → AreItemsWithin (length buffer) is → AreItemsWithin (length (buffer ++ more)) is
items_fit_more buffer more [] fits = tt
items_fit_more buffer more (x ∷ is) fits = (item_fits_more buffer more x fits.0, items_fit_more buffer more is fits.1)
