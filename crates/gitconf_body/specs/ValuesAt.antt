-- Entries that are written at a place among items, as the items are stored.
use Rattle.std.specs.Prelude.{ℕ, zero, suc, ◌+◌, ◌==◌, if◌then◌else◌, Bool, true, false, List, [], ◌∷◌, ◌++◌, length, Option, Some, None}
use Rattle.gitconf_text.specs.Part as parts
use Rattle.gitconf_text.specs.Value.{escaped}
use Rattle.gitconf_items.specs.declared.event.Span.{Span}
use Rattle.gitconf_items.specs.declared.entry.Assigned.{Assigned}
use Rattle.gitconf_items.specs.declared.entry.Assigned.TheVariants as forms
use Rattle.gitconf_items.specs.declared.entry.EntryParts.{EntryParts as Entry}
use Rattle.gitconf_items.specs.declared.items.Item.{Item}
use Rattle.gitconf_items.specs.declared.items.Item.TheVariants as items
use Rattle.gitconf_items.specs.declared.entry.Piece.{Piece}
use Rattle.gitconf_state.specs.Editors.{InsteadOf, OfNothing, OfEntry, OfEntryButLineEnd}
use Rattle.gitconf_body.specs.declared.editor.Editor.{Editor}
use Rattle.gitconf_body.specs.declared.value_at.InPlaceOf.{InPlaceOf}
use Rattle.gitconf_body.specs.declared.value_at.InPlaceOf.TheVariants.{Nothing, EntryButLineEnd}
use Rattle.gitconf_body.specs.declared.value_at.InPlaceOf.TheVariants as in_place_of
use Rattle.gitconf_body.specs.declared.value_at.Way.{Way}
use Rattle.gitconf_body.specs.declared.value_at.Way.TheVariants.{Before, Over}
use Rattle.gitconf_body.specs.Editors.{around_bytes, value_put}
use Rattle.gitconf_body.specs.Spacings.{nothing}
use Rattle.gitconf_body.specs.Standing.{end_items}

-- what an entry is written in place of, as the definitions have it
abbrev pub instead_of : InPlaceOf → InsteadOf
instead_of Nothing = OfNothing
instead_of in_place_of.Entry = OfEntry
instead_of EntryButLineEnd = OfEntryButLineEnd

-- how many bytes an editor adds to the buffer for an entry that is written
abbrev pub written_put : Editor → (key value : List ℕ) → ℕ
written_put e key value = length key + value_put e.around (Some value)

-- how many bytes the body's own editor adds for it
abbrev pub rewritten_put : (key value : List ℕ) → List parts.Item → ℕ
rewritten_put key value items = length key + (around_bytes items + length (escaped value))

-- the span of the last line ending among pieces that has bytes, otherwise this span
abbrev pub last_end_or : Span → List Piece → Span
last_end_or run [] = run
last_end_or run (p ∷ ps) = last_end_or (if p.line_end.len == 0 then run else p.line_end) ps

-- the span of the last line ending among a value's pieces
abbrev pub last_end : List Piece → Span
last_end ps = last_end_or nothing ps

-- a comment comes next, apart from blanks
abbrev pub is_before_comment : List Item → Bool
is_before_comment [] = false
is_before_comment (items.Blanks run ∷ is) = is_before_comment is
is_before_comment (items.LineEnds run ∷ is) = false
is_before_comment (items.Comment tag text ∷ is) = true
is_before_comment (items.Entry e ∷ is) = false

-- the span, if it has this many bytes, which is not 0
abbrev pub unless_short : Span → ℕ → Option Span
unless_short run zero = None
unless_short run (suc n) = Some run

-- the span of the line ending that stays, if the last piece has no bytes and a comment comes next
abbrev pub kept_behind : (last : ℕ) → (before : Bool) → Span → Option Span
kept_behind zero true run = unless_short run run.len
kept_behind zero false run = None
kept_behind (suc n) before run = None

-- the span of the line ending that stays of what was assigned, if one does
abbrev pub kept_end : Assigned → (behind : List Item) → Option Span
kept_end forms.Nothing behind = None
kept_end (forms.Plain blanks value) behind = None
kept_end (forms.Continued c) behind = kept_behind c.value.last.len (is_before_comment behind) (last_end c.value.pieces.items)

-- how an entry is put before or in place of another entry
abbrev pub way_over : InPlaceOf → Entry → (behind : List Item) → Way
way_over Nothing e behind = Before
way_over in_place_of.Entry e behind = Over None
way_over EntryButLineEnd e behind = Over (kept_end e.assigned behind)

-- how an entry is put before items, or in place of the first of them if that is an entry
abbrev pub way_before : InPlaceOf → List Item → Way
way_before what [] = Before
way_before what (items.Blanks run ∷ is) = Before
way_before what (items.LineEnds run ∷ is) = Before
way_before what (items.Comment tag text ∷ is) = Before
way_before what (items.Entry e ∷ is) = way_over what e is

-- what holds if an entry is replaced
abbrev pub IfReplaces : Way → Type 0 → Type 0
IfReplaces Before holds = Unit {0}
IfReplaces (Over kept) holds = holds

-- the items after the first one
abbrev pub without_first : List Item → List Item
without_first [] = []
without_first (i ∷ is) = is

-- the items that come after the entry that was put
abbrev pub behind_way : Way → List Item → List Item
behind_way Before is = is
behind_way (Over kept) is = end_items kept ++ without_first is
