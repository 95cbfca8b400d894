-- Blanks as the code has them: spans of a buffer.
use Rattle.std.specs.Prelude.{ℕ, ◌+◌, Bool, true, false, List, [], ◌∷◌, length, Option, Some, None}
use Rattle.gitconf_items.specs.declared.event.Span.{Span}
use Rattle.gitconf_items.specs.declared.entry.Assigned.TheVariants as forms
use Rattle.gitconf_items.specs.declared.items.Item.{Item}
use Rattle.gitconf_items.specs.declared.items.Item.TheVariants as items
use Rattle.gitconf_state.specs.Edit as state

-- the blanks of a body without entries
abbrev pub default_blanks : state.Spacing
default_blanks = record { leading = Some (9 ∷ []); before = 32 ∷ []; behind = 32 ∷ [] }

-- how many bytes there are, if any
abbrev pub option_bytes : Option (List ℕ) → ℕ
option_bytes None = 0
option_bytes (Some run) = length run

-- how many bytes the blanks of an editor have
abbrev pub spacing_bytes : state.Spacing → ℕ
spacing_bytes s = option_bytes s.leading + length s.before + length s.behind

-- an item, by its spans, is an entry
abbrev pub is_stored_entry : Item → Bool
is_stored_entry (items.Entry e) = true
is_stored_entry _ = false

-- the span of the blanks directly before the first entry; `last`: that of the blanks directly before these items
abbrev pub leading_span : (last : Option Span) → List Item → Option Span
leading_span last [] = None
leading_span last (items.Blanks run ∷ is) = leading_span (Some run) is
leading_span last (items.LineEnds run ∷ is) = leading_span None is
leading_span last (items.Comment tag text ∷ is) = leading_span None is
leading_span last (items.Entry e ∷ is) = last

-- a span of no bytes
abbrev pub nothing : Span
nothing = record { start = 0; len = 0 }

-- the spans of the blanks around the first `=`
abbrev pub separator_spans : List Item → Span × Span
separator_spans [] = (nothing, nothing)
separator_spans (items.Entry e ∷ is) = elim e.assigned [
  | forms.Nothing ↦ separator_spans is
  | forms.Plain blanks value ↦ (e.blanks, blanks)
  | forms.Continued c ↦ (e.blanks, c.blanks)
]
separator_spans (items.Blanks run ∷ is) = separator_spans is
separator_spans (items.LineEnds run ∷ is) = separator_spans is
separator_spans (items.Comment tag text ∷ is) = separator_spans is

-- an item of blanks, if there are any
abbrev pub leading_items : Option Span → List Item
leading_items None = []
leading_items (Some run) = items.Blanks run ∷ []
