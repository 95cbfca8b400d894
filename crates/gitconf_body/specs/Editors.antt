-- Editors as the code has them: their blanks are spans of the buffer that they edit, or bytes that are put there.
use Rattle.std.specs.Prelude.{ℕ, ◌+◌, List, [], ◌∷◌, length, filter, Option, Some, None, if◌then◌else◌}
use Rattle.std.specs.List.{last_or, list_any}
use Rattle.gitconf_text.specs.Value.{escaped}
use Rattle.gitconf_text.specs.Part as parts
use Rattle.gitconf_items.specs.declared.event.Span.{Span}
use Rattle.gitconf_items.specs.declared.entry.Assigned.TheVariants as forms
use Rattle.gitconf_items.specs.declared.entry.EntryParts.{EntryParts as Entry}
use Rattle.gitconf_items.specs.declared.items.Item.{Item}
use Rattle.gitconf_items.specs.declared.items.Item.TheVariants as items
use Rattle.gitconf_items.specs.Events.{bytes_of, SpanFits}
use Rattle.gitconf_state.specs.State.{is_entry}
use Rattle.gitconf_state.specs.Edit.{is_entry_of}
use Rattle.gitconf_state.specs.Edit as state
use Rattle.gitconf_state.specs.Editors as states
use Rattle.gitconf_state.specs.Editors.{comment_text}
use Rattle.gitconf_text.specs.LineEnds.{bytes_of_line_end}
use Rattle.gitconf_body.specs.declared.editor.Editor.{Editor}
use Rattle.gitconf_body.specs.declared.editor.Leading.{Leading}
use Rattle.gitconf_body.specs.declared.editor.Leading.TheVariants as leadings
use Rattle.gitconf_body.specs.declared.editor.Around.{Around}
use Rattle.gitconf_body.specs.declared.editor.Around.TheVariants as arounds

-- the blanks before a key, if there are any
abbrev pub leading_in : (buffer : List ℕ) → Leading → Option (List ℕ)
leading_in buffer leadings.Nothing = None
leading_in buffer (leadings.Stored run) = Some (bytes_of buffer run)
leading_in buffer (leadings.Given bytes) = Some bytes.now

-- blanks before a key that are at a span are within a buffer of this many bytes
abbrev pub LeadingFits : (limit : ℕ) → Leading → Type 0
LeadingFits limit leadings.Nothing = Unit {0}
LeadingFits limit (leadings.Stored run) = SpanFits limit run
LeadingFits limit (leadings.Given bytes) = Unit {0}

-- the blanks at a span, if there is one
abbrev pub stored_leading : Option Span → Leading
stored_leading None = leadings.Nothing
stored_leading (Some run) = leadings.Stored run

-- the blanks before and after `=`
abbrev pub around_in : (buffer : List ℕ) → Around → List ℕ × List ℕ
around_in buffer arounds.Spaces = (32 ∷ [], 32 ∷ [])
around_in buffer (arounds.Stored before behind) = (bytes_of buffer before, bytes_of buffer behind)
around_in buffer (arounds.Given before behind) = (before.now, behind.now)

-- blanks around `=` that are at spans are within a buffer of this many bytes
abbrev pub AroundFits : (limit : ℕ) → Around → Type 0
AroundFits limit arounds.Spaces = Unit {0}
AroundFits limit (arounds.Stored before behind) = SpanFits limit before × SpanFits limit behind
AroundFits limit (arounds.Given before behind) = Unit {0}

-- the blanks of an editor
abbrev pub spacing_in : (buffer : List ℕ) → Editor → state.Spacing
spacing_in buffer e = record { leading = leading_in buffer e.leading; before = (around_in buffer e.around).0; behind = (around_in buffer e.around).1 }

-- the editor that the code's editor is in this buffer
abbrev pub editor_in : (buffer : List ℕ) → Editor → states.Editor
editor_in buffer e = record { spacing = spacing_in buffer e; line_end = bytes_of_line_end e.line_end; ends = e.ends }

-- the blanks of an editor are within a buffer of that many bytes
abbrev pub EditorFits : (limit : ℕ) → Editor → Type 0
EditorFits limit e = LeadingFits limit e.leading × AroundFits limit e.around

-- How many bytes an editor adds to the buffer for the blanks before a key: none for blanks that are there already.
abbrev pub leading_put : Leading → ℕ
leading_put leadings.Nothing = 0
leading_put (leadings.Stored run) = 0
leading_put (leadings.Given bytes) = length bytes.now

-- how many bytes it adds for the blanks around `=`: a space that is used on both sides is added once
abbrev pub around_put : Around → ℕ
around_put arounds.Spaces = 1
around_put (arounds.Stored before behind) = 0
around_put (arounds.Given before behind) = length before.now + length behind.now

-- how many bytes a body's own editor adds for the blanks around `=`: a space if the body has no entry
abbrev pub around_bytes : List parts.Item → ℕ
around_bytes items = if list_any is_entry items then 0 else 1

-- how many bytes it adds for a value, with the blanks around its `=`
abbrev pub value_put : Around → (value : Option (List ℕ)) → ℕ
value_put around None = 0
value_put around (Some value) = around_put around + length (escaped value)

-- how many bytes it adds for a comment, with the space before it; its `#` is in no buffer
abbrev pub comment_put : (comment : Option (List ℕ)) → ℕ
comment_put None = 0
comment_put (Some text) = 1 + length (comment_text text)

-- how many bytes it adds for the line ending after what is pushed
abbrev pub end_put : Editor → ℕ
end_put e = if e.ends then length (bytes_of_line_end e.line_end) else 0

-- how many bytes it adds for a line that is pushed
abbrev pub line_put : Editor → (key : List ℕ) → (value comment : Option (List ℕ)) → ℕ
line_put e key value comment = leading_put e.leading + (length key + (value_put e.around value + (comment_put comment + end_put e)))

-- the blanks around the `=` of an entry that gets a value: its own, or those of the editor
abbrev pub separator_in : (buffer : List ℕ) → Around → Entry → List ℕ × List ℕ
separator_in buffer around entry = elim entry.assigned [
  | forms.Nothing ↦ around_in buffer around
  | forms.Plain blanks value ↦ (bytes_of buffer entry.blanks, bytes_of buffer blanks)
  | forms.Continued c ↦ (bytes_of buffer entry.blanks, bytes_of buffer c.blanks)
]

-- how many bytes it adds for the blanks around the `=` of an entry that gets a value: none if the entry has `=`
abbrev pub separator_put : Around → Entry → ℕ
separator_put around entry = elim entry.assigned [ forms.Nothing ↦ around_put around | forms.Plain blanks value ↦ 0 | forms.Continued c ↦ 0 ]

-- what holds of an item's entry, if the item is one
abbrev pub IfEntry : Item → (Entry → Type 0) → Type 0
IfEntry (items.Entry e) holds = holds e
IfEntry (items.Blanks run) holds = Unit {0}
IfEntry (items.LineEnds run) holds = Unit {0}
IfEntry (items.Comment tag text) holds = Unit {0}

-- how many bytes it adds for the value that an entry gets
abbrev pub changed_put : Around → (value : List ℕ) → parts.Item → ℕ
changed_put around value (parts.EntryItem entry) = elim entry.assigned [
  | Some a ↦ length (escaped value)
  | None ↦ around_put around + length (escaped value)
]
changed_put around value i = 0

-- how many bytes it adds for a value that is set: in the key's last entry, or with a line that is pushed
abbrev pub set_put : Editor → (key value : List ℕ) → List parts.Item → ℕ
set_put e key value items = elim (last_or None (filter (is_entry_of key) items)) [
  | None ↦ line_put e key (Some value) None
  | Some i ↦ changed_put e.around value i
]
