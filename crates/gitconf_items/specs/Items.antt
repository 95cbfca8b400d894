-- Items as the code has them, and what their spans say in a buffer.
use Rattle.std.specs.Prelude.{ℕ, List, [], ◌∷◌, map, flat_map, Option, Some, None}
use Rattle.gitconf_text.specs.Value as grammar
use Rattle.gitconf_text.specs.Part as parts
use Rattle.gitconf_text.specs.Token.{Token, HeaderToken, value_tokens, item_tokens}
use Rattle.gitconf_items.specs.declared.entry.Piece.{Piece}
use Rattle.gitconf_items.specs.declared.entry.Value.{Value}
use Rattle.gitconf_items.specs.declared.entry.Assigned.{Assigned}
use Rattle.gitconf_items.specs.declared.entry.Assigned.TheVariants as assigned
use Rattle.gitconf_items.specs.declared.entry.AssignedRef.{AssignedRef}
use Rattle.gitconf_items.specs.declared.entry.AssignedRef.TheVariants as refs
use Rattle.gitconf_items.specs.declared.entry.EntryParts.{EntryParts}
use Rattle.gitconf_items.specs.declared.event.Header.{Header}
use Rattle.gitconf_items.specs.declared.items.Item.{Item}
use Rattle.gitconf_items.specs.declared.items.Section.{Section}
use Rattle.gitconf_items.specs.declared.items.Item.TheVariants as kinds
use Rattle.gitconf_items.specs.Events.{bytes_of, header_of}

-- what a piece's spans say: its bytes, and its line ending
abbrev pub piece_of : (buffer : List ℕ) → Piece → grammar.Piece
piece_of buffer p = record { text = bytes_of buffer p.text; line_end = bytes_of buffer p.line_end }

-- what a value's spans say: its pieces, and its last one
abbrev pub value_of : (buffer : List ℕ) → Value → grammar.Value
value_of buffer v = record { pieces = map (piece_of buffer) v.pieces.items; last = bytes_of buffer v.last }

-- what is assigned, by the bytes that its spans name; nothing without `=`
abbrev pub assigned_of : (buffer : List ℕ) → Assigned → Option parts.Assigned
assigned_of buffer assigned.Nothing = None
assigned_of buffer (assigned.Plain blanks value) = Some (record { blanks = bytes_of buffer blanks; value = record { pieces = []; last = bytes_of buffer value } })
assigned_of buffer (assigned.Continued c) = Some (record { blanks = bytes_of buffer c.blanks; value = value_of buffer c.value })

-- what a reference to an assigned value refers to
abbrev pub lent : AssignedRef → Assigned
lent refs.Nothing = assigned.Nothing
lent (refs.Plain blanks value) = assigned.Plain blanks value
lent (refs.Continued c) = assigned.Continued c.now

-- the entry that these spans name
abbrev pub entry_of : (buffer : List ℕ) → EntryParts → parts.Entry
entry_of buffer e = record { name = bytes_of buffer e.name; blanks = bytes_of buffer e.blanks; assigned = assigned_of buffer e.assigned }

-- the item that these spans name
abbrev pub item_of : (buffer : List ℕ) → Item → parts.Item
item_of buffer (kinds.Blanks run) = parts.BlanksItem (bytes_of buffer run)
item_of buffer (kinds.LineEnds run) = parts.LineEndsItem (bytes_of buffer run)
item_of buffer (kinds.Comment tag text) = parts.CommentItem tag (bytes_of buffer text)
item_of buffer (kinds.Entry e) = parts.EntryItem (entry_of buffer e)

-- the items that these spans name, in order
abbrev pub items_of : (buffer : List ℕ) → List Item → List parts.Item
items_of buffer items = map (item_of buffer) items

-- the tokens of items, in order
abbrev pub tokens_in : List parts.Item → List Token
tokens_in items = flat_map item_tokens items

-- the tokens of a value: one, or those of its pieces and its last one
abbrev pub tokens_of_value : (buffer : List ℕ) → Value → List Token
tokens_of_value buffer v = value_tokens (map (piece_of buffer) v.pieces.items) (bytes_of buffer v.last)

-- the tokens of items, in order
abbrev pub tokens_of_items : (buffer : List ℕ) → List Item → List Token
tokens_of_items buffer items = flat_map (λ i. item_tokens (item_of buffer i)) items

-- the tokens of a header and of the items after it, in order
abbrev pub headed_tokens : (buffer : List ℕ) → Header → List Item → List Token
headed_tokens buffer header items = HeaderToken (header_of buffer header) ∷ tokens_of_items buffer items

-- the tokens of a section: its header, and then its items
abbrev pub tokens_of_section : (buffer : List ℕ) → Section → List Token
tokens_of_section buffer s = headed_tokens buffer s.header s.items.items
