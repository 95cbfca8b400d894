-- What an iterator over the events of items has left.
use Rattle.std.specs.Prelude.{◌≡◌, ℕ, List, [], ◌∷◌, ◌++◌, map, flat_map}
use Rattle.gitconf_text.specs.Token.{Token, NewlineToken, ValueDoneToken, WhitespaceToken, filled, piece_tokens, value_tokens, assigned_tokens}
use Rattle.gitconf_items.specs.declared.event.Span.{Span}
use Rattle.gitconf_items.specs.declared.event_ref.EventRef.{EventRef}
use Rattle.gitconf_items.specs.declared.entry.Piece.{Piece}
use Rattle.gitconf_items.specs.declared.entry.EntryParts.{EntryParts as Entry}
use Rattle.gitconf_items.specs.Events.{bytes_of}
use Rattle.gitconf_items.specs.EventRef.{Shown, shown}
use Rattle.gitconf_items.specs.Items.{piece_of, assigned_of, items_of, tokens_in}
use Rattle.gitconf_items.specs.ShownEvents.{shown_token}
use Rattle.gitconf_items.specs.declared.events.Place.{Place}
use Rattle.gitconf_items.specs.declared.events.Place.TheVariants as kinds
use Rattle.gitconf_items.specs.declared.events.ItemEvents.{ItemEvents}

-- the tokens of pieces, and of the last one after them
abbrev pub pieces_left : (buffer : List ℕ) → List Piece → (last : Span) → List Token
pieces_left buffer pieces last = flat_map piece_tokens (map (piece_of buffer) pieces) ++ ValueDoneToken (bytes_of buffer last) ∷ []

-- the tokens after an entry's name
abbrev pub named_left : (buffer : List ℕ) → Entry → List Token
named_left buffer e = filled WhitespaceToken (bytes_of buffer e.blanks) ++ assigned_tokens (assigned_of buffer e.assigned)

-- the tokens of a value, in one piece or in several
abbrev pub value_left : (buffer : List ℕ) → List Piece → (last : Span) → List Token
value_left buffer pieces last = value_tokens (map (piece_of buffer) pieces) (bytes_of buffer last)

-- the tokens after the separator
abbrev pub separated_left : (buffer : List ℕ) → (blanks : Span) → List Piece → (last : Span) → List Token
separated_left buffer blanks pieces last = filled WhitespaceToken (bytes_of buffer blanks) ++ value_left buffer pieces last

-- the tokens that are left of the entry that an iterator is in
abbrev pub tokens_left : (buffer : List ℕ) → Place → List Token
tokens_left buffer kinds.Between = []
tokens_left buffer (kinds.BehindName e) = named_left buffer e.now
tokens_left buffer (kinds.BehindNameBlanks e) = assigned_tokens (assigned_of buffer e.now.assigned)
tokens_left buffer (kinds.BehindSeparator blanks pieces last) = separated_left buffer blanks pieces.now last
tokens_left buffer (kinds.BehindSeparatorBlanks pieces last) = value_left buffer pieces.now last
tokens_left buffer (kinds.BehindPiece line_end pieces last) = filled NewlineToken (bytes_of buffer line_end) ++ pieces_left buffer pieces.now last
tokens_left buffer (kinds.BehindPieceEnd pieces last) = pieces_left buffer pieces.now last

-- this event, and then what is left after it, are these tokens
abbrev pub IsFirst : (buffer : List ℕ) → EventRef × Place → List Token → Type 0
IsFirst buffer r tokens = shown r.0 ∷ map shown_token (tokens_left buffer r.1) ≡ map shown_token tokens

-- the events that are left: those of the entry that the iterator is in, and those of the items after it
abbrev pub events_left : ItemEvents → List Shown
events_left it = map shown_token (tokens_left it.buffer.now it.place ++ tokens_in (items_of it.buffer.now it.items.now))
