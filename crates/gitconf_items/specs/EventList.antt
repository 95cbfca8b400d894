-- The events of a text, and those that a filter keeps.
use Rattle.std.specs.Prelude.{◌≡◌, ◌⊎◌, ℕ, ◌^◌, ◌<◌, Bool, true, false, not, ◌||◌, ◌&&◌, List, [], ◌∷◌, length, map, filter}
use Rattle.std.specs.List.{list_all, AllByRecursion}
use Rattle.gitconf_text.specs.Part.{Part}
use Rattle.gitconf_text.specs.Document.{IsText}
use Rattle.gitconf_text.specs.Token.{Token, HeaderToken, NameToken, ValueToken, ValueNotDoneToken, ValueDoneToken, SeparatorToken, tokens_of}
use Rattle.gitconf_items.specs.declared.event.Event.{Event}
use Rattle.gitconf_items.specs.EventRef.{Shown}
use Rattle.gitconf_items.specs.Events.{token_of}
use Rattle.gitconf_items.specs.ShownEvents.{shown_token, IsShown}

-- the tokens that were kept, whether all names, separators and values were, and how many bytes the text has
pub record EventList : Type 0 where
  pub tokens : List Token
  pub keeps_entries : Bool
  pub used : ℕ

-- the token is a section's header
abbrev pub is_header_token : Token → Bool
is_header_token (HeaderToken h) = true
is_header_token _ = false

-- a name, a separator, or a value or a piece of one
abbrev pub is_entry_token : Token → Bool
is_entry_token (NameToken bytes) = true
is_entry_token (ValueToken bytes) = true
is_entry_token (ValueNotDoneToken bytes) = true
is_entry_token (ValueDoneToken bytes) = true
is_entry_token SeparatorToken = true
is_entry_token _ = false

-- a header is kept, and any other token where the filter keeps what it shows
abbrev pub keeps_token : (Shown → Bool) → Token → Bool
keeps_token p t = is_header_token t || p (shown_token t)

-- the token is no part of an entry, or is kept
abbrev pub keeps_entry_token : (Shown → Bool) → Token → Bool
keeps_entry_token p t = not (is_entry_token t) || keeps_token p t

-- the input has a document, and the list has the tokens that the filter keeps of it
pub record IsParsed (p : Shown → Bool) (input : List ℕ) (list : EventList) : Type 0 where
  pub parts : List Part
  pub text : IsText input parts
  pub tokens : list.tokens ≡ filter (keeps_token p) (tokens_of parts)
  pub entries : list.keeps_entries ≡ list_all (keeps_entry_token p) (tokens_of parts)
  pub used : list.used ≡ length input

-- the input has a document, and the list has all its tokens
pub record IsWhole (input : List ℕ) (list : EventList) : Type 0 where
  pub parts : List Part
  pub text : IsText input parts
  pub tokens : list.tokens ≡ tokens_of parts
  pub entries : list.keeps_entries ≡ true
  pub used : list.used ≡ length input

-- the list has the tokens that the filter keeps of another
pub record IsFiltered (p : Shown → Bool) (all list : EventList) : Type 0 where
  pub tokens : list.tokens ≡ filter (keeps_token p) all.tokens
  pub entries : list.keeps_entries ≡ list_all (keeps_entry_token p) all.tokens
  pub used : list.used ≡ all.used

-- the same, of events whose spans are offsets of a buffer
pub record IsKept (p : Shown → Bool) (buffer : List ℕ) (all kept : List Event) (entries : Bool) : Type 0 where
  pub tokens : map (token_of buffer) kept ≡ filter (keeps_token p) (map (token_of buffer) all)
  pub entries_are : entries ≡ list_all (keeps_entry_token p) (map (token_of buffer) all)

-- a token that may be missing: not a header, and, where the entries are kept, not a part of one
abbrev pub may_miss : (entries : Bool) → Token → Bool
may_miss entries t = not (is_header_token t) && not (entries && is_entry_token t)

-- The tokens are some of all of them, in order, and only those are missing that may be.
abbrev pub IsSelection : (entries : Bool) → (all tokens : List Token) → Type 0
IsSelection entries [] tokens = tokens ≡ []
IsSelection entries (t ∷ all) tokens =
    ((rest : List Token) × (tokens ≡ t ∷ rest) × IsSelection entries all rest)
    ⊎ ((may_miss entries t ≡ true) × IsSelection entries all tokens)

-- The input has a document, and the list has some of its tokens, whatever a filter returned: all headers, and, where it keeps
-- the entries, all that make them.
pub record IsSelected (input : List ℕ) (list : EventList) : Type 0 where
  pub parts : List Part
  pub text : IsText input parts
  pub tokens : IsSelection list.keeps_entries (tokens_of parts) list.tokens
  pub used : list.used ≡ length input

-- what an `Events` keeps: each event is shown as its token is, and their tokens are those of the text, or some of them
pub record EventsFit (buffer copies : List ℕ) (events : List Event) (entries : Bool) : Type 0 where
  pub room : length buffer < 2 ^ 32
  pub shown : AllByRecursion (IsShown buffer copies) events
  pub selected : IsSelected buffer (record { tokens = map (token_of buffer) events; keeps_entries = entries; used = length buffer })
