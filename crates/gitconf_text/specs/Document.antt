-- Documents, and the text of one.
use Rattle.std.specs.Prelude.{◌≡◌, ℕ, nat_eq, List, [], ◌∷◌, drop, Option, if◌then◌else◌}
use Rattle.std.specs.Option.{option_map}
use Rattle.std.specs.List.{starts_with}
use Rattle.gitconf_text.specs.Value.{raw_of}
use Rattle.gitconf_text.specs.Header.{name_of, subsection_of}
use Rattle.gitconf_text.specs.Part.{Assigned, Entry, Item, BlanksItem, LineEndsItem, CommentItem, EntryItem, Part, ItemPart, HeaderPart, spelled, AreFit}

-- a value name as spelled, and the raw text of its value, if it has one
pub record DocumentEntry : Type 0 where
  pub name : List ℕ
  pub raw : Option (List ℕ)

-- a section: its name as spelled, its decoded subsection, if there is one, and its entries in order
pub record DocumentSection : Type 0 where
  pub name : List ℕ
  pub subsection : Option (List ℕ)
  pub entries : List DocumentEntry

-- the entries before the first header, and the sections
pub record Document : Type 0 where
  pub front : List DocumentEntry
  pub sections : List DocumentSection

-- the entry of a document that an entry of a text makes: its name, and the raw text of its value, if it has one
abbrev pub document_entry : Entry → DocumentEntry
document_entry e = record { name = e.name; raw = option_map (λ (a : Assigned). raw_of a.value) e.assigned }

-- an item put before the document of what follows it: only entries are kept
abbrev pub with_item : Item → Document → Document
with_item (BlanksItem run) d = d
with_item (LineEndsItem run) d = d
with_item (CommentItem tag text) d = d
with_item (EntryItem e) d = record { front = document_entry e ∷ d.front; sections = d.sections }

-- a header takes the entries that follow it up to the next header
abbrev pub with_part : Part → Document → Document
with_part (ItemPart i) d = with_item i d
with_part (HeaderPart h) d = record {
  front = [];
  sections = (record { name = name_of h; subsection = subsection_of h; entries = d.front }) ∷ d.sections;
}

-- the document of these parts
abbrev pub gathered : List Part → Document
gathered [] = record { front = []; sections = [] }
gathered (p ∷ parts) = with_part p (gathered parts)

-- the byte order mark of UTF-8, which may come before a text
abbrev pub byte_mark : List ℕ
byte_mark = 239 ∷ 187 ∷ 191 ∷ []

-- the text without its mark
abbrev pub unmarked : List ℕ → List ℕ
unmarked text = if starts_with nat_eq text byte_mark then drop 3 text else text

-- the text, without its mark, is spelled by these parts, each of which fits before what follows it
pub record IsText (text : List ℕ) (parts : List Part) : Type 0 where
  pub spelled_is : unmarked text ≡ spelled parts
  pub fits : AreFit parts []

-- the text has this document: it is made of parts that have it
abbrev pub Reads : (text : List ℕ) → Document → Type 0
Reads text document = (parts : List Part) × IsText text parts × (document ≡ gathered parts)
