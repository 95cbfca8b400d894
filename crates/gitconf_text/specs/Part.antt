-- The parts of a text: items (runs of blanks, runs of line endings, comments, entries) and headers.
-- A part fits only before what may follow it, so runs are as long as they can be.
use Rattle.std.specs.Prelude.{◌≡◌, ◌<◌, ℕ, Bool, true, false, not, List, [], ◌∷◌, ◌++◌, ◌==◌, ◌&&◌, ◌||◌, length, flat_map, Option, Some, None}
use Rattle.std.specs.List.{list_all}
use Rattle.gitconf_text.specs.Bytes.{is_blank, is_name_byte}
use Rattle.gitconf_text.specs.Text.{begins, ends, begins_line_end, are_line_ends}
use Rattle.gitconf_text.specs.Unit.{is_mark}
use Rattle.gitconf_text.specs.Value.{Value, spelled_value, FitsValue}
use Rattle.gitconf_text.specs.Names.{is_value_name}
use Rattle.gitconf_text.specs.Header.{Header, spelled_header, FitsHeader}

-- what follows `=`: blanks, and a value
pub record Assigned : Type 0 where
  pub blanks : List ℕ
  pub value : Value

-- a value name, the blanks after it, and what is assigned, if anything
pub record Entry : Type 0 where
  pub name : List ℕ
  pub blanks : List ℕ
  pub assigned : Option Assigned

-- an item: a run of spaces and tabs, a run of line endings, a comment with its mark (`;` or `#`) and its text, or an entry
pub data Item : Type 0 where
  BlanksItem : (run : List ℕ) → Item
  LineEndsItem : (run : List ℕ) → Item
  CommentItem : (tag : ℕ) (text : List ℕ) → Item
  EntryItem : Entry → Item

-- a part of a text: an item, or a section's header
pub data Part : Type 0 where
  ItemPart : Item → Part
  HeaderPart : Header → Part

-- the bytes of an assignment: `=`, its blanks and its value; none for a name without a value
abbrev pub spelled_assigned : Option Assigned → List ℕ
spelled_assigned None = []
spelled_assigned (Some a) = 61 ∷ (a.blanks ++ spelled_value a.value)

-- the bytes of an item
abbrev pub spelled_item : Item → List ℕ
spelled_item (BlanksItem run) = run
spelled_item (LineEndsItem run) = run
spelled_item (CommentItem tag text) = tag ∷ text
spelled_item (EntryItem e) = e.name ++ (e.blanks ++ spelled_assigned e.assigned)

-- the bytes of a part
abbrev pub spelled_part : Part → List ℕ
spelled_part (ItemPart i) = spelled_item i
spelled_part (HeaderPart h) = spelled_header h

-- the bytes of these parts, one after the other
abbrev pub spelled : List Part → List ℕ
spelled parts = flat_map spelled_part parts

-- A comment ends with the input, before CR and LF, or before LF where its own last byte is no CR.
abbrev pub ends_comment : (text rest : List ℕ) → Bool
ends_comment text [] = true
ends_comment text (b ∷ rest) = b == 13 && begins (λ c. c == 10) rest || b == 10 && not (ends (λ c. c == 13) text)

-- Without a value neither a name byte, a blank nor `=` follows.
abbrev pub FitsAssigned : (blanks : List ℕ) → Option Assigned → (rest : List ℕ) → Type 0
FitsAssigned blanks None rest =
    (begins is_name_byte (blanks ++ rest) ≡ false) × (begins is_blank rest ≡ false) × (begins (λ b. b == 61) rest ≡ false)
FitsAssigned blanks (Some a) rest = (list_all is_blank a.blanks ≡ true) × FitsValue a.value rest

-- the item may come before rest
abbrev pub FitsItem : Item → (rest : List ℕ) → Type 0
FitsItem (BlanksItem run) rest = (0 < length run) × (list_all is_blank run ≡ true) × (begins is_blank rest ≡ false)
FitsItem (LineEndsItem run) rest = (0 < length run) × (are_line_ends run ≡ true) × (begins_line_end rest ≡ false)
FitsItem (CommentItem tag text) rest =
    (is_mark tag ≡ true) × (list_all (λ b. not (b == 10)) text ≡ true) × (ends_comment text rest ≡ true)
FitsItem (EntryItem e) rest =
    (is_value_name e.name ≡ true) × (list_all is_blank e.blanks ≡ true) × FitsAssigned e.blanks e.assigned rest

-- the part may come before rest; what follows a header is free
abbrev pub FitsPart : Part → (rest : List ℕ) → Type 0
FitsPart (ItemPart i) rest = FitsItem i rest
FitsPart (HeaderPart h) rest = FitsHeader h

-- each part may come before what follows it, and rest after them all
abbrev pub AreFit : List Part → (rest : List ℕ) → Type 0
AreFit [] rest = Unit {0}
AreFit (p ∷ parts) rest = FitsPart p (spelled parts ++ rest) × AreFit parts rest
