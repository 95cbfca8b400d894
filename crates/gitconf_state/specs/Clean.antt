-- Clean states: those whose text has their document.
use Rattle.std.specs.Prelude.{◌≡◌, Bool, true, false, not, List, [], ◌∷◌, ◌&&◌, ◌||◌, Some, None, filter}
use Rattle.std.specs.List.{last_or, list_all, list_any, AllByRecursion}
use Rattle.gitconf_text.specs.Bytes.{is_blank}
use Rattle.gitconf_text.specs.Header.{Header, PlainHeader, DottedHeader, QuotedHeader}
use Rattle.gitconf_text.specs.Part.{Item, BlanksItem, EntryItem}
use Rattle.gitconf_state.specs.State.{SectionState, State, is_entry, is_comment}
use Rattle.gitconf_state.specs.Printing.{line_after}

-- an empty name and no subsection
abbrev pub is_nameless : Header → Bool
is_nameless (PlainHeader []) = true
is_nameless (PlainHeader (b ∷ name)) = false
is_nameless (DottedHeader name subsection) = false
is_nameless (QuotedHeader name blanks spelling) = false

-- the blanks of an item are spaces and tabs
abbrev pub has_blanks : Item → Bool
has_blanks (BlanksItem run) = list_all is_blank run
has_blanks _ = true

-- an entry with `=`
abbrev pub has_value : Item → Bool
has_value (EntryItem e) = elim e.assigned [ None ↦ false | Some a ↦ true ]
has_value _ = false

-- the item has bytes
abbrev pub has_bytes : Item → Bool
has_bytes (BlanksItem []) = false
has_bytes i = true

-- an entry that is a name, without blanks or `=`
abbrev pub is_name_alone : Item → Bool
is_name_alone (EntryItem e) = elim e.blanks [ [] ↦ not (has_value (EntryItem e)) | b ∷ blanks ↦ false ]
is_name_alone _ = false

-- the last item that has bytes is a name alone
abbrev pub ends_with_name : List Item → Bool
ends_with_name line = elim (last_or None (filter has_bytes line)) [ None ↦ false | Some i ↦ is_name_alone i ]

-- Whether a name may follow on a line: not after a comment, not after an entry with `=`, and not directly after a name.
abbrev pub may_stand : (line : List Item) → Item → Bool
may_stand line (EntryItem e) = not (list_any (λ i. is_comment i || has_value i) line) && not (ends_with_name line)
may_stand line i = true

-- each name is where it may be; `line`: the items before, since the last line ending
abbrev pub stand_apart : (line : List Item) → List Item → Bool
stand_apart line [] = true
stand_apart line (i ∷ items) = may_stand line i && stand_apart (line_after line i) items

-- The section has a name or a subsection, its blanks are spaces and tabs, and no entry is held after it.
pub record IsCleanSection (s : SectionState) : Type 0 where
  pub named : is_nameless s.header ≡ false
  pub blanks : list_all has_blanks s.items ≡ true
  pub held_blanks : list_all has_blanks s.held ≡ true
  pub held : list_all (λ i. not (is_entry i)) s.held ≡ true

-- The sections are clean, the blanks of the front are spaces and tabs, and in the front no name follows a comment or an entry with `=`
-- without a line ending between, nor an entry without `=` with no byte between.
pub record IsClean (state : State) : Type 0 where
  pub sections : AllByRecursion IsCleanSection state.sections
  pub blanks : list_all has_blanks state.front ≡ true
  pub names : stand_apart [] state.front ≡ true
