-- Worked rows: what the definitions of edits say of single states, by computation.
use Prim.Native.String.{String}
use Rattle.std.proofs.Common.{◌≡◌, List, [], ◌∷◌, true, Some, None, refl, codes}
use Rattle.gitconf_text.specs.Value.{Piece}
use Rattle.gitconf_text.specs.Header.{Header, PlainHeader, DottedHeader, QuotedHeader}
use Rattle.gitconf_text.specs.Part.{Item, BlanksItem, LineEndsItem, CommentItem, EntryItem}
use Rattle.gitconf_sources.specs.Metadata.{api_meta}
use Rattle.gitconf_state.specs.State.{SectionState, State}
use Rattle.gitconf_state.specs.Printing.{printed}
use Rattle.gitconf_state.specs.Edit.{replaced_value}
use Rattle.gitconf_state.specs.Edits.{Edit, SetRawValue, apply, apply_all}

abbrev blanks : String → Item
blanks run = BlanksItem (codes run)

abbrev line_ends : String → Item
line_ends run = LineEndsItem (codes run)

-- a comment with the tag `#`
abbrev comment : String → Item
comment text = CommentItem 35 (codes text)

abbrev piece : (text line_end : String) → Piece
piece text line_end = record { text = codes text; line_end = codes line_end }

-- an entry without `=`
abbrev alone : (name behind : String) → Item
alone name behind = EntryItem (record { name = codes name; blanks = codes behind; assigned = None })

abbrev pieces_valued : (name before behind : String) → List Piece → (last : String) → Item
pieces_valued name before behind pieces last =
    EntryItem (record { name = codes name; blanks = codes before; assigned = Some (record { blanks = codes behind; value = record { pieces = pieces; last = codes last } }) })

abbrev valued : (name before behind last : String) → Item
valued name before behind last = pieces_valued name before behind [] last

abbrev section : Header → List Item → SectionState
section header items = record { number = 0; header = header; meta = api_meta; items = items; held = [] }

abbrev file : List SectionState → State
file sections = record { front = []; meta = api_meta; next = 9; used = 0; sections = sections }

-- an entry of a section without a subsection is set
abbrev set : (name key value : String) → Edit
set name key value = SetRawValue (codes name) None (codes key) (λ _. true) (codes value)

abbrev set_in : (name subsection key value : String) → Edit
set_in name subsection key value = SetRawValue (codes name) (Some (codes subsection)) (codes key) (λ _. true) (codes value)

-- an entry without `=` gets one
key_alone : printed (apply (set "a" "k" "v") (file (section (PlainHeader (codes "a")) (line_ends "\n" ∷ alone "k" "" ∷ line_ends "\n" ∷ []) ∷ []))) ≡ codes "[a]\nk=v\n"
key_alone = refl

-- its blanks give way to those of the body
key_before_a_comment : printed (apply (set "a" "k" "v") (file (section (PlainHeader (codes "a")) (line_ends "\n" ∷ blanks " " ∷ alone "k" " " ∷ comment " c" ∷ line_ends "\n" ∷ []) ∷ []))) ≡ codes "[a]\n k=v# c\n"
key_before_a_comment = refl

key_beside_a_value : printed (apply (set "a" "k" "v") (file (section (PlainHeader (codes "a")) (line_ends "\n" ∷ alone "k" "" ∷ line_ends "\n" ∷ valued "l" " " " " "1" ∷ line_ends "\n" ∷ []) ∷ [])))
    ≡ codes "[a]\nk = v\nl = 1\n"
key_beside_a_value = refl

-- blanks around `=`, and a comment, stay
value_changes : printed (apply (set "a" "k" "w") (file (section (PlainHeader (codes "a")) (line_ends "\n" ∷ blanks "\t" ∷ valued "K" "" "  " "v" ∷ blanks " " ∷ comment " c" ∷ line_ends "\n" ∷ []) ∷ [])))
    ≡ codes "[a]\n\tK=  w # c\n"
value_changes = refl

-- the last entry of the last section
last_entry_changes : printed (apply (set "a" "k" "w") (file (section (PlainHeader (codes "a")) (line_ends "\n" ∷ valued "k" "" "" "1" ∷ line_ends "\n" ∷ [])
    ∷ section (PlainHeader (codes "A")) (line_ends "\n" ∷ valued "k" "" "" "2" ∷ line_ends "\n" ∷ valued "k" "" "" "3" ∷ line_ends "\n" ∷ []) ∷ [])))
    ≡ codes "[a]\nk=1\n[A]\nk=2\nk=w\n"
last_entry_changes = refl

-- the last section of the name, though only one before it has the key
last_section_changes : printed (apply (set "a" "k" "w") (file (section (PlainHeader (codes "a")) (line_ends "\n" ∷ valued "k" "" "" "1" ∷ line_ends "\n" ∷ [])
    ∷ section (PlainHeader (codes "a")) (line_ends "\n" ∷ []) ∷ [])))
    ≡ codes "[a]\nk=1\n[a]\n\tk = w\n"
last_section_changes = refl

-- a value that continues is put on one line
pieces_change : printed (apply (set "a" "k" "w") (file (section (PlainHeader (codes "a")) (line_ends "\n" ∷ pieces_valued "k" " " " " (piece "x" "\n" ∷ []) "y" ∷ line_ends "\n" ∷ []) ∷ []))) ≡ codes "[a]\nk = w\n"
pieces_change = refl

-- a new entry is spaced as the body is
new_entry_is_spaced : printed (apply (set "a" "l" "w") (file (section (PlainHeader (codes "a")) (line_ends "\n" ∷ blanks "  " ∷ valued "k" "" "" "1" ∷ line_ends "\n" ∷ []) ∷ []))) ≡ codes "[a]\n  k=1\n  l=w\n"
new_entry_is_spaced = refl

-- after an entry without a line ending
new_entry_on_a_line : printed (apply (set "a" "l" "w") (file (section (PlainHeader (codes "a")) (blanks " " ∷ valued "k" " " " " "v" ∷ []) ∷ []))) ≡ codes "[a]\n k = v \nl = w\n"
new_entry_on_a_line = refl

new_section_behind : printed (apply (set "b" "k" "w") (file (section (PlainHeader (codes "a")) (blanks " " ∷ valued "k" " " " " "v" ∷ []) ∷ []))) ≡ codes "[a]\n k = v\n[b]\n\tk = w\n"
new_section_behind = refl

new_section_alone : printed (apply (set "a" "k" "w") (file [])) ≡ codes "[a]\n\tk = w\n"
new_section_alone = refl

new_subsection : printed (apply (set_in "a" "B \"c\\" "k" "w") (file [])) ≡ codes "[a \"B \\\"c\\\\\"]\n\tk = w\n"
new_subsection = refl

-- the subsection of a dotted header is in lower case
dotted_header : printed (apply (set_in "a" "b" "k" "w") (file (section (DottedHeader (codes "a") (codes "B")) (line_ends "\n" ∷ []) ∷ []))) ≡ codes "[a.B]\n\tk = w\n"
dotted_header = refl

quoted_header : printed (apply (set_in "a" "b" "k" "w") (file (section (QuotedHeader (codes "a") (codes " ") (codes "B")) (line_ends "\n" ∷ []) ∷ []))) ≡ codes "[a \"B\"]\n[a \"b\"]\n\tk = w\n"
quoted_header = refl

-- the file's line ending
new_section_with_carriage_return : printed (apply (set "b" "k" "w") (file (section (PlainHeader (codes "a")) (line_ends "\r\n" ∷ []) ∷ []))) ≡ codes "[a]\r\n[b]\r\n\tk = w\r\n"
new_section_with_carriage_return = refl

-- quotes and escapes
value_in_quotes : printed (apply (set "a" "k" " x;\n") (file [])) ≡ codes "[a]\n\tk = \" x;\\n\"\n"
value_in_quotes = refl

empty_value : printed (apply (set "a" "k" "") (file [])) ≡ codes "[a]\n\tk = \n"
empty_value = refl

-- two edits, one after the other
two_edits : printed (apply_all (set "a" "k" "1" ∷ set "a" "K" "2" ∷ []) (file [])) ≡ codes "[a]\n\tk = 2\n"
two_edits = refl

-- what was there
replaced : replaced_value (codes "a") None (codes "k") (λ _. true) (file (section (PlainHeader (codes "a")) (line_ends "\n" ∷ pieces_valued "k" " " " " (piece "x" "\n" ∷ []) "\"y\"" ∷ []) ∷ [])) ≡ Some (codes "x\"y\"")
replaced = refl

replaced_empty : replaced_value (codes "a") None (codes "k") (λ _. true) (file (section (PlainHeader (codes "a")) (line_ends "\n" ∷ alone "k" "" ∷ []) ∷ [])) ≡ Some []
replaced_empty = refl

replaced_nothing : replaced_value (codes "a") None (codes "k") (λ _. true) (file []) ≡ None
replaced_nothing = refl
