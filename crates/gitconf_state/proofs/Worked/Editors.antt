-- Worked rows: what the definitions of editors and of whole sections say of single states, by computation.
use Prim.Native.String.{String}
use Rattle.std.proofs.Common.{◌≡◌, ℕ, List, [], ◌∷◌, true, false, Some, None, length, refl, codes}
use Rattle.std.specs.Prelude.{map}
use Rattle.gitconf_text.specs.Value.{Piece}
use Rattle.gitconf_text.specs.Header.{Header, PlainHeader, DottedHeader, QuotedHeader}
use Rattle.gitconf_text.specs.Part.{Item, BlanksItem, LineEndsItem, CommentItem, EntryItem}
use Rattle.gitconf_sources.specs.Metadata.{api_meta}
use Rattle.gitconf_sources.specs.declared.source.Trust.TheVariants.{Reduced}
use Rattle.gitconf_state.specs.State.{SectionState, State, cut_last}
use Rattle.gitconf_state.specs.Printing.{printed}
use Rattle.gitconf_state.specs.Edit.{is_entry_of}
use Rattle.gitconf_state.specs.Editors.{Editor, OfNothing, OfEntry, OfEntryButLineEnd, editor_of}
use Rattle.gitconf_state.specs.Edits.{Detached, Edit, Push, PushAfterLast, PushLineEnd, SetValue, Remove, RemoveMarked, Pop, WriteAt, DeleteAt, Rename, RenameAll, NewSection, PushSection, RemoveSection, RemoveNumbered, Append, SetTrust, SetMeta, Raw, Entry, Number, Count, answer, apply, apply_all, numbered}

abbrev blanks : String → Item
blanks run = BlanksItem (codes run)

abbrev line_ends : String → Item
line_ends run = LineEndsItem (codes run)

-- comments with the tags `#` and `;`
abbrev comment : String → Item
comment text = CommentItem 35 (codes text)

abbrev note : String → Item
note text = CommentItem 59 (codes text)

abbrev piece : (text line_end : String) → Piece
piece text line_end = record { text = codes text; line_end = codes line_end }

-- an entry without `=`
abbrev alone : (name behind : String) → Item
alone name behind = EntryItem (record { name = codes name; blanks = codes behind; assigned = None })

abbrev pieces_valued : (name before behind : String) → List Piece → (last : String) → Item
pieces_valued name before behind pieces last =
    EntryItem (record { name = codes name; blanks = codes before; assigned = Some (record { blanks = codes behind; value = record { pieces = pieces; last = codes last } }) })

abbrev valued : (name before behind last : String) → Item
valued name before behind last = pieces_valued name before behind [] last

abbrev section : ℕ → Header → List Item → SectionState
section number header items = record { number = number; header = header; meta = api_meta; items = items; held = [] }

abbrev file : List Item → (next : ℕ) → List SectionState → State
file front next sections = record { front = front; meta = api_meta; next = next; used = 0; sections = sections }

abbrev detached : ℕ → Header → List Item → Detached
detached number header items = record { section = section number header items; used = 0 }

-- edits by one editor of the section of a number
abbrev edited : (number : ℕ) → List (Editor → Edit) → State → State
edited number edits state = elim (numbered number state) [ None ↦ state | Some s ↦ apply_all (map (λ (make : Editor → Edit). make (editor_of state s)) edits) state ]

-- an editor that puts no line endings after what is pushed
abbrev quiet : Editor → Editor
quiet e = record { spacing = e.spacing; line_end = e.line_end; ends = false }

-- the place of the key's last entry
abbrev place_of : (number : ℕ) → (key : List ℕ) → State → ℕ
place_of number key state = elim (numbered number state) [
  | None ↦ 0
  | Some s ↦ elim (cut_last (is_entry_of key) s.items) [ None ↦ 0 | Some c ↦ length c.0 ]
]

-- the key's last entry is rewritten by an editor that is made for it; the last line ending of its value may stay
abbrev write : (number : ℕ) → (key value : List ℕ) → State → State
write number key value state = edited number ((λ e. WriteAt number e (place_of number key state) OfEntryButLineEnd key value) ∷ []) state

abbrev write_plainly : (number : ℕ) → (key value : List ℕ) → State → State
write_plainly number key value state = edited number ((λ e. WriteAt number e (place_of number key state) OfEntry key value) ∷ []) state

abbrev delete : (number : ℕ) → (key : List ℕ) → State → State
delete number key state = apply (DeleteAt number (place_of number key state)) state

-- it is deleted and then written, by one editor
abbrev rewritten : (number : ℕ) → (key value : List ℕ) → State → State
rewritten number key value state =
    edited number ((λ e. DeleteAt number (place_of number key state)) ∷ (λ e. WriteAt number e (place_of number key state) OfNothing key value) ∷ []) state

-- pushed lines
push_in_an_empty_body : printed (edited 0 ((λ e. Push 0 e (codes "k") (Some (codes "v")) None) ∷ []) (file ([]) 1 (section 0 (PlainHeader (codes "a")) (line_ends "\n" ∷ []) ∷ []))) ≡ codes "[a]\n\tk = v\n"
push_in_an_empty_body = refl

push_behind_a_comment : printed (edited 0 ((λ e. Push 0 e (codes "k") (Some (codes "v")) None) ∷ []) (file ([]) 1 (section 0 (PlainHeader (codes "a")) (line_ends "\n" ∷ comment " note" ∷ []) ∷ []))) ≡ codes "[a]\n# note\t\nk = v\n"
push_behind_a_comment = refl

push_behind_a_value : printed (edited 0 ((λ e. Push 0 e (codes "j") (Some (codes "w")) None) ∷ []) (file ([]) 1 (section 0 (PlainHeader (codes "a")) (line_ends "\n" ∷ valued "k" " " " " "v" ∷ []) ∷ []))) ≡ codes "[a]\nk = v\nj = w\n"
push_behind_a_value = refl

push_behind_an_open_value : printed (edited 0 ((λ e. Push 0 e (codes "j") (Some (codes "w")) None) ∷ []) (file ([]) 1 (section 0 (PlainHeader (codes "a")) (line_ends "\n" ∷ pieces_valued "k" " " " " (piece "x" "\n" ∷ []) "" ∷ []) ∷ []))) ≡ codes "[a]\nk = x\\\n\nj = w\n"
push_behind_an_open_value = refl

push_behind_a_name : printed (edited 0 ((λ e. Push 0 e (codes "j") (Some (codes "w")) None) ∷ []) (file ([]) 1 (section 0 (PlainHeader (codes "a")) (line_ends "\n" ∷ alone "k" "" ∷ []) ∷ []))) ≡ codes "[a]\nk\nj=w\n"
push_behind_a_name = refl

push_in_a_header_line : printed (edited 0 ((λ e. Push 0 e (codes "k") (Some (codes " v ")) None) ∷ []) (file ([]) 1 (section 0 (PlainHeader (codes "a")) ([]) ∷ []))) ≡ codes "[a]\n\tk = \" v \"\n"
push_in_a_header_line = refl

push_of_carriage_returns : printed (edited 0 ((λ e. Push 0 e (codes "x") (Some (codes "y")) None) ∷ []) (file ([]) 1 (section 0 (PlainHeader (codes "a")) (line_ends "\r\n" ∷ valued "k" " " " " "v" ∷ line_ends "\r\n" ∷ []) ∷ []))) ≡ codes "[a]\r\nk = v\r\nx = y\r\n"
push_of_carriage_returns = refl

push_of_names_and_line_ends : printed (edited 0 ((λ e. Push 0 e (codes "j") (Some (codes "2")) None) ∷ (λ e. PushLineEnd 0 e) ∷ (λ e. Push 0 e (codes "l") None None) ∷ []) (file ([]) 1 (section 0 (PlainHeader (codes "a")) (line_ends "\r\n" ∷ valued "k" "" "" "1" ∷ []) ∷ []))) ≡ codes "[a]\r\nk=1\r\nj=2\r\n\r\nl\r\n"
push_of_names_and_line_ends = refl

push_keeps_the_order_of_blanks : printed (edited 0 ((λ e. Push 0 e (codes "j") (Some (codes "w")) None) ∷ []) (file ([]) 1 (section 0 (PlainHeader (codes "a")) (line_ends "\n" ∷ valued "k" "\t" " " "v" ∷ line_ends "\n" ∷ []) ∷ []))) ≡ codes "[a]\nk\t= v\nj\t= w\n"
push_keeps_the_order_of_blanks = refl

-- lines that are pushed below the last entry
push_below_an_entry : printed (edited 0 ((λ e. PushAfterLast 0 e (codes "j") (Some (codes "w"))) ∷ []) (file ([]) 1 (section 0 (PlainHeader (codes "a")) (line_ends "\n" ∷ blanks "\t" ∷ valued "k" " " " " "1" ∷ blanks " " ∷ comment " c" ∷ line_ends "\n\n" ∷ comment " b" ∷ line_ends "\n" ∷ []) ∷ []))) ≡ codes "[a]\n\tk = 1 # c\n\tj = w\n\n# b\n"
push_below_an_entry = refl

push_below_a_header : printed (edited 0 ((λ e. PushAfterLast 0 e (codes "j") (Some (codes "w"))) ∷ []) (file ([]) 1 (section 0 (PlainHeader (codes "a")) (line_ends "\n\n" ∷ comment " b" ∷ line_ends "\n" ∷ []) ∷ []))) ≡ codes "[a]\n\tj = w\n\n# b\n"
push_below_a_header = refl

push_below_a_header_in_no_line : printed (edited 0 ((λ e. PushAfterLast 0 e (codes "j") (Some (codes "w"))) ∷ []) (file ([]) 1 (section 0 (PlainHeader (codes "a")) ([]) ∷ []))) ≡ codes "[a]\n\tj = w\n"
push_below_a_header_in_no_line = refl

push_below_a_line_without_an_end : printed (edited 0 ((λ e. PushAfterLast 0 e (codes "j") (Some (codes "w"))) ∷ []) (file ([]) 1 (section 0 (PlainHeader (codes "a")) (line_ends "\n" ∷ valued "k" " " " " "v" ∷ []) ∷ []))) ≡ codes "[a]\nk = v\nj = w\n"
push_below_a_line_without_an_end = refl

push_below_carriage_returns : printed (edited 0 ((λ e. PushAfterLast 0 e (codes "j") (Some (codes "w"))) ∷ []) (file ([]) 1 (section 0 (PlainHeader (codes "a")) (line_ends "\r\n" ∷ valued "k" "" "" "1" ∷ line_ends "\r\n\r\n" ∷ comment " b" ∷ line_ends "\r\n" ∷ []) ∷ []))) ≡ codes "[a]\r\nk=1\r\nj=w\r\n\r\n# b\r\n"
push_below_carriage_returns = refl

push_below_pieces : printed (edited 0 ((λ e. PushAfterLast 0 e (codes "j") (Some (codes "w"))) ∷ []) (file ([]) 1 (section 0 (PlainHeader (codes "a")) (line_ends "\n" ∷ pieces_valued "k" " " " " (piece "x" "\n" ∷ []) " y" ∷ line_ends "\n" ∷ comment " b" ∷ line_ends "\n" ∷ []) ∷ []))) ≡ codes "[a]\nk = x\\\n y\nj = w\n# b\n"
push_below_pieces = refl

push_below_without_a_value : printed (edited 0 ((λ e. PushAfterLast 0 e (codes "j") (None)) ∷ []) (file ([]) 1 (section 0 (PlainHeader (codes "a")) (line_ends "\n" ∷ alone "k" "" ∷ line_ends "\n" ∷ comment " b" ∷ line_ends "\n" ∷ []) ∷ []))) ≡ codes "[a]\nk\nj\n# b\n"
push_below_without_a_value = refl

-- an editor keeps the blanks of when it was made
an_editor_keeps_its_blanks : printed (edited 0 ((λ e. Push 0 e (codes "k") None None) ∷ (λ e. SetValue 0 e (codes "j") (codes "w")) ∷ []) (file ([]) 1 (section 0 (PlainHeader (codes "a")) (line_ends "\n" ∷ []) ∷ []))) ≡ codes "[a]\n\tk\n\tj = w\n"
an_editor_keeps_its_blanks = refl

an_editor_keeps_them_behind_a_pop : printed (edited 0 ((λ e. Pop 0) ∷ (λ e. SetValue 0 e (codes "j") (codes "w")) ∷ []) (file ([]) 1 (section 0 (PlainHeader (codes "a")) (line_ends "\n" ∷ valued "k" "" "" "1" ∷ line_ends "\n" ∷ []) ∷ []))) ≡ codes "[a]\nj=w\n"
an_editor_keeps_them_behind_a_pop = refl

a_new_editor_takes_those_of_the_body : printed (edited 0 ((λ e. Push 0 e (codes "j") (Some (codes "2")) None) ∷ []) (file ([]) 1 (section 0 (PlainHeader (codes "a")) (line_ends "\n" ∷ valued "k" "" "" "1" ∷ line_ends "\n" ∷ []) ∷ []))) ≡ codes "[a]\nk=1\nj=2\n"
a_new_editor_takes_those_of_the_body = refl

-- comments after what is pushed
comment_in_two_lines : printed (edited 0 ((λ e. Push 0 e (codes "k") None (Some (codes "x\ny"))) ∷ []) (file ([]) 1 (section 0 (PlainHeader (codes "a")) (line_ends "\n" ∷ []) ∷ []))) ≡ codes "[a]\n\tk # x y\n"
comment_in_two_lines = refl

comments_of_all_kinds : printed (edited 0 ((λ e. Push 0 e (codes "k") (Some (codes "v")) (Some (codes ""))) ∷ (λ e. Push 0 e (codes "j") (Some (codes "v;")) (Some (codes " c"))) ∷ (λ e. Push 0 e (codes "l") None (Some (codes "\nc"))) ∷ (λ e. Push 0 e (codes "l") None (Some (codes "a\r"))) ∷ []) (file ([]) 1 (section 0 (PlainHeader (codes "a")) (line_ends "\n" ∷ []) ∷ []))) ≡ codes "[a]\n\tk = v #\n\tj = \"v;\" # c\n\tl # c\n\tl # a\r\n"
comments_of_all_kinds = refl

comment_without_a_line_end : printed (edited 0 ((λ e. Push 0 (quiet e) (codes "k") (Some (codes "v")) (Some (codes "y"))) ∷ []) (file ([]) 1 (section 0 (PlainHeader (codes "a")) (line_ends "\n" ∷ comment " x" ∷ []) ∷ []))) ≡ codes "[a]\n# x\t\nk = v # y\n"
comment_without_a_line_end = refl

without_line_ends : printed (edited 0 ((λ e. Push 0 (quiet e) (codes "k") (Some (codes "v")) None) ∷ (λ e. Push 0 (quiet e) (codes "j") (Some (codes "w")) None) ∷ []) (file ([]) 1 (section 0 (PlainHeader (codes "a")) (line_ends "\n" ∷ []) ∷ []))) ≡ codes "[a]\n\tk = v\t\nj = w\n"
without_line_ends = refl

-- values that are set
set_a_name : printed (edited 0 ((λ e. SetValue 0 e (codes "k") (codes "v")) ∷ []) (file ([]) 1 (section 0 (PlainHeader (codes "a")) (line_ends "\n" ∷ alone "k" "" ∷ line_ends "\n" ∷ []) ∷ []))) ≡ codes "[a]\nk=v\n"
set_a_name = refl

set_a_name_before_a_name : printed (edited 0 ((λ e. SetValue 0 e (codes "k") (codes "v")) ∷ []) (file ([]) 1 (section 0 (PlainHeader (codes "a")) (blanks " " ∷ alone "k" "  " ∷ valued "j" "" "" "1" ∷ []) ∷ []))) ≡ codes "[a]\n k=v\nj=1\n"
set_a_name_before_a_name = refl

set_a_name_before_a_comment : printed (edited 0 ((λ e. SetValue 0 e (codes "k") (codes "v")) ∷ []) (file ([]) 1 (section 0 (PlainHeader (codes "a")) (line_ends "\n" ∷ blanks "\t" ∷ alone "k" " " ∷ comment " c" ∷ line_ends "\n" ∷ []) ∷ []))) ≡ codes "[a]\n\tk=v# c\n"
set_a_name_before_a_comment = refl

set_a_name_behind_a_value : printed (edited 0 ((λ e. SetValue 0 e (codes "k") (codes "v")) ∷ []) (file ([]) 1 (section 0 (PlainHeader (codes "a")) (line_ends "\n" ∷ valued "j" " " " " "1" ∷ line_ends "\n" ∷ alone "k" "" ∷ line_ends "\n" ∷ []) ∷ []))) ≡ codes "[a]\nj = 1\nk = v\n"
set_a_name_behind_a_value = refl

set_the_last : printed (edited 0 ((λ e. SetValue 0 e (codes "K") (codes "x y ")) ∷ []) (file ([]) 1 (section 0 (PlainHeader (codes "a")) (line_ends "\n" ∷ valued "k" " " " " "v" ∷ blanks " " ∷ comment " c" ∷ line_ends "\n" ∷ valued "k" " " " " "w" ∷ blanks " " ∷ note " d" ∷ line_ends "\n" ∷ []) ∷ []))) ≡ codes "[a]\nk = v # c\nk = \"x y \" ; d\n"
set_the_last = refl

set_pieces : printed (edited 0 ((λ e. SetValue 0 e (codes "k") (codes "y")) ∷ []) (file ([]) 1 (section 0 (PlainHeader (codes "a")) (line_ends "\n" ∷ pieces_valued "k" " " " " (piece "x" "\n" ∷ []) "" ∷ comment " c" ∷ line_ends "\n" ∷ []) ∷ []))) ≡ codes "[a]\nk = y# c\n"
set_pieces = refl

set_none : printed (edited 0 ((λ e. SetValue 0 e (codes "n") (codes "1")) ∷ []) (file ([]) 1 (section 0 (PlainHeader (codes "a")) (line_ends "\n" ∷ valued "k" " " " " "v" ∷ blanks " " ∷ comment " c" ∷ line_ends "\n" ∷ []) ∷ []))) ≡ codes "[a]\nk = v # c\nn = 1\n"
set_none = refl

-- entries that are removed
remove_between : printed (edited 0 ((λ e. Remove 0 (codes "k")) ∷ []) (file ([]) 1 (section 0 (PlainHeader (codes "a")) (line_ends "\n" ∷ blanks "\t" ∷ valued "k" " " " " "v" ∷ line_ends "\n" ∷ blanks "\t" ∷ valued "j" " " " " "w" ∷ line_ends "\n" ∷ []) ∷ []))) ≡ codes "[a]\n\tj = w\n"
remove_between = refl

remove_before_a_comment : printed (edited 0 ((λ e. Remove 0 (codes "k")) ∷ []) (file ([]) 1 (section 0 (PlainHeader (codes "a")) (line_ends "\n" ∷ blanks "\t" ∷ valued "k" " " " " "v" ∷ blanks " " ∷ comment " c" ∷ line_ends "\n" ∷ []) ∷ []))) ≡ codes "[a]\n # c\n"
remove_before_a_comment = refl

remove_pieces : printed (edited 0 ((λ e. Remove 0 (codes "k")) ∷ []) (file ([]) 1 (section 0 (PlainHeader (codes "a")) (line_ends "\n" ∷ blanks " " ∷ pieces_valued "k" " " " " (piece "x" "\n" ∷ []) " y" ∷ line_ends "\n" ∷ blanks " " ∷ valued "j" "" "" "1" ∷ line_ends "\n" ∷ []) ∷ []))) ≡ codes "[a]\n j=1\n"
remove_pieces = refl

remove_line_ends : printed (edited 0 ((λ e. Remove 0 (codes "k")) ∷ []) (file ([]) 1 (section 0 (PlainHeader (codes "a")) (line_ends "\n" ∷ alone "k" "" ∷ line_ends "\n\n\n" ∷ valued "j" "" "" "1" ∷ line_ends "\n" ∷ []) ∷ []))) ≡ codes "[a]\nj=1\n"
remove_line_ends = refl

remove_before_a_name : printed (edited 0 ((λ e. Remove 0 (codes "k")) ∷ []) (file ([]) 1 (section 0 (PlainHeader (codes "a")) (blanks " " ∷ alone "k" "  " ∷ valued "j" "" "" "1" ∷ []) ∷ []))) ≡ codes "[a]\nj=1\n"
remove_before_a_name = refl

remove_the_last : printed (edited 0 ((λ e. Remove 0 (codes "K")) ∷ []) (file ([]) 1 (section 0 (PlainHeader (codes "a")) (line_ends "\n" ∷ valued "k" "" "" "1" ∷ line_ends "\n" ∷ valued "k" "" "" "2" ∷ line_ends "\n" ∷ valued "k" "" "" "3" ∷ line_ends "\n" ∷ []) ∷ []))) ≡ codes "[a]\nk=1\nk=2\n"
remove_the_last = refl

remove_all : printed (edited 0 ((λ e. Remove 0 (codes "k")) ∷ (λ e. Remove 0 (codes "k")) ∷ (λ e. Remove 0 (codes "k")) ∷ []) (file ([]) 1 (section 0 (PlainHeader (codes "a")) (line_ends "\n" ∷ valued "k" "" "" "1" ∷ line_ends "\n" ∷ valued "k" "" "" "2" ∷ line_ends "\n" ∷ []) ∷ []))) ≡ codes "[a]\n"
remove_all = refl

-- entries that are marked
remove_marked_first_and_last : printed (edited 0 ((λ e. RemoveMarked 0 (codes "k") (true ∷ false ∷ true ∷ [])) ∷ []) (file ([]) 1 (section 0 (PlainHeader (codes "a")) (line_ends "\n" ∷ blanks "\t" ∷ valued "k" " " " " "1" ∷ line_ends "\n" ∷ blanks "\t" ∷ valued "j" " " " " "x" ∷ line_ends "\n" ∷ blanks "\t" ∷ valued "K" " " " " "2" ∷ blanks " " ∷ comment " c" ∷ line_ends "\n" ∷ blanks "\t" ∷ valued "k" " " " " "3" ∷ line_ends "\n" ∷ []) ∷ []))) ≡ codes "[a]\n\tj = x\n\tK = 2 # c\n"
remove_marked_first_and_last = refl

remove_marked_all : printed (edited 0 ((λ e. RemoveMarked 0 (codes "k") (true ∷ true ∷ true ∷ [])) ∷ []) (file ([]) 1 (section 0 (PlainHeader (codes "a")) (line_ends "\n" ∷ blanks "\t" ∷ valued "k" " " " " "1" ∷ line_ends "\n" ∷ blanks "\t" ∷ valued "j" " " " " "x" ∷ line_ends "\n" ∷ blanks "\t" ∷ valued "K" " " " " "2" ∷ blanks " " ∷ comment " c" ∷ line_ends "\n" ∷ blanks "\t" ∷ valued "k" " " " " "3" ∷ line_ends "\n" ∷ []) ∷ []))) ≡ codes "[a]\n\tj = x\n # c\n"
remove_marked_all = refl

remove_marked_with_few_marks : printed (edited 0 ((λ e. RemoveMarked 0 (codes "k") (true ∷ [])) ∷ []) (file ([]) 1 (section 0 (PlainHeader (codes "a")) (line_ends "\n" ∷ blanks "\t" ∷ valued "k" " " " " "1" ∷ line_ends "\n" ∷ blanks "\t" ∷ valued "j" " " " " "x" ∷ line_ends "\n" ∷ blanks "\t" ∷ valued "K" " " " " "2" ∷ blanks " " ∷ comment " c" ∷ line_ends "\n" ∷ blanks "\t" ∷ valued "k" " " " " "3" ∷ line_ends "\n" ∷ []) ∷ []))) ≡ codes "[a]\n\tj = x\n\tK = 2 # c\n\tk = 3\n"
remove_marked_with_few_marks = refl

remove_marked_with_no_marks : printed (edited 0 ((λ e. RemoveMarked 0 (codes "k") ([])) ∷ []) (file ([]) 1 (section 0 (PlainHeader (codes "a")) (line_ends "\n" ∷ blanks "\t" ∷ valued "k" " " " " "1" ∷ line_ends "\n" ∷ blanks "\t" ∷ valued "j" " " " " "x" ∷ line_ends "\n" ∷ blanks "\t" ∷ valued "K" " " " " "2" ∷ blanks " " ∷ comment " c" ∷ line_ends "\n" ∷ blanks "\t" ∷ valued "k" " " " " "3" ∷ line_ends "\n" ∷ []) ∷ []))) ≡ codes "[a]\n\tk = 1\n\tj = x\n\tK = 2 # c\n\tk = 3\n"
remove_marked_with_no_marks = refl

remove_marked_with_more_marks : printed (edited 0 ((λ e. RemoveMarked 0 (codes "k") (false ∷ false ∷ false ∷ true ∷ [])) ∷ []) (file ([]) 1 (section 0 (PlainHeader (codes "a")) (line_ends "\n" ∷ blanks "\t" ∷ valued "k" " " " " "1" ∷ line_ends "\n" ∷ blanks "\t" ∷ valued "j" " " " " "x" ∷ line_ends "\n" ∷ blanks "\t" ∷ valued "K" " " " " "2" ∷ blanks " " ∷ comment " c" ∷ line_ends "\n" ∷ blanks "\t" ∷ valued "k" " " " " "3" ∷ line_ends "\n" ∷ []) ∷ []))) ≡ codes "[a]\n\tk = 1\n\tj = x\n\tK = 2 # c\n\tk = 3\n"
remove_marked_with_more_marks = refl

-- one mark, for the last entry, does what `Remove` does
remove_marked_as_remove : apply (RemoveMarked 0 (codes "k") (false ∷ false ∷ true ∷ [])) (file ([]) 1 (section 0 (PlainHeader (codes "a")) (line_ends "\n" ∷ blanks "\t" ∷ valued "k" " " " " "1" ∷ line_ends "\n" ∷ blanks "\t" ∷ valued "j" " " " " "x" ∷ line_ends "\n" ∷ blanks "\t" ∷ valued "K" " " " " "2" ∷ blanks " " ∷ comment " c" ∷ line_ends "\n" ∷ blanks "\t" ∷ valued "k" " " " " "3" ∷ line_ends "\n" ∷ []) ∷ [])) ≡ apply (Remove 0 (codes "k")) (file ([]) 1 (section 0 (PlainHeader (codes "a")) (line_ends "\n" ∷ blanks "\t" ∷ valued "k" " " " " "1" ∷ line_ends "\n" ∷ blanks "\t" ∷ valued "j" " " " " "x" ∷ line_ends "\n" ∷ blanks "\t" ∷ valued "K" " " " " "2" ∷ blanks " " ∷ comment " c" ∷ line_ends "\n" ∷ blanks "\t" ∷ valued "k" " " " " "3" ∷ line_ends "\n" ∷ []) ∷ []))
remove_marked_as_remove = refl

remove_marked_tells_how_many : answer (RemoveMarked 0 (codes "k") (true ∷ false ∷ true ∷ [])) (file ([]) 1 (section 0 (PlainHeader (codes "a")) (line_ends "\n" ∷ blanks "\t" ∷ valued "k" " " " " "1" ∷ line_ends "\n" ∷ blanks "\t" ∷ valued "j" " " " " "x" ∷ line_ends "\n" ∷ blanks "\t" ∷ valued "K" " " " " "2" ∷ blanks " " ∷ comment " c" ∷ line_ends "\n" ∷ blanks "\t" ∷ valued "k" " " " " "3" ∷ line_ends "\n" ∷ []) ∷ [])) ≡ Count 2
remove_marked_tells_how_many = refl

remove_marked_in_one_line : printed (edited 0 ((λ e. RemoveMarked 0 (codes "k") (true ∷ true ∷ [])) ∷ []) (file ([]) 1 (section 0 (PlainHeader (codes "a")) (line_ends "\n" ∷ blanks " " ∷ alone "k" " " ∷ alone "k" "" ∷ line_ends "\n\n" ∷ comment " c" ∷ line_ends "\n" ∷ []) ∷ []))) ≡ codes "[a]\n# c\n"
remove_marked_in_one_line = refl

-- entries that are popped
pop_a_comment : printed (edited 0 ((λ e. Pop 0) ∷ []) (file ([]) 1 (section 0 (PlainHeader (codes "a")) (line_ends "\n" ∷ blanks "\t" ∷ valued "k" " " " " "v" ∷ blanks " " ∷ comment " c" ∷ line_ends "\n" ∷ []) ∷ []))) ≡ codes "[a]\n"
pop_a_comment = refl

pop_keeps_what_is_before : printed (edited 0 ((λ e. Pop 0) ∷ []) (file ([]) 1 (section 0 (PlainHeader (codes "a")) (blanks " " ∷ comment " h" ∷ line_ends "\n" ∷ blanks "\t" ∷ comment " c" ∷ line_ends "\n" ∷ blanks "\t" ∷ valued "k" " " " " "v" ∷ line_ends "\n" ∷ []) ∷ []))) ≡ codes "[a] # h\n\t# c\n"
pop_keeps_what_is_before = refl

pop_two : printed (edited 0 ((λ e. Pop 0) ∷ (λ e. Pop 0) ∷ []) (file ([]) 1 (section 0 (PlainHeader (codes "a")) (line_ends "\n" ∷ valued "k" "" "" "1" ∷ line_ends "\n" ∷ blanks "  " ∷ pieces_valued "j" " " " " (piece "x" "\n" ∷ []) " y" ∷ blanks " " ∷ comment " c" ∷ line_ends "\n\n" ∷ alone "l" "" ∷ line_ends "\n" ∷ []) ∷ []))) ≡ codes "[a]\nk=1\n"
pop_two = refl

pop_without_entries : printed (edited 0 ((λ e. Pop 0) ∷ []) (file ([]) 1 (section 0 (PlainHeader (codes "a")) (line_ends "\n" ∷ comment " c" ∷ line_ends "\n" ∷ []) ∷ []))) ≡ codes "[a]\n"
pop_without_entries = refl

-- values written at their place
write_a_name : printed (write 0 (codes "k") (codes "v") (file ([]) 1 (section 0 (PlainHeader (codes "a")) (line_ends "\n" ∷ blanks " " ∷ alone "k" " " ∷ line_ends "\n" ∷ valued "j" " " " " "1" ∷ line_ends "\n" ∷ []) ∷ []))) ≡ codes "[a]\n k = v\nj = 1\n"
write_a_name = refl

write_takes_the_blanks_of_the_body : printed (write 0 (codes "k") (codes "w") (file ([]) 1 (section 0 (PlainHeader (codes "a")) (line_ends "\n" ∷ valued "j" "" "" "1" ∷ line_ends "\n" ∷ valued "k" " " " " "2" ∷ line_ends "\n" ∷ []) ∷ []))) ≡ codes "[a]\nj=1\nk=w\n"
write_takes_the_blanks_of_the_body = refl

write_before_a_comment : printed (write 0 (codes "k") (codes "y") (file ([]) 1 (section 0 (PlainHeader (codes "a")) (line_ends "\n" ∷ pieces_valued "k" " " " " (piece "x" "\n" ∷ []) "" ∷ comment " c" ∷ line_ends "\n" ∷ []) ∷ []))) ≡ codes "[a]\nk = y\n# c\n"
write_before_a_comment = refl

write_before_blanks_and_a_comment : printed (write 0 (codes "k") (codes "y") (file ([]) 1 (section 0 (PlainHeader (codes "a")) (line_ends "\n" ∷ pieces_valued "k" " " " " (piece "x" "\n" ∷ []) "" ∷ blanks "  " ∷ comment " c" ∷ line_ends "\n" ∷ []) ∷ []))) ≡ codes "[a]\nk = y\n  # c\n"
write_before_blanks_and_a_comment = refl

-- a filter dropped the last line ending of the value, and not the one before it
write_before_a_comment_with_a_dropped_line_end : printed (write 0 (codes "k") (codes "v") (file ([]) 1 (section 0 (PlainHeader (codes "a")) (line_ends "\n" ∷ pieces_valued "k" " " " " (piece "x" "\n" ∷ piece "" "" ∷ []) "" ∷ comment " c" ∷ line_ends "\n" ∷ []) ∷ []))) ≡ codes "[a]\nk = v\n# c\n"
write_before_a_comment_with_a_dropped_line_end = refl

write_carriage_returns_before_a_comment : printed (write 0 (codes "k") (codes "y") (file ([]) 1 (section 0 (PlainHeader (codes "a")) (line_ends "\n" ∷ pieces_valued "k" " " " " (piece "x" "\r\n" ∷ []) "" ∷ note "c" ∷ []) ∷ []))) ≡ codes "[a]\nk = y\r\n;c\n"
write_carriage_returns_before_a_comment = refl

write_pieces : printed (write 0 (codes "k") (codes "z") (file ([]) 1 (section 0 (PlainHeader (codes "a")) (line_ends "\n" ∷ pieces_valued "k" " " " " (piece "x" "\n" ∷ []) " y" ∷ blanks " " ∷ comment " c" ∷ line_ends "\n" ∷ []) ∷ []))) ≡ codes "[a]\nk = z # c\n"
write_pieces = refl

write_an_open_value : printed (write 0 (codes "k") (codes "y") (file ([]) 1 (section 0 (PlainHeader (codes "a")) (line_ends "\n" ∷ pieces_valued "k" " " " " (piece "x" "\n" ∷ []) "" ∷ line_ends "\n" ∷ valued "j" "" "" "1" ∷ line_ends "\n" ∷ []) ∷ []))) ≡ codes "[a]\nk = y\nj=1\n"
write_an_open_value = refl

write_spells_the_key : printed (write 0 (codes "KEY") (codes "3") (file ([]) 1 (section 0 (PlainHeader (codes "a")) (line_ends "\n" ∷ valued "Key" " " " " "1" ∷ line_ends "\n" ∷ valued "key" " " " " "2" ∷ line_ends "\n" ∷ []) ∷ []))) ≡ codes "[a]\nKey = 1\nKEY = 3\n"
write_spells_the_key = refl

write_without_a_kept_line_end : printed (write_plainly 0 (codes "k") (codes "y") (file ([]) 1 (section 0 (PlainHeader (codes "a")) (line_ends "\n" ∷ pieces_valued "k" " " " " (piece "x" "\n" ∷ []) "" ∷ comment " c" ∷ line_ends "\n" ∷ []) ∷ []))) ≡ codes "[a]\nk = y# c\n"
write_without_a_kept_line_end = refl

-- entries that are deleted
delete_alone : printed (delete 0 (codes "j") (file ([]) 1 (section 0 (PlainHeader (codes "a")) (line_ends "\n" ∷ blanks " " ∷ alone "k" " " ∷ line_ends "\n" ∷ valued "j" " " " " "1" ∷ line_ends "\n" ∷ []) ∷ []))) ≡ codes "[a]\n k \n\n"
delete_alone = refl

delete_between_blanks : printed (delete 0 (codes "k") (file ([]) 1 (section 0 (PlainHeader (codes "a")) (line_ends "\n" ∷ comment " x" ∷ line_ends "\n" ∷ valued "k" " " " " "v" ∷ blanks " " ∷ comment " y" ∷ line_ends "\n" ∷ []) ∷ []))) ≡ codes "[a]\n# x\n # y\n"
delete_between_blanks = refl

delete_and_write : printed (rewritten 0 (codes "j") (codes "2") (file ([]) 1 (section 0 (PlainHeader (codes "a")) (line_ends "\n" ∷ blanks " " ∷ alone "k" " " ∷ line_ends "\n" ∷ valued "j" " " " " "1" ∷ line_ends "\n" ∷ []) ∷ []))) ≡ codes "[a]\n k \nj = 2\n"
delete_and_write = refl

delete_and_write_before_a_comment : printed (rewritten 0 (codes "k") (codes "4") (file ([]) 1 (section 0 (PlainHeader (codes "a")) (line_ends "\n" ∷ blanks " " ∷ valued "k" " " " " "1" ∷ blanks " " ∷ comment " c" ∷ line_ends "\n" ∷ []) ∷ []))) ≡ codes "[a]\n k = 4 # c\n"
delete_and_write_before_a_comment = refl

-- sections that are renamed
rename_one : printed (apply (Rename 0 (codes "c") (Some (codes "d\"e"))) (file ([]) 1 (section 0 (DottedHeader (codes "a") (codes "b")) (line_ends "\n" ∷ valued "k" "" "" "1" ∷ line_ends "\n" ∷ []) ∷ []))) ≡ codes "[c \"d\\\"e\"]\nk=1\n"
rename_one = refl

rename_all : printed (apply (RenameAll (codes "a") None (λ _. true) (codes "b") (Some (codes "s"))) (file ([]) 2 (section 0 (PlainHeader (codes "a")) (line_ends "\n" ∷ valued "k" "" "" "1" ∷ line_ends "\n" ∷ []) ∷ section 1 (PlainHeader (codes "A")) (line_ends "\n" ∷ valued "k" "" "" "2" ∷ line_ends "\n" ∷ []) ∷ []))) ≡ codes "[b \"s\"]\nk=1\n[b \"s\"]\nk=2\n"
rename_all = refl

rename_those_of_the_subsection : printed (apply (RenameAll (codes "A") (Some (codes "x")) (λ _. true) (codes "b") None) (file ([]) 3 (section 0 (PlainHeader (codes "a")) (line_ends "\n" ∷ []) ∷ section 1 (QuotedHeader (codes "a") (codes " ") (codes "x")) (line_ends "\n" ∷ []) ∷ section 2 (QuotedHeader (codes "a") (codes " ") (codes "X")) (line_ends "\n" ∷ []) ∷ []))) ≡ codes "[a]\n[b]\n[a \"X\"]\n"
rename_those_of_the_subsection = refl

-- new sections
new_in_an_empty_file : printed (apply (NewSection [] None) (file ([]) 0 ([]))) ≡ codes "[]\n"
new_in_an_empty_file = refl

new_behind_a_comment : printed (apply (NewSection (codes "b") None) (file ([]) 1 (section 0 (PlainHeader (codes "a")) (line_ends "\n" ∷ comment " n" ∷ []) ∷ []))) ≡ codes "[a]\n# n\n[b]\n"
new_behind_a_comment = refl

new_behind_a_blank_comment : printed (apply (NewSection (codes "b") None) (file ([]) 1 (section 0 (PlainHeader (codes "a")) (line_ends "\n" ∷ comment "" ∷ []) ∷ []))) ≡ codes "[a]\n#\n[b]\n"
new_behind_a_blank_comment = refl

new_behind_a_comment_of_a_value : printed (apply (NewSection (codes "b") None) (file ([]) 1 (section 0 (PlainHeader (codes "a")) (line_ends "\n" ∷ valued "k" " " " " "v" ∷ blanks " " ∷ comment " n" ∷ []) ∷ []))) ≡ codes "[a]\nk = v # n\n[b]\n"
new_behind_a_comment_of_a_value = refl

new_behind_a_open_value : printed (apply (NewSection (codes "b") None) (file ([]) 1 (section 0 (PlainHeader (codes "a")) (line_ends "\n" ∷ pieces_valued "k" " " " " (piece "x" "" ∷ []) "" ∷ []) ∷ []))) ≡ codes "[a]\nk = x\\\n\n[b]\n"
new_behind_a_open_value = refl

new_behind_a_open_line : printed (apply (NewSection (codes "b") None) (file ([]) 1 (section 0 (PlainHeader (codes "a")) (line_ends "\n" ∷ pieces_valued "k" " " " " (piece "x" "\n" ∷ []) "" ∷ []) ∷ []))) ≡ codes "[a]\nk = x\\\n\n[b]\n"
new_behind_a_open_line = refl

-- sections that are pushed, and removed
push_a_section : printed (apply (PushSection (detached 7 (PlainHeader (codes "a")) (blanks "\t" ∷ valued "k" " " " " "v" ∷ []))) (file ([]) 1 (section 0 (PlainHeader (codes "a")) (line_ends "\n" ∷ []) ∷ []))) ≡ codes "[a]\n[a]\n\tk = v\n"
push_a_section = refl

push_a_quoted_section : printed (apply (PushSection (detached 0 (QuotedHeader (codes "a") (codes "  ") (codes "b")) [])) (file ([]) 0 ([]))) ≡ codes "[a  \"b\"]\n"
push_a_quoted_section = refl

push_behind_an_open_section : printed (apply (PushSection (detached 0 (PlainHeader (codes "b")) (line_ends "\n" ∷ []))) (file ([]) 1 (section 0 (PlainHeader (codes "a")) (line_ends "\n" ∷ alone "k" "" ∷ []) ∷ []))) ≡ codes "[a]\nk\n[b]\n"
push_behind_an_open_section = refl

remove_the_last_section : printed (apply (RemoveSection (codes "a") None (λ _. true)) (file ([]) 2 (section 0 (PlainHeader (codes "a")) (line_ends "\n" ∷ valued "k" "" "" "1" ∷ line_ends "\n" ∷ []) ∷ section 1 (PlainHeader (codes "a")) (line_ends "\n" ∷ valued "k" "" "" "2" ∷ line_ends "\n" ∷ []) ∷ []))) ≡ codes "[a]\nk=1\n"
remove_the_last_section = refl

remove_no_section : printed (apply (RemoveSection (codes "a") None (λ _. true)) (file ([]) 1 (section 0 (QuotedHeader (codes "a") (codes " ") (codes "x")) (line_ends "\n" ∷ []) ∷ []))) ≡ codes "[a \"x\"]\n"
remove_no_section = refl

remove_by_number : printed (apply (RemoveNumbered 1) (file ([]) 3 (section 0 (PlainHeader (codes "a")) (line_ends "\n" ∷ []) ∷ section 1 (PlainHeader (codes "b")) (line_ends "\n" ∷ []) ∷ section 2 (PlainHeader (codes "c")) (line_ends "\n" ∷ []) ∷ []))) ≡ codes "[a]\n[c]\n"
remove_by_number = refl

remove_by_an_unknown_number : printed (apply (RemoveNumbered 1) (file ([]) 1 (section 0 (PlainHeader (codes "a")) (line_ends "\n" ∷ []) ∷ []))) ≡ codes "[a]\n"
remove_by_an_unknown_number = refl

-- files that are appended
append_a_front : printed (apply (Append (file (comment " c" ∷ line_ends "\n" ∷ []) 1 (section 0 (PlainHeader (codes "b")) (line_ends "\n" ∷ []) ∷ []))) (file ([]) 1 (section 0 (PlainHeader (codes "a")) (line_ends "\n" ∷ valued "k" "" "" "1" ∷ line_ends "\n" ∷ []) ∷ []))) ≡ codes "[a]\nk=1\n# c\n[b]\n"
append_a_front = refl

append_behind_a_blank_comment : printed (apply (Append (file ([]) 1 (section 0 (PlainHeader (codes "b")) (line_ends "\n" ∷ []) ∷ []))) (file ([]) 1 (section 0 (PlainHeader (codes "a")) (line_ends "\n" ∷ comment "" ∷ []) ∷ []))) ≡ codes "[a]\n#\n[b]\n"
append_behind_a_blank_comment = refl

append_behind_an_open_line : printed (apply (Append (file ([]) 1 (section 0 (PlainHeader (codes "b")) (line_ends "\n" ∷ []) ∷ []))) (file ([]) 1 (section 0 (PlainHeader (codes "a")) (line_ends "\n" ∷ pieces_valued "k" " " " " (piece "x" "\n" ∷ []) "" ∷ []) ∷ []))) ≡ codes "[a]\nk = x\\\n\n[b]\n"
append_behind_an_open_line = refl

append_a_comment_behind_a_comment : printed (apply (Append (file (comment " m" ∷ []) 0 ([]))) (file ([]) 1 (section 0 (PlainHeader (codes "a")) (line_ends "\n" ∷ comment " n" ∷ []) ∷ []))) ≡ codes "[a]\n# n\n# m\n"
append_a_comment_behind_a_comment = refl

append_a_comment_behind_a_return : printed (apply (Append (file (comment " m" ∷ []) 0 ([]))) (file ([]) 1 (section 0 (PlainHeader (codes "a")) (line_ends "\n" ∷ comment " n\r" ∷ []) ∷ []))) ≡ codes "[a]\n# n\r\n# m\n"
append_a_comment_behind_a_return = refl

append_fronts : printed (apply (Append (file (comment " y" ∷ []) 0 ([]))) (file (comment " x" ∷ []) 0 ([]))) ≡ codes "# x\n# y"
append_fronts = refl

append_fronts_with_a_line_end : printed (apply (Append (file (comment " y" ∷ line_ends "\n" ∷ []) 1 (section 0 (PlainHeader (codes "b")) (line_ends "\n" ∷ []) ∷ []))) (file (comment " x" ∷ line_ends "\n" ∷ []) 0 ([]))) ≡ codes "# x\n# y\n[b]\n"
append_fronts_with_a_line_end = refl

append_a_front_that_begins_with_a_line_end : printed (apply (Append (file (line_ends "\n" ∷ comment " z" ∷ []) 0 ([]))) (file (comment " x" ∷ []) 0 ([]))) ≡ codes "# x\n# z"
append_a_front_that_begins_with_a_line_end = refl

append_behind_an_open_front : printed (apply (Append (file (comment " z" ∷ []) 0 ([]))) (file (pieces_valued "k" " " " " (piece "x" "\n" ∷ []) "" ∷ []) 0 ([]))) ≡ codes "k = x\\\n\n# z"
append_behind_an_open_front = refl

append_to_an_open_front_a_section : printed (apply (Append (file ([]) 1 (section 0 (PlainHeader (codes "b")) (line_ends "\n" ∷ []) ∷ []))) (file (pieces_valued "k" " " " " (piece "x" "" ∷ []) "" ∷ []) 0 ([]))) ≡ codes "k = x\\\n\n[b]\n"
append_to_an_open_front_a_section = refl

append_twice : printed (apply (Append (file (comment " 2" ∷ line_ends "\n" ∷ []) 0 ([]))) (apply (Append (file (comment " 1" ∷ []) 0 ([]))) (file ([]) 1 (section 0 (PlainHeader (codes "a")) ([]) ∷ [])))) ≡ codes "[a]\n# 1\n# 2\n"
append_twice = refl

append_behind_a_removed_section : printed (apply (Append (file (comment " c" ∷ line_ends "\n" ∷ []) 0 ([]))) (apply (RemoveNumbered 1) (file ([]) 2 (section 0 (PlainHeader (codes "a")) (line_ends "\n" ∷ []) ∷ section 1 (PlainHeader (codes "b")) (line_ends "\n" ∷ []) ∷ [])))) ≡ codes "[a]\n# c\n"
append_behind_a_removed_section = refl

append_to_a_file_that_was_emptied : printed (apply (Append (file (comment " c" ∷ []) 0 ([]))) (apply (RemoveNumbered 0) (file ([]) 1 (section 0 (PlainHeader (codes "a")) (line_ends "\n" ∷ []) ∷ [])))) ≡ codes "# c"
append_to_a_file_that_was_emptied = refl

held_items_go_with_their_section : printed (apply (RemoveNumbered 0) (apply (Append (file (comment " c" ∷ line_ends "\n" ∷ []) 1 (section 0 (PlainHeader (codes "b")) (line_ends "\n" ∷ []) ∷ []))) (file ([]) 1 (section 0 (PlainHeader (codes "a")) (line_ends "\n" ∷ valued "k" "" "" "1" ∷ line_ends "\n" ∷ []) ∷ [])))) ≡ codes "[b]\n"
held_items_go_with_their_section = refl

-- metadata
trust_prints_nothing : printed (apply (SetTrust 0 Reduced) (file ([]) 1 (section 0 (PlainHeader (codes "a")) (line_ends "\n" ∷ []) ∷ []))) ≡ codes "[a]\n"
trust_prints_nothing = refl

metadata_prints_nothing : printed (apply (SetMeta api_meta) (file ([]) 1 (section 0 (PlainHeader (codes "a")) (line_ends "\n" ∷ []) ∷ []))) ≡ codes "[a]\n"
metadata_prints_nothing = refl

-- results
answers : answer (Remove 0 (codes "k")) (file ([]) 1 (section 0 (PlainHeader (codes "a")) (line_ends "\n" ∷ blanks " " ∷ pieces_valued "k" " " " " (piece "x" "\n" ∷ []) " y" ∷ line_ends "\n" ∷ blanks " " ∷ valued "j" "" "" "1" ∷ line_ends "\n" ∷ []) ∷ [])) ≡ Raw (Some (codes "x y"))
answers = refl

answer_of_a_name : answer (Remove 0 (codes "k")) (file ([]) 1 (section 0 (PlainHeader (codes "a")) (line_ends "\n" ∷ alone "k" "" ∷ line_ends "\n" ∷ []) ∷ [])) ≡ Raw (Some [])
answer_of_a_name = refl

answer_of_none : answer (Remove 0 (codes "z")) (file ([]) 1 (section 0 (PlainHeader (codes "a")) (line_ends "\n" ∷ alone "k" "" ∷ line_ends "\n" ∷ []) ∷ [])) ≡ Raw None
answer_of_none = refl

answer_of_a_pop : answer (Pop 0) (file ([]) 1 (section 0 (PlainHeader (codes "a")) (line_ends "\n" ∷ valued "k" "" "" "1" ∷ line_ends "\n" ∷ blanks "  " ∷ pieces_valued "j" " " " " (piece "x" "\n" ∷ []) " y" ∷ blanks " " ∷ comment " c" ∷ line_ends "\n" ∷ []) ∷ [])) ≡ Entry (Some (codes "j", codes "x y"))
answer_of_a_pop = refl

answer_of_a_pop_without_entries : answer (Pop 0) (file ([]) 1 (section 0 (PlainHeader (codes "a")) (line_ends "\n" ∷ comment " c" ∷ line_ends "\n" ∷ []) ∷ [])) ≡ Entry None
answer_of_a_pop_without_entries = refl

answer_of_a_new_section : answer (NewSection (codes "b") None) (file ([]) 1 (section 0 (PlainHeader (codes "a")) (line_ends "\n" ∷ []) ∷ [])) ≡ Number 1
answer_of_a_new_section = refl
