-- What single sections include, and where included files are put, by computation.
use Prim.Native.String.{String}
use Rattle.std.proofs.Common.{◌≡◌, ℕ, true, false, List, [], ◌∷◌, Some, None, refl, codes}
use Rattle.std.specs.Prelude.{map}
use Rattle.gitconf_text.specs.Header.{Header, PlainHeader, DottedHeader, QuotedHeader}
use Rattle.gitconf_text.specs.Part.{Item, LineEndsItem, CommentItem, EntryItem}
use Rattle.gitconf_sources.specs.Metadata.{api_meta}
use Rattle.gitconf_state.specs.Including.{has_room, spliced, whole}
use Rattle.gitconf_state.specs.Printing.{printed}
use Rattle.gitconf_state.specs.State.{SectionState, State}
use Rattle.gitconf_includes.specs.Inclusion.{inclusion, urls, Includes, NoInclude}

abbrev line_end : Item
line_end = LineEndsItem (codes "\n")

-- a comment with the tag `#`
abbrev comment : String → Item
comment text = CommentItem 35 (codes text)

-- an entry without `=`
abbrev alone : (name : String) → Item
alone name = EntryItem (record { name = codes name; blanks = []; assigned = None })

abbrev valued : (name value : String) → Item
valued name value = EntryItem (record { name = codes name; blanks = []; assigned = Some (record { blanks = []; value = record { pieces = []; last = codes value } }) })

abbrev section : Header → List Item → SectionState
section header items = record { number = 0; header = header; meta = api_meta; items = items; held = [] }

abbrev plain : (name : String) → List Item → SectionState
plain name items = section (PlainHeader (codes name)) items

abbrev quoted : (name subsection : String) → List Item → SectionState
quoted name subsection items = section (QuotedHeader (codes name) (codes " ") (codes subsection)) items

-- a file, the number that its next section gets, and the bytes of its buffer
abbrev file : (front : List Item) → (next used : ℕ) → List SectionState → State
file front next used sections = record { front = front; meta = api_meta; next = next; used = used; sections = sections }

-- the body of an include of /x
abbrev to_x : List Item
to_x = line_end ∷ valued "path" "/x" ∷ line_end ∷ []

-- what includes

pub all_paths : inclusion (plain "include" (line_end ∷ valued "path" "/x" ∷ line_end ∷ valued "paths" "/z" ∷ line_end ∷ valued "PATH" "/y" ∷ line_end ∷ [])) ≡ Includes None (codes "/x" ∷ codes "/y" ∷ [])
all_paths = refl

pub path_without_a_value : inclusion (plain "include" (line_end ∷ alone "path" ∷ line_end ∷ [])) ≡ Includes None ([] ∷ [])
path_without_a_value = refl

pub quoted_path : inclusion (plain "include" (line_end ∷ valued "path" "\"/a b\"" ∷ line_end ∷ [])) ≡ Includes None (codes "/a b" ∷ [])
quoted_path = refl

pub no_path : inclusion (plain "include" []) ≡ Includes None []
no_path = refl

pub include_in_upper_case : inclusion (plain "Include" to_x) ≡ NoInclude
include_in_upper_case = refl

pub include_with_an_empty_subsection : inclusion (quoted "include" "" to_x) ≡ NoInclude
include_with_an_empty_subsection = refl

pub include_with_a_dot : inclusion (section (DottedHeader (codes "include") (codes "a")) to_x) ≡ NoInclude
include_with_a_dot = refl

pub under_a_condition : inclusion (quoted "includeIf" "onbranch:x" to_x) ≡ Includes (Some (codes "onbranch:x")) (codes "/x" ∷ [])
under_a_condition = refl

pub condition_in_quotes : inclusion (quoted "includeIf" "onbranch:a\\\"b" to_x) ≡ Includes (Some (codes "onbranch:a\"b")) (codes "/x" ∷ [])
condition_in_quotes = refl

pub condition_behind_a_dot : inclusion (section (DottedHeader (codes "includeIf") (codes "onbranch:X")) to_x) ≡ Includes (Some (codes "onbranch:x")) (codes "/x" ∷ [])
condition_behind_a_dot = refl

pub include_if_in_lower_case : inclusion (quoted "includeif" "onbranch:x" to_x) ≡ NoInclude
include_if_in_lower_case = refl

pub include_if_without_a_condition : inclusion (plain "includeIf" to_x) ≡ NoInclude
include_if_without_a_condition = refl

-- the urls of remotes, with a subsection or without one, however the name is spelled
abbrev remotes : List SectionState
remotes =
    quoted "remote" "a" (line_end ∷ valued "url" "u1" ∷ line_end ∷ valued "URL" "u2" ∷ line_end ∷ [])
    ∷ plain "remotes" (line_end ∷ valued "url" "u3" ∷ line_end ∷ [])
    ∷ plain "Remote" (line_end ∷ valued "url" "u4" ∷ line_end ∷ valued "pushurl" "u5" ∷ line_end ∷ [])
    ∷ section (DottedHeader (codes "remote") (codes "b")) (line_end ∷ alone "url" ∷ line_end ∷ [])
    ∷ []

pub all_urls : urls (file [] 4 0 remotes) ≡ codes "u1" ∷ codes "u2" ∷ codes "u4" ∷ [] ∷ []
all_urls = refl

-- room

-- a comment without a line ending is held after the include, so one goes before a front
abbrev holding : SectionState
holding = record { number = 0; header = PlainHeader (codes "include"); meta = api_meta; items = valued "path" "/x" ∷ []; held = comment " c" ∷ [] }

abbrev including : (next used : ℕ) → State
including next used = file [] next used (holding ∷ [])

abbrev one_section : State
one_section = file [] 1 0 (plain "x" [] ∷ [])

pub last_byte : has_room (file [] 0 1 []) [] (including 1 4294967294) ≡ true
last_byte = refl

pub byte_too_many : has_room (file [] 0 2 []) [] (including 1 4294967294) ≡ false
byte_too_many = refl

pub last_bytes_with_a_front : has_room (file (comment " d" ∷ []) 0 3 []) [] (including 1 4294967291) ≡ true
last_bytes_with_a_front = refl

pub line_end_too_many : has_room (file (comment " d" ∷ []) 0 3 []) [] (including 1 4294967292) ≡ false
line_end_too_many = refl

pub last_number : has_room one_section [] (including 18446744073709551614 0) ≡ true
last_number = refl

pub number_too_many : has_room one_section [] (including 18446744073709551615 0) ≡ false
number_too_many = refl

-- where included files are

-- a file that includes /x and /y; what is still to be visited
abbrev both : State
both = file [] 2 0 (plain "include" (line_end ∷ valued "path" "/x" ∷ line_end ∷ valued "path" "/y" ∷ line_end ∷ []) ∷ [])

abbrev rest : List SectionState
rest = plain "b" [] ∷ []

-- what is there when both are put in, the one and then the other
abbrev put_in : (x y : State) → State
put_in x y = whole (spliced y rest (spliced x rest both)) rest

abbrev of_sections : (front : List Item) → List SectionState → State
of_sections front sections = file front 1 0 sections

pub in_order : printed (put_in (of_sections [] (plain "x" (line_end ∷ []) ∷ [])) (of_sections [] (plain "y" (line_end ∷ []) ∷ []))) ≡ codes "[include]\npath=/x\npath=/y\n[x]\n[y]\n[b]\n"
in_order = refl

pub new_numbers : map (λ s. s.number) (put_in (of_sections [] (plain "x" [] ∷ plain "x" [] ∷ [])) (of_sections [] (plain "y" [] ∷ []))).sections ≡ 0 ∷ 2 ∷ 3 ∷ 4 ∷ 0 ∷ []
new_numbers = refl

-- fronts are held after what is done: the including section, or the last one that was put in
pub both_fronts : printed (put_in (of_sections (comment " c" ∷ line_end ∷ []) []) (of_sections (comment " d" ∷ line_end ∷ []) (plain "y" (valued "k" "1" ∷ []) ∷ [])))
    ≡ codes "[include]\npath=/x\npath=/y\n# c\n# d\n[y]\nk=1\n[b]\n"
both_fronts = refl

pub front_without_a_line_end : printed (put_in (of_sections (comment " c" ∷ []) []) (of_sections (comment " d" ∷ line_end ∷ []) []))
    ≡ codes "[include]\npath=/x\npath=/y\n# c\n# d\n[b]\n"
front_without_a_line_end = refl

pub front_behind_x : map (λ s. s.held) (put_in (of_sections [] (plain "x" [] ∷ [])) (of_sections (comment " d" ∷ line_end ∷ []) [])).sections ≡ [] ∷ (comment " d" ∷ line_end ∷ []) ∷ [] ∷ []
front_behind_x = refl

-- the line ending is that of the whole file, which what is still to be visited may say
pub line_end_of_the_rest : map (λ s. s.held) (spliced (of_sections (comment " d" ∷ []) []) (plain "b" (LineEndsItem (codes "\r\n") ∷ []) ∷ []) (including 1 0)).sections
    ≡ (comment " c" ∷ LineEndsItem (codes "\r\n") ∷ comment " d" ∷ []) ∷ []
line_end_of_the_rest = refl

pub line_end_by_itself : map (λ s. s.held) (spliced (of_sections (comment " d" ∷ []) []) [] (including 1 0)).sections ≡ (comment " c" ∷ line_end ∷ comment " d" ∷ []) ∷ []
line_end_by_itself = refl
