-- Worked rows: what the definitions of printing say of single states, by computation.
use Prim.Native.String.{String}
use Rattle.std.proofs.Common.{◌≡◌, ℕ, Bool, true, false, List, [], ◌∷◌, Some, None, refl, codes}
use Rattle.std.specs.Prelude.{not}
use Rattle.std.specs.Str.{bytes_eq}
use Rattle.gitconf_text.specs.Value.{Piece}
use Rattle.gitconf_text.specs.Header.{PlainHeader, QuotedHeader, name_of}
use Rattle.gitconf_text.specs.Part.{Item, BlanksItem, LineEndsItem, CommentItem, EntryItem, Part, ItemPart, HeaderPart, spelled}
use Rattle.gitconf_sources.specs.Metadata.{api_meta}
use Rattle.gitconf_state.specs.State.{SectionState, State}
use Rattle.gitconf_state.specs.Printing.{printed, printed_kept, printed_section}
use Rattle.gitconf_state.specs.Comments.{comments}
use Rattle.gitconf_state.specs.Inserted.{are_of_one_kind, headers_begin_lines, keys_have_lines, values_are_closed}
use Rattle.gitconf_state.specs.Clean.{stand_apart}

abbrev b : String → Item
b run = BlanksItem (codes run)

abbrev n : String → Item
n run = LineEndsItem (codes run)

abbrev c : ℕ → String → Item
c tag text = CommentItem tag (codes text)

abbrev k : (name behind : String) → Item
k name behind = EntryItem (record { name = codes name; blanks = codes behind; assigned = None })

abbrev p : (text line_end : String) → Piece
p text line_end = record { text = codes text; line_end = codes line_end }

abbrev vs : (name before behind : String) → List Piece → (last : String) → Item
vs name before behind pieces last = EntryItem (record { name = codes name; blanks = codes before; assigned = Some (record { blanks = codes behind; value = record { pieces = pieces; last = codes last } }) })

abbrev v : (name before behind last : String) → Item
v name before behind last = vs name before behind [] last

abbrev sec : (number : ℕ) (name : String) (items held : List Item) → SectionState
sec number name items held = record { number = number; header = PlainHeader (codes name); meta = api_meta; items = items; held = held }

abbrev st : (front : List Item) (sections : List SectionState) → State
st front sections = record { front = front; meta = api_meta; next = 9; used = 0; sections = sections }

abbrev text : List Part → List ℕ
text parts = spelled parts

-- the row of one section and a value
r3 : printed (st [] (sec 0 "a" (b " " ∷ v "k" " " " " "v" ∷ []) [] ∷ [])) ≡ codes "[a]\n k = v\n"
r3 = refl

r4 : printed (st [] (sec 0 "a" (b " " ∷ k "b" " " ∷ v "c" "" "" "d" ∷ []) [] ∷ [])) ≡ codes "[a]\n b \nc=d\n"
r4 = refl

r5 : printed (st [] (sec 0 "a" (n "\n" ∷ c 35 " note" ∷ b "\t" ∷ v "k" " " " " "v" ∷ n "\n" ∷ []) [] ∷ [])) ≡ codes "[a]\n# note\t\nk = v\n"
r5 = refl

r6 : printed (st [] (sec 0 "a" (n "\n" ∷ c 35 "" ∷ []) [] ∷ sec 1 "b" (n "\n" ∷ []) [] ∷ [])) ≡ codes "[a]\n#\n[b]\n"
r6 = refl

r6e : printed (st [] (sec 0 "a" (n "\n" ∷ c 35 "" ∷ []) [] ∷ sec 1 "b" [] [] ∷ [])) ≡ codes "[a]\n#\n[b]\n"
r6e = refl

r7 : printed (st [] (sec 0 "a" (n "\n" ∷ vs "k" " " " " (p "x" "\n" ∷ []) "" ∷ []) [] ∷ sec 1 "b" [] [] ∷ [])) ≡ codes "[a]\nk = x\\\n\n[b]\n"
r7 = refl

r14 : printed (st [] (sec 0 "a" (vs "k" "" "" (p "x " "" ∷ []) " y" ∷ []) [] ∷ [])) ≡ codes "[a]\nk=x \\\n y\n"
r14 = refl

abbrev without_b : SectionState → Bool
without_b s = not (bytes_eq (name_of s.header) (codes "b"))

r27 : printed_kept without_b (st [] (sec 0 "a" [] [] ∷ sec 1 "b" [] [] ∷ sec 2 "c" [] [] ∷ [])) ≡ codes "[a]\n\n[c]\n"
r27 = refl

r28 : printed (st (b "  " ∷ []) (sec 0 "a" (n "\n" ∷ []) [] ∷ [])) ≡ codes "  \n[a]\n"
r28 = refl

r29 : printed (st [] (sec 0 "" (n "\n" ∷ []) [] ∷ [])) ≡ codes "[]\n"
r29 = refl

r30 : printed (st [] (sec 0 "a" (n "\n" ∷ v "k" "" "" "1" ∷ n "\n" ∷ []) (c 35 " c" ∷ n "\n" ∷ []) ∷ sec 1 "b" (n "\n" ∷ []) [] ∷ [])) ≡ codes "[a]\nk=1\n# c\n[b]\n"
r30 = refl

r30b : printed (st [] (sec 1 "b" (n "\n" ∷ []) [] ∷ [])) ≡ codes "[b]\n"
r30b = refl

-- more rows
m1 : printed (st [] (sec 0 "core" (n "\n" ∷ vs "a" "" "" (p "hello" "" ∷ []) "" ∷ []) [] ∷ [])) ≡ codes "[core]\na=hello\\\n\n"
m1 = refl

m2 : printed (st (c 35 " c" ∷ []) []) ≡ codes "# c"
m2 = refl

m3 : printed (st [] (sec 0 "a" (b " " ∷ k "k" " " ∷ []) [] ∷ sec 1 "b" [] [] ∷ [])) ≡ codes "[a]\n k \n[b]\n"
m3 = refl

m4 : printed (st [] (record { number = 0; header = QuotedHeader (codes "hello") (codes " ") (codes "foo\\\\bar\\\""); meta = api_meta; items = []; held = [] } ∷ [])) ≡ codes "[hello \"foo\\\\bar\\\"\"]\n"
m4 = refl

-- an open continuation alone in the front: with the line ending that was read, and without
c12 : printed (st (vs "k" " " " " (p "x" "" ∷ []) "" ∷ []) []) ≡ codes "k = x\\\n"
c12 = refl

c12e : printed (st (vs "k" " " " " (p "x" "\n" ∷ []) "" ∷ []) []) ≡ codes "k = x\\\n"
c12e = refl

-- mixed line endings
e1 : printed (st [] (sec 0 "a" (n "\r\n" ∷ v "k" "" "" "1" ∷ n "\n" ∷ []) [] ∷ [])) ≡ codes "[a]\r\nk=1\n\r\n"
e1 = refl

e2 : printed (st [] (sec 0 "a" (b " " ∷ vs "k" " " " " (p "x" "\r\n" ∷ []) "y" ∷ n "\n" ∷ []) [] ∷ [])) ≡ codes "[a]\r\n k = x\\\r\ny\n\r\n"
e2 = refl

-- a section without a line ending of its own in a file with CR LF
e3 : printed (st [] (sec 0 "a" (n "\r\n" ∷ []) [] ∷ sec 1 "b" (b " " ∷ k "k" "" ∷ []) [] ∷ [])) ≡ codes "[a]\r\n[b]\n k\r\n"
e3 = refl

-- a section's own text
s1 : printed_section (sec 0 "a" (b " " ∷ v "k" " " " " "v" ∷ []) []) ≡ codes "[a]\n k = v"
s1 = refl

s2 : printed_section (sec 0 "b" [] []) ≡ codes "[b]"
s2 = refl

-- a comment on the header's line
h1 : printed (st [] (sec 0 "a" (b " " ∷ c 35 " c" ∷ n "\n" ∷ v "k" "" "" "1" ∷ n "\n" ∷ []) [] ∷ [])) ≡ codes "[a] # c\nk=1\n"
h1 = refl

h2 : printed (st [] (sec 0 "a" (b " " ∷ c 35 " c" ∷ []) [] ∷ [])) ≡ codes "[a]\n # c\n"
h2 = refl

-- two names in the front
f1 : printed (st (k "j" " " ∷ v "k" "" "" "1" ∷ n "\n" ∷ []) (sec 0 "a" (n "\n" ∷ []) [] ∷ [])) ≡ codes "j k=1\n[a]\n"
f1 = refl

f1c : stand_apart [] (k "j" " " ∷ v "k" "" "" "1" ∷ n "\n" ∷ []) ≡ true
f1c = refl

f2c : stand_apart [] (v "j" "" "" "1" ∷ v "k" "" "" "2" ∷ []) ≡ false
f2c = refl

f2 : printed (st (v "j" "" "" "1" ∷ v "k" "" "" "2" ∷ []) []) ≡ codes "j=1k=2"
f2 = refl

f3c : stand_apart [] (k "j" "" ∷ v "k" "" "" "2" ∷ []) ≡ false
f3c = refl

-- two comments without a line ending between: front, body, held
g1 : printed (st (c 35 "a" ∷ c 59 "b" ∷ n "\n" ∷ []) []) ≡ codes "#a\n;b\n"
g1 = refl

-- held after a section without a line ending
j1 : printed (st [] (sec 0 "a" (n "\n" ∷ v "k" "" "" "1" ∷ []) (c 35 " c" ∷ []) ∷ sec 1 "b" (n "\n" ∷ []) [] ∷ [])) ≡ codes "[a]\nk=1\n# c\n[b]\n"
j1 = refl

j2 : printed (st [] (sec 0 "a" [] (c 35 " c" ∷ n "\n" ∷ []) ∷ [])) ≡ codes "[a]\n# c\n"
j2 = refl

-- a filter that keeps none: the front as it is; without a: a's held items are left out
t1 : printed_kept (λ _. false) (st (c 35 " c" ∷ []) (sec 0 "a" (n "\n" ∷ []) [] ∷ [])) ≡ codes "# c"
t1 = refl

t2 : printed (st (c 35 " c" ∷ []) (sec 0 "a" (n "\n" ∷ []) [] ∷ [])) ≡ codes "# c\n[a]\n"
t2 = refl

t3 : printed (st [] []) ≡ []
t3 = refl

-- the comments of a state have their tags
q1 : comments (st (c 35 " a \r" ∷ n "\n" ∷ []) (sec 0 "a" (b " " ∷ c 59 " b" ∷ []) (c 35 " c" ∷ []) ∷ [])) ≡ codes "# a" ∷ codes "; b" ∷ codes "# c" ∷ []
q1 = refl

-- byte for byte: the single tests
y1 : values_are_closed false (HeaderPart (PlainHeader (codes "a")) ∷ ItemPart (n "\n") ∷ ItemPart (vs "k" "" "" (p "x" "\n" ∷ []) "") ∷ []) ≡ false
y1 = refl

y2 : keys_have_lines false (ItemPart (k "j" " ") ∷ ItemPart (k "k" "") ∷ []) ≡ false
y2 = refl

y3 : headers_begin_lines true (HeaderPart (PlainHeader (codes "a")) ∷ HeaderPart (PlainHeader (codes "b")) ∷ []) ≡ false
y3 = refl

y4 : are_of_one_kind (ItemPart (n "\r\n") ∷ ItemPart (v "k" "" "" "1") ∷ ItemPart (n "\n") ∷ []) ≡ false
y4 = refl

y5 : headers_begin_lines true (ItemPart (b "  ") ∷ HeaderPart (PlainHeader (codes "a")) ∷ []) ≡ false
y5 = refl
