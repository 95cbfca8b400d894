-- Worked rows of refused texts, with what it takes to show that no part, no header and no value is at a place.
use Rattle.std.proofs.Common.{◌≡◌, ℕ, ◌<◌, ◌||◌, ◌&&◌, ◌==◌, ◌⊎◌, Bool, true, false, not, List, [], ◌∷◌, ◌++◌, length, refl, sym, ◌∙◌, ap, subst, append_assoc, codes, lit<, inl, inr, arith}
use Rattle.std.proofs.lemmas.Bool.{and_parts, or_parts, and_from, eqb-true, or_cases, or_left, or_right}
use Rattle.std.specs.Char.{is_ascii_alphabetic}
use Rattle.std.specs.List.{list_all}
use Rattle.gitconf_text.specs.Bytes.{is_blank, is_name_byte, is_header_byte}
use Rattle.gitconf_text.specs.Text.{begins, begins_line_end, are_line_ends}
use Rattle.gitconf_text.specs.Unit.{is_mark}
use Rattle.std.proofs.lemmas.List.Folds.{list_any-append, list_all-append}
use Rattle.std.specs.Prelude.{flat_map}
use Rattle.std.specs.List.{list_any}
use Rattle.gitconf_text.specs.Unit.{Class, LineFeed, Quote, Mark, Backslash, White, Other, class_of, TextUnit, Escape, OpenEscape, Plain, units_behind, units_of}
use Rattle.gitconf_text.specs.Value.{Piece, Value, spelled_value, value_units, are_paired, may_follow_value, FitsValue}
use Rattle.gitconf_text.specs.Header.{Header, FitsHeader, spelled_header, is_subsection_unit, is_spelling, PlainHeader, DottedHeader, QuotedHeader}
use Rattle.gitconf_text.specs.Names.{is_value_name}
use Rattle.gitconf_text.specs.Part.{BlanksItem, LineEndsItem, CommentItem, EntryItem, Item, FitsItem, spelled_item, Part, ItemPart, HeaderPart, spelled_assigned, spelled_part, spelled, FitsPart, AreFit}
use Rattle.gitconf_text.specs.Document.{byte_mark, unmarked}
use Rattle.gitconf_text.specs.Stuck.{IsAssignment, spelled_assignment, NoValue, NoPart, kind_behind, line_behind, IsStuck}
use Rattle.gitconf_text.proofs.Worked.Texts.{fits, blanks, line_ends, alone, valued, header, plain_header}

-- the front may begin an item: a blank, a line ending, a comment or a name
abbrev pub begins_item : List ℕ → Bool
begins_item rest = (begins is_blank rest || begins_line_end rest) || (begins is_mark rest || begins is_ascii_alphabetic rest)

-- the front may begin a part: an item or a header
abbrev pub begins_part : List ℕ → Bool
begins_part rest = begins_item rest || begins (λ b. b == 91) rest

begins-append : (test : ℕ → Bool) (xs ys : List ℕ) → begins test xs ≡ true → begins test (xs ++ ys) ≡ true
begins-append test [] ys front = absurd (cc)
begins-append test (b ∷ xs) ys front = front

begins_run : (test : ℕ → Bool) (run : List ℕ) → 0 < length run → list_all test run ≡ true → begins test run ≡ true
begins_run test [] some all = absurd (omega (arith, some))
begins_run test (b ∷ run) some all = (and_parts _ _ all).0

begins_line_ends : (run behind : List ℕ) → 0 < length run → are_line_ends run ≡ true → begins_line_end (run ++ behind) ≡ true
begins_line_ends [] behind some all = absurd (omega (arith, some))
begins_line_ends (b ∷ []) behind some all = elim (or_cases (b == 10) _ (and_parts _ _ all).0) [
  | inl lf ↦ or_left _ _ lf
  | inr cr ↦ absurd (let open_end = (and_parts (b == 13) false cr).1 in cc)
]
begins_line_ends (b ∷ c ∷ run) behind some all = (and_parts _ _ all).0

begins_name : (rest : List ℕ) → begins is_ascii_alphabetic rest ≡ true → begins_item rest ≡ true
begins_name rest letter = or_right _ _ (or_right _ _ letter)

-- a value's name begins with a letter
letter_first : (name : List ℕ) → is_value_name name ≡ true → begins is_ascii_alphabetic name ≡ true
letter_first [] h = absurd (cc)
letter_first (b ∷ bytes) h = (and_parts _ _ h).0

-- an item that may be anywhere begins so
item_begins : (i : Item) (behind : List ℕ) → FitsItem i behind → begins_item (spelled_item i ++ behind) ≡ true
item_begins (BlanksItem run) behind fits = or_left _ _ (or_left _ _ (begins-append is_blank run behind (begins_run is_blank run fits.0 fits.1)))
item_begins (LineEndsItem run) behind fits = or_left _ _ (or_right _ _ (begins_line_ends run behind fits.0 fits.1))
item_begins (CommentItem tag text) behind fits = or_right _ _ (or_left _ _ fits.0)
item_begins (EntryItem e) behind fits =
    let later = e.blanks ++ spelled_assigned e.assigned in
    begins_name ((e.name ++ later) ++ behind)
    (begins-append is_ascii_alphabetic (e.name ++ later) behind (begins-append is_ascii_alphabetic e.name later (letter_first e.name fits.0)))

assignment_begins : (name blanks behind later : List ℕ) → IsAssignment name blanks behind → begins_item (spelled_assignment name blanks later) ≡ true
assignment_begins name blanks behind later parts =
    begins_name (name ++ (blanks ++ 61 ∷ later)) (begins-append is_ascii_alphabetic name (blanks ++ 61 ∷ later) (letter_first name parts.name_is))

-- if no item can begin, and no header is, is no part
no_part : (rest : List ℕ) → begins_item rest ≡ false → ((h : Header) (behind : List ℕ) → rest ≡ spelled_header h ++ behind → FitsHeader h → ⊥) → NoPart rest
no_part rest other no_header = record { part = by_kind; assignment = no_assignment }
  where
    by_kind : (p : Part) (behind : List ℕ) → rest ≡ spelled_part p ++ behind → FitsPart p behind → ⊥
    by_kind (HeaderPart h) behind same fits = no_header h behind same fits
    by_kind (ItemPart i) behind same fits = absurd (
        let some = item_begins i behind fits in
        let none = ap begins_item (sym same) ∙ other in
        cc)

    no_assignment : (name blanks behind : List ℕ) → IsAssignment name blanks [] → rest ≡ spelled_assignment name blanks behind → ⊥
    no_assignment name blanks behind parts same = absurd (
        let some = assignment_begins name blanks [] behind parts in
        let none = ap begins_item (sym same) ∙ other in
        cc)

header_begins : (h : Header) (behind : List ℕ) → begins (λ b. b == 91) (spelled_header h ++ behind) ≡ true
header_begins (PlainHeader name) behind = refl
header_begins (DottedHeader name subsection) behind = refl
header_begins (QuotedHeader name between spelling) behind = refl

-- if no part can begin, none is
pub nothing_begins : (rest : List ℕ) → begins_part rest ≡ false → NoPart rest
nothing_begins rest other = no_part rest (or_parts (begins_item rest) _ other).0 (λ h behind same fits. absurd (
    let some = header_begins h behind in
    let none = ap (begins (λ b. b == 91)) (sym same) ∙ (or_parts (begins_item rest) _ other).1 in
    cc))

-- A refusal at a byte that begins no part: what comes before it, and what each of these asks; all else computes.
stuck_behind : {text rest kind : List ℕ} {line : ℕ} (parts : List Part)
    → unmarked text ≡ spelled parts ++ rest → AreFit parts rest → 0 < length rest → begins_part rest ≡ false
    → kind ≡ kind_behind parts → line ≡ line_behind (spelled parts) → IsStuck text line rest kind
stuck_behind parts spelling fits some other kind_is line_is = inl (record {
  parts = parts;
  whole = spelling;
  fit = fits;
  unread = some;
  nothing = nothing_begins _ other;
  kind_is = kind_is;
  line_is = line_is;
})

-- byte marks other than UTF-8's, and a second mark
pub other_byte_mark : IsStuck (0xfe ∷ 0xff ∷ []) 1 (0xfe ∷ 0xff ∷ []) (codes "section header")
other_byte_mark = stuck_behind [] refl tt (lit< tt) refl refl refl

pub other_byte_mark_before_a_header : IsStuck (0xfe ∷ 0xff ∷ codes "[a]") 1 (0xfe ∷ 0xff ∷ codes "[a]") (codes "section header")
other_byte_mark_before_a_header = stuck_behind [] refl tt (lit< tt) refl refl refl

pub part_of_a_mark : IsStuck (239 ∷ 187 ∷ []) 1 (239 ∷ 187 ∷ []) (codes "section header")
part_of_a_mark = stuck_behind [] refl tt (lit< tt) refl refl refl

pub second_mark : IsStuck (byte_mark ++ byte_mark) 1 byte_mark (codes "section header")
second_mark = stuck_behind [] refl tt (lit< tt) refl refl refl

-- CR after a value, before the first header
pub carriage_return_behind_a_value : IsStuck (codes "a = b\r") 1 (codes "\r") (codes "section header")
carriage_return_behind_a_value = stuck_behind (valued "a" " " " " "b" ∷ []) refl
    ((refl, refl, (refl, record { front = refl; units = refl; end = (refl, refl) })), tt)
    (lit< tt) refl refl refl

-- FF after a value, and a comment after it
pub form_feed_behind_a_value : IsStuck (codes "[a]\nk=v \u{c};c") 2 (codes "\u{c};c") (codes "name")
form_feed_behind_a_value = stuck_behind (header (plain_header "a") ∷ line_ends "\n" ∷ valued "k" "" "" "v" ∷ blanks " " ∷ []) refl (
  (lit< tt, refl),
  (
    (lit< tt, refl, refl),
    (
      (refl, refl, (refl, record { front = refl; units = refl; end = (refl, refl) })),
      ((lit< tt, refl, refl), tt),
    ),
  ),
)
    (lit< tt) refl refl refl

-- a byte that begins no name, after a section and before the first
pub no_name_behind_a_section : IsStuck (codes "[a]\n$") 2 (codes "$") (codes "name")
no_name_behind_a_section = stuck_behind (header (plain_header "a") ∷ line_ends "\n" ∷ []) refl (
  (lit< tt, refl),
  ((lit< tt, refl, refl), tt),
)
    (lit< tt) refl refl refl

pub no_name_before_a_section : IsStuck (codes "k = v\n$") 2 (codes "$") (codes "section header")
no_name_before_a_section = stuck_behind (valued "k" " " " " "v" ∷ line_ends "\n" ∷ []) refl (
  (refl, refl, (refl, record { front = refl; units = refl; end = (refl, refl) })),
  ((lit< tt, refl, refl), tt),
)
    (lit< tt) refl refl refl

-- a name ends before a byte that belongs to none: it is read as a key without a value, and what follows is refused
pub rest_of_a_line : IsStuck (codes "[a] k$rest of line") 1 (codes "$rest of line") (codes "name")
rest_of_a_line = stuck_behind (header (plain_header "a") ∷ blanks " " ∷ alone "k" "" ∷ []) refl (
  (lit< tt, refl),
  (
    (lit< tt, refl, refl),
    ((refl, refl, (refl, refl, refl)), tt),
  ),
)
    (lit< tt) refl refl refl

-- a digit begins no name
pub digit_at_a_name : IsStuck (codes "[a]\r\n1k=v") 2 (codes "1k=v") (codes "name")
digit_at_a_name = stuck_behind (header (plain_header "a") ∷ line_ends "\r\n" ∷ []) refl (
  (lit< tt, refl),
  ((lit< tt, refl, refl), tt),
)
    (lit< tt) refl refl refl

-- CR without LF is no line ending, and white space is no blank
pub carriage_return_alone : IsStuck (codes "\n\r[a]") 2 (codes "\r[a]") (codes "section header")
carriage_return_alone = stuck_behind (line_ends "\n" ∷ []) refl ((lit< tt, refl, refl), tt) (lit< tt) refl refl refl

-- A value fault that is told by quotes: a value that begins with a quote holds a second one.

abbrev pub is_quote : ℕ → Bool
is_quote b = elim (class_of b) [ Quote ↦ true | _ ↦ false ]

abbrev is_quote_unit : TextUnit → Bool
is_quote_unit (Escape b) = false
is_quote_unit OpenEscape = false
is_quote_unit (Plain b) = is_quote b

-- after an open quote is one that closes it
closing_unit : (units : List TextUnit) → are_paired true units ≡ true → list_any is_quote_unit units ≡ true
closing_unit [] paired = absurd (cc)
closing_unit (Escape b ∷ units) paired = closing_unit units (and_parts _ _ paired).1
closing_unit (OpenEscape ∷ units) paired = absurd (cc)
closing_unit (Plain b ∷ units) paired = go (class_of b) refl (closing_unit units)
  where
    go : (c : Class) → class_of b ≡ c → (are_paired true units ≡ true → list_any is_quote_unit units ≡ true)
        → list_any is_quote_unit (Plain b ∷ units) ≡ true
    go Quote e later = rw (e, is_quote) refl
    go LineFeed e later = absurd (let h = rw (e, are_paired) at paired in cc)
    go Mark e later = rw (e, is_quote) (later (rw (e, are_paired) at paired))
    go Backslash e later = rw (e, is_quote) (later (rw (e, are_paired) at paired))
    go White e later = rw (e, is_quote) (later (rw (e, are_paired) at paired))
    go Other e later = rw (e, is_quote) (later (rw (e, are_paired) at paired))

quote_of_units : (escaped : Bool) (text : List ℕ) → list_any is_quote_unit (units_behind escaped text) ≡ true → list_any is_quote text ≡ true
quote_of_units true [] some = absurd (cc)
quote_of_units false [] some = absurd (cc)
quote_of_units true (b ∷ text) some = or_right _ _ (quote_of_units false text some)
quote_of_units false (b ∷ text) some = go (class_of b) refl (quote_of_units true text) (quote_of_units false text)
  where
    go : (c : Class) → class_of b ≡ c
        → (list_any is_quote_unit (units_behind true text) ≡ true → list_any is_quote text ≡ true)
        → (list_any is_quote_unit (units_behind false text) ≡ true → list_any is_quote text ≡ true)
        → list_any is_quote (b ∷ text) ≡ true
    go Quote e behind later = rw (e, is_quote) refl
    go LineFeed e behind later = rw (e, is_quote) (later (let opened = rw (e, units_behind) at some in rw (e, is_quote) at opened))
    go Mark e behind later = rw (e, is_quote) (later (let opened = rw (e, units_behind) at some in rw (e, is_quote) at opened))
    go Backslash e behind later = rw (e, is_quote) (behind (rw (e, units_behind) at some))
    go White e behind later = rw (e, is_quote) (later (let opened = rw (e, units_behind) at some in rw (e, is_quote) at opened))
    go Other e behind later = rw (e, is_quote) (later (let opened = rw (e, units_behind) at some in rw (e, is_quote) at opened))

any_left : (xs ys : List ℕ) → list_any is_quote xs ≡ true → list_any is_quote (xs ++ ys) ≡ true
any_left xs ys some = list_any-append is_quote xs ys ∙ or_left _ _ some

any_right : (xs ys : List ℕ) → list_any is_quote ys ≡ true → list_any is_quote (xs ++ ys) ≡ true
any_right xs ys some = list_any-append is_quote xs ys ∙ or_right _ _ some

split_units : (xs ys : List TextUnit) → list_any is_quote_unit (xs ++ ys) ≡ true → (list_any is_quote_unit xs ≡ true) ⊎ (list_any is_quote_unit ys ≡ true)
split_units xs ys some = or_cases _ _ (sym (list_any-append is_quote_unit xs ys) ∙ some)

quote_of_pieces : (pieces : List Piece)
    → list_any is_quote_unit (flat_map (λ (p : Piece). units_of p.text) pieces) ≡ true
    → list_any is_quote (flat_map (λ (p : Piece). p.text ++ 92 ∷ p.line_end) pieces) ≡ true
quote_of_pieces [] some = absurd (cc)
quote_of_pieces (p ∷ pieces) some = elim (split_units (units_of p.text) _ some) [
  | inl here ↦ any_left (p.text ++ 92 ∷ p.line_end) _ (any_left p.text (92 ∷ p.line_end) (quote_of_units false p.text here))
  | inr later ↦ any_right (p.text ++ 92 ∷ p.line_end) _ (quote_of_pieces pieces later)
]

quote_of_value : (v : Value) → list_any is_quote_unit (value_units v) ≡ true → list_any is_quote (spelled_value v) ≡ true
quote_of_value v some = elim (split_units (flat_map (λ (p : Piece). units_of p.text) v.pieces) (units_of v.last) some) [
  | inl here ↦ any_left (flat_map (λ (p : Piece). p.text ++ 92 ∷ p.line_end) v.pieces) v.last (quote_of_pieces v.pieces here)
  | inr last ↦ any_right (flat_map (λ (p : Piece). p.text ++ 92 ∷ p.line_end) v.pieces) v.last (quote_of_units false v.last last)
]

-- a value of these units after a quote, before a text without quotes
lone_quote : (v : Value) (behind rest : List ℕ) → rest ≡ spelled_value v ++ behind → are_paired true (value_units v) ≡ true
    → list_any is_quote rest ≡ false → ⊥
lone_quote v behind rest same paired none = absurd (
    let some = any_left (spelled_value v) behind (quote_of_value v (closing_unit (value_units v) paired)) in
    let other = ap (list_any is_quote) (sym same) ∙ none in
    cc)

no_value_in_pieces : (rest : List ℕ) → list_any is_quote rest ≡ false → (text line_end : List ℕ) (pieces : List Piece) (last behind : List ℕ)
    → 34 ∷ rest ≡ spelled_value (record { pieces = record { text = text; line_end = line_end } ∷ pieces; last = last }) ++ behind
    → are_paired false (value_units (record { pieces = record { text = text; line_end = line_end } ∷ pieces; last = last })) ≡ true → ⊥
no_value_in_pieces rest none [] line_end pieces last behind same paired = absurd (let e : ◌≡◌ {A = ℕ} 34 92 = cc in omega (arith, e))
no_value_in_pieces rest none (b ∷ text) line_end pieces last behind same paired =
    let shorter : Value = record { pieces = record { text = text; line_end = line_end } ∷ pieces; last = last } in
    let first : b ≡ 34 = cc in
    let tail : rest ≡ spelled_value shorter ++ behind = cc in
    let P : ℕ → Type 0 =
    λ x. are_paired false (value_units (record { pieces = record { text = x ∷ text; line_end = line_end } ∷ pieces; last = last })) ≡ true in
    lone_quote shorter behind rest tail (subst P first paired) none

no_value_at : (rest : List ℕ) → list_any is_quote rest ≡ false → (pieces : List Piece) (last behind : List ℕ)
    → 34 ∷ rest ≡ spelled_value (record { pieces = pieces; last = last }) ++ behind
    → FitsValue (record { pieces = pieces; last = last }) behind → ⊥
no_value_at rest none [] [] behind same fits = absurd (let ended = ap may_follow_value same ∙ fits.end.1 in cc)
no_value_at rest none [] (b ∷ last) behind same fits =
    let first : b ≡ 34 = cc in
    let tail : rest ≡ last ++ behind = cc in
    let P : ℕ → Type 0 = λ x. are_paired false (units_of (x ∷ last)) ≡ true in
    lone_quote (record { pieces = []; last = last }) behind rest tail (subst P first fits.units) none
no_value_at rest none (p ∷ pieces) last behind same fits = no_value_in_pieces rest none p.text p.line_end pieces last behind same fits.units

quote_alone : (rest : List ℕ) → list_any is_quote rest ≡ false → NoValue (34 ∷ rest)
quote_alone rest none v behind same fits = no_value_at rest none v.pieces v.last behind same fits

-- a quote that nothing closes
pub open_quote : IsStuck (codes "[a] k = \"v") 1 (codes "\"v") (codes "value")
open_quote = inr (record {
  parts = header (plain_header "a") ∷ blanks " " ∷ [];
  name = codes "k";
  blanks = codes " ";
  behind = codes " ";
  assignment = record { name_is = refl; blanks_are = refl; behind_are = refl };
  whole = refl;
  fit = search fits;
  unblank = refl;
  nothing = quote_alone _ refl;
  kind_is = refl;
  line_is = refl;
})

-- a quote that is open before a backslash at the end of the input
pub open_quote_before_a_last_backslash : IsStuck (codes "[a]\nk = \"x\\") 2 (codes "\"x\\") (codes "value")
open_quote_before_a_last_backslash = inr (record {
  parts = header (plain_header "a") ∷ line_ends "\n" ∷ [];
  name = codes "k";
  blanks = codes " ";
  behind = codes " ";
  assignment = record { name_is = refl; blanks_are = refl; behind_are = refl };
  whole = refl;
  fit = search fits;
  unblank = refl;
  nothing = quote_alone _ refl;
  kind_is = refl;
  line_is = refl;
})

-- LF between quotes: the line is that of the value's first byte
pub line_end_in_quotes : IsStuck (codes "\nk=\"a\nb") 2 (codes "\"a\nb") (codes "value")
line_end_in_quotes = inr (record {
  parts = line_ends "\n" ∷ [];
  name = codes "k";
  blanks = [];
  behind = [];
  assignment = record { name_is = refl; blanks_are = refl; behind_are = refl };
  whole = refl;
  fit = search fits;
  unblank = refl;
  nothing = quote_alone _ refl;
  kind_is = refl;
  line_is = refl;
})

-- Faults of headers: what the bytes after `[` say.

-- the rest after a run of bytes that pass the test
abbrev past : (ℕ → Bool) → List ℕ → List ℕ
past test [] = []
past test (b ∷ rest) = elim (test b) [ true ↦ past test rest | false ↦ b ∷ rest ]

-- after an open quote of a subsection is the closing one, and `]`
abbrev is_closed : (escaped : Bool) → List ℕ → Bool
is_closed escaped [] = false
is_closed true (b ∷ rest) = not (b == 10) && is_closed false rest
is_closed false (b ∷ rest) = elim (class_of b) [
  | Quote ↦ begins (λ c. c == 93) rest
  | LineFeed ↦ false
  | Backslash ↦ is_closed true rest
  | _ ↦ is_closed false rest
]

abbrev is_quoted : List ℕ → Bool
is_quoted [] = false
is_quoted (b ∷ rest) = b == 34 && is_closed false rest

-- after `[`: header bytes and `]`; or header bytes or none, blanks, and a subsection in quotes
abbrev is_header_behind : List ℕ → Bool
is_header_behind rest =
    (begins is_header_byte rest && begins (λ b. b == 93) (past is_header_byte rest))
    || (begins is_blank (past is_header_byte rest) && is_quoted (past is_blank (past is_header_byte rest)))

past_run : (test : ℕ → Bool) (run rest : List ℕ) → list_all test run ≡ true → begins test rest ≡ false → past test (run ++ rest) ≡ rest
past_run test [] [] all stops = refl
past_run test [] (b ∷ rest) all stops = rw (stops, past) refl
past_run test (b ∷ run) rest all stops =
    let passes : test b ≡ true = (and_parts (test b) (list_all test run) all).0 in
    rw (passes, past) (past_run test run rest (and_parts (test b) (list_all test run) all).1 stops)

header_bytes : (run : List ℕ) → list_all is_name_byte run ≡ true → list_all is_header_byte run ≡ true
header_bytes [] all = refl
header_bytes (b ∷ run) all =
    let parts = and_parts (is_name_byte b) (list_all is_name_byte run) all in
    and_from (is_header_byte b) _ (or_left (is_name_byte b) (b == 46) parts.0) (header_bytes run parts.1)

no_header_byte : (rest : List ℕ) → begins is_blank rest ≡ true → begins is_header_byte rest ≡ false
no_header_byte [] front = absurd (cc)
no_header_byte (b ∷ rest) front =
    let P : ℕ → Type 0 = λ x. is_header_byte x ≡ false in
    elim (or_cases (b == 32) (b == 9) front) [
      | inl space ↦ subst P (sym (eqb-true b 32 space)) refl
      | inr tab ↦ subst P (sym (eqb-true b 9 tab)) refl
    ]

closed_spelling : (escaped : Bool) (spelling behind : List ℕ) → list_all is_subsection_unit (units_behind escaped spelling) ≡ true
    → is_closed escaped (spelling ++ (34 ∷ 93 ∷ behind)) ≡ true
closed_spelling true [] behind fits = absurd (cc)
closed_spelling false [] behind fits = refl
closed_spelling true (b ∷ spelling) behind fits = and_from _ _ (and_parts _ _ fits).0 (closed_spelling false spelling behind (and_parts _ _ fits).1)
closed_spelling false (b ∷ spelling) behind fits = go (class_of b) refl (closed_spelling true spelling behind) (closed_spelling false spelling behind)
  where
    go : (c : Class) → class_of b ≡ c
        → (list_all is_subsection_unit (units_behind true spelling) ≡ true → is_closed true (spelling ++ (34 ∷ 93 ∷ behind)) ≡ true)
        → (list_all is_subsection_unit (units_behind false spelling) ≡ true → is_closed false (spelling ++ (34 ∷ 93 ∷ behind)) ≡ true)
        → is_closed false (b ∷ (spelling ++ (34 ∷ 93 ∷ behind))) ≡ true
    go Quote e escaped later = absurd (let opened = rw (e, units_behind) at fits in let h = rw (e, is_subsection_unit) at opened in cc)
    go LineFeed e escaped later = absurd (let opened = rw (e, units_behind) at fits in let h = rw (e, is_subsection_unit) at opened in cc)
    go Mark e escaped later = rw (e, is_closed) (later (let opened = rw (e, units_behind) at fits in (and_parts _ _ opened).1))
    go Backslash e escaped later = rw (e, is_closed) (escaped (rw (e, units_behind) at fits))
    go White e escaped later = rw (e, is_closed) (later (let opened = rw (e, units_behind) at fits in (and_parts _ _ opened).1))
    go Other e escaped later = rw (e, is_closed) (later (let opened = rw (e, units_behind) at fits in (and_parts _ _ opened).1))

-- header bytes and `]`
bare_header : (name behind rest : List ℕ) → 0 < length name → list_all is_header_byte name ≡ true → rest ≡ name ++ (93 ∷ behind) → is_header_behind rest ≡ true
bare_header name behind rest some all same =
    let P : List ℕ → Type 0 = λ x. is_header_behind x ≡ true in
    subst P (sym same) (or_left _ _ (and_from _ _
    (begins-append is_header_byte name (93 ∷ behind) (begins_run is_header_byte name some all))
    (ap (begins (λ b. b == 93)) (past_run is_header_byte name (93 ∷ behind) all refl))))

-- header bytes or none, blanks, and a spelling in quotes
quoted_one : (name between spelling behind rest : List ℕ) → list_all is_header_byte name ≡ true → 0 < length between → list_all is_blank between ≡ true
    → is_spelling spelling ≡ true → rest ≡ name ++ (between ++ (34 ∷ (spelling ++ (34 ∷ 93 ∷ behind)))) → is_header_behind rest ≡ true
quoted_one name between spelling behind rest all some blank fits same =
    let quoted : List ℕ = 34 ∷ (spelling ++ (34 ∷ 93 ∷ behind)) in
    let front : begins is_blank (between ++ quoted) ≡ true = begins-append is_blank between quoted (begins_run is_blank between some blank) in
    let name_past : past is_header_byte (name ++ (between ++ quoted)) ≡ between ++ quoted =
    past_run is_header_byte name (between ++ quoted) all (no_header_byte (between ++ quoted) front) in
    let blanks_past : past is_blank (between ++ quoted) ≡ quoted = past_run is_blank between quoted blank refl in
    let closed : is_quoted quoted ≡ true = closed_spelling false spelling behind fits in
    let P : List ℕ → Type 0 = λ x. is_header_behind x ≡ true in
    let Q : List ℕ → Type 0 = λ x. (begins is_blank x && is_quoted (past is_blank x)) ≡ true in
    let R : List ℕ → Type 0 = λ x. is_quoted x ≡ true in
    subst P (sym same) (or_right _ _ (subst Q (sym name_past) (and_from _ _ front (subst R (sym blanks_past) closed))))

regroup_dotted : (name subsection behind : List ℕ) → (name ++ 46 ∷ (subsection ++ 93 ∷ [])) ++ behind ≡ (name ++ 46 ∷ subsection) ++ 93 ∷ behind
regroup_dotted name subsection behind = simp append_assoc refl

regroup_quoted : (name between spelling behind : List ℕ)
    → (name ++ (between ++ 34 ∷ (spelling ++ 34 ∷ 93 ∷ []))) ++ behind ≡ name ++ (between ++ (34 ∷ (spelling ++ (34 ∷ 93 ∷ behind))))
regroup_quoted name between spelling behind = simp append_assoc refl

some_with_dot : (name subsection : List ℕ) → 0 < length (name ++ 46 ∷ subsection)
some_with_dot [] subsection = omega arith
some_with_dot (b ∷ name) subsection = omega arith

-- what follows the `[` of a header
header_is_behind : (h : Header) (behind rest : List ℕ) → 91 ∷ rest ≡ spelled_header h ++ behind → FitsHeader h → is_header_behind rest ≡ true
header_is_behind (PlainHeader name) behind rest same fits =
    let tail : rest ≡ (name ++ 93 ∷ []) ++ behind = cc in
    bare_header name behind rest fits.0 (header_bytes name fits.1) (tail ∙ append_assoc name (93 ∷ []) behind)
header_is_behind (DottedHeader name subsection) behind rest same fits =
    let whole : List ℕ = name ++ 46 ∷ subsection in
    let tail : rest ≡ (name ++ 46 ∷ (subsection ++ 93 ∷ [])) ++ behind = cc in
    let all : list_all is_header_byte whole ≡ true =
    list_all-append is_header_byte name (46 ∷ subsection) ∙ and_from _ _ (header_bytes name fits.0) fits.1 in
    bare_header whole behind rest (some_with_dot name subsection) all (tail ∙ regroup_dotted name subsection behind)
header_is_behind (QuotedHeader name between spelling) behind rest same fits =
    let tail : rest ≡ (name ++ (between ++ 34 ∷ (spelling ++ 34 ∷ 93 ∷ []))) ++ behind = cc in
    quoted_one name between spelling behind rest fits.0 fits.1 fits.2 fits.3 (tail ∙ regroup_quoted name between spelling behind)

-- no part is where the bytes after `[` are those of no header
pub no_header : (rest : List ℕ) → is_header_behind rest ≡ false → NoPart (91 ∷ rest)
no_header rest none = no_part (91 ∷ rest) refl (λ h behind same fits. absurd (let some = header_is_behind h behind rest same fits in cc))

-- A refusal at a `[` that opens no header.
stuck_at_header : {text kind : List ℕ} {line : ℕ} (parts : List Part) (rest : List ℕ)
    → unmarked text ≡ spelled parts ++ 91 ∷ rest → AreFit parts (91 ∷ rest) → is_header_behind rest ≡ false
    → kind ≡ kind_behind parts → line ≡ line_behind (spelled parts) → IsStuck text line (91 ∷ rest) kind
stuck_at_header parts rest spelling fits none kind_is line_is = inl (record {
  parts = parts;
  whole = spelling;
  fit = fits;
  unread = omega arith;
  nothing = no_header rest none;
  kind_is = kind_is;
  line_is = line_is;
})

-- no name
pub header_without_bytes : IsStuck (codes "[]") 1 (codes "[]") (codes "section header")
header_without_bytes = stuck_at_header [] (codes "]") refl tt refl refl refl

-- no blank before the quote
pub quote_directly_behind_the_bracket : IsStuck (codes "[\"core\"]") 1 (codes "[\"core\"]") (codes "section header")
quote_directly_behind_the_bracket = stuck_at_header [] (codes "\"core\"]") refl tt refl refl refl

pub quote_directly_behind_the_name : IsStuck (codes "[a\"b\"]") 1 (codes "[a\"b\"]") (codes "section header")
quote_directly_behind_the_name = stuck_at_header [] (codes "a\"b\"]") refl tt refl refl refl

-- a blank between the quote and `]`
pub blank_behind_the_subsection : IsStuck (codes "[a \"b\" ]") 1 (codes "[a \"b\" ]") (codes "section header")
blank_behind_the_subsection = stuck_at_header [] (codes "a \"b\" ]") refl tt refl refl refl

-- blanks and no quote
pub blank_behind_the_name : IsStuck (codes "[a ]") 1 (codes "[a ]") (codes "section header")
blank_behind_the_name = stuck_at_header [] (codes "a ]") refl tt refl refl refl

-- a subsection that no quote ends, and LF in it, raw or after a backslash
pub open_subsection : IsStuck (codes "[a \"x\n") 1 (codes "[a \"x\n") (codes "section header")
open_subsection = stuck_at_header [] (codes "a \"x\n") refl tt refl refl refl

pub line_feed_in_a_subsection : IsStuck (codes "[a \"x\ny\"]") 1 (codes "[a \"x\ny\"]") (codes "section header")
line_feed_in_a_subsection = stuck_at_header [] (codes "a \"x\ny\"]") refl tt refl refl refl

pub escaped_line_feed_in_a_subsection : IsStuck (codes "[a \"x\\\ny\"]") 1 (codes "[a \"x\\\ny\"]") (codes "section header")
escaped_line_feed_in_a_subsection = stuck_at_header [] (codes "a \"x\\\ny\"]") refl tt refl refl refl

-- a header that the input breaks off, after a section
pub broken_off_header : IsStuck (codes "[a]\n[b") 2 (codes "[b") (codes "name")
broken_off_header = stuck_at_header (header (plain_header "a") ∷ line_ends "\n" ∷ []) (codes "b") refl (search fits) refl refl refl

-- a byte that no name holds
pub underscore_in_a_header : IsStuck (codes "k [a_b]") 1 (codes "[a_b]") (codes "section header")
underscore_in_a_header = stuck_at_header (alone "k" " " ∷ []) (codes "a_b]") refl (search fits) refl refl refl
