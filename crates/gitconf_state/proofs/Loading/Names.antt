-- What may follow each item of a text, and that its names are where they may be.
use Rattle.std.proofs.Common.{◌≡◌, ℕ, ◌<◌, Bool, true, false, not, List, [], ◌∷◌, ◌++◌, length, map, Option, Some, None, refl, ap, sym, subst, ◌∙◌, append_assoc, append-nil, arith, inl, inr}
use Rattle.std.specs.Prelude.{◌==◌}
use Rattle.std.proofs.lemmas.Bool.{eqb-true}
use Rattle.std.specs.Char.{is_ascii_alphabetic}
use Rattle.std.specs.List.{list_all}
use Rattle.std.proofs.lemmas.Bool.Decides.{nat_tests}
use Rattle.gitconf_text.specs.Bytes.{is_blank, is_whitespace, is_name_byte}
use Rattle.gitconf_text.specs.Text.{begins, begins_line_end}
use Rattle.gitconf_text.specs.Unit.{White, Other, class_of}
use Rattle.gitconf_text.specs.Value.{Piece, IsEnded, may_follow_value}
use Rattle.gitconf_text.specs.Names.{is_value_name}
use Rattle.gitconf_text.specs.Part.{Assigned, Entry, Item, BlanksItem, LineEndsItem, CommentItem, EntryItem, Part, ItemPart, spelled_assigned, spelled_item, FitsAssigned, FitsItem, FitsPart, spelled, AreFit}
use Rattle.gitconf_text.proofs.Tests.{both_true, apart, refuted}
use Rattle.gitconf_text.proofs.CommentEnds.{Stops, is_comment_text, comment_places}
use Rattle.gitconf_text.proofs.ByteLaws.{letter_no_line_end, letter_name_byte, mark_no_line_end, line_end_no_blank}
use Rattle.gitconf_state.specs.State.{is_entry}
use Rattle.gitconf_state.specs.Writing.{Open, Closed, OpenKey, OpenKeyAndBlanks, OpenValue, OpenComment, after_blanks, after_entry, after, may_stand_behind, stand_apart_behind}

-- the text is empty, or begins with a line ending
abbrev pub is_line_closed : List ℕ → Bool
is_line_closed [] = true
is_line_closed (b ∷ rest) = begins_line_end (b ∷ rest)

-- what follows items, told by what they leave open
abbrev pub Follows : Open → List ℕ → Type 0
Follows Closed rest = Unit {0}
Follows OpenKey rest = begins is_name_byte rest ≡ false
Follows OpenKeyAndBlanks rest = Unit {0}
Follows OpenValue rest = may_follow_value rest ≡ true
Follows OpenComment rest = is_line_closed rest ≡ true

-- the first of fitting parts fits before the others
pub first_fits : (p : Part) (parts : List Part) → AreFit (p ∷ parts) [] → FitsPart p (spelled parts)
first_fits p parts fits = subst (λ t. FitsPart p t) (append-nil (spelled parts)) fits.0

-- a letter is none of the bytes that stand for something in a value
letter_is_other : (b : ℕ) → is_ascii_alphabetic b ≡ true → class_of b ≡ Other
letter_is_other b h = rw (
  apart is_ascii_alphabetic 10 b refl h,
  apart is_ascii_alphabetic 34 b refl h,
  apart is_ascii_alphabetic 59 b refl h,
  apart is_ascii_alphabetic 35 b refl h,
  apart is_ascii_alphabetic 92 b refl h,
  refuted (is_whitespace b) (letter_no_whitespace b h),
) refl
  where
    letter_no_whitespace : (b : ℕ) → is_ascii_alphabetic b ≡ true → is_whitespace b ≡ true → ⊥
    letter_no_whitespace b h white = grind (arith, nat_tests)

-- a blank is white space
blank_is_white : (b : ℕ) → is_blank b ≡ true → class_of b ≡ White
blank_is_white b h = go (b == 32) refl
  where
    go : (t : Bool) → (b == 32) ≡ t → class_of b ≡ White
    go true e = rw (eqb-true b 32 e) refl
    go false e = rw (eqb-true b 9 (rw e at h)) refl

-- an entry begins with a letter
entry_begins : (name rest : List ℕ) → is_value_name name ≡ true → (b : ℕ) × (more : List ℕ) × (name ++ rest ≡ b ∷ more) × (is_ascii_alphabetic b ≡ true)
entry_begins [] rest is = absurd (cc)
entry_begins (b ∷ name) rest is = (b, name ++ rest, refl, (both_true _ _ is).0)

-- a letter may not follow a value
letter_behind_value : (b : ℕ) (rest : List ℕ) → is_ascii_alphabetic b ≡ true → may_follow_value (b ∷ rest) ≡ true → ⊥
letter_behind_value b rest letter h = let k = rw (letter_is_other b letter, may_follow_value) at h in cc

-- blanks may follow a value where what follows them may
past_blanks : (run rest : List ℕ) → list_all is_blank run ≡ true → may_follow_value (run ++ rest) ≡ true → may_follow_value rest ≡ true
past_blanks [] rest all h = h
past_blanks (b ∷ run) rest all h =
    let p = both_true (is_blank b) (list_all is_blank run) all in
    past_blanks run rest p.1 (rw (blank_is_white b p.0, may_follow_value) at h)

-- what follows a value of a text may follow one
value_end : (pieces : List Piece) (last rest : List ℕ) → IsEnded pieces last rest → may_follow_value rest ≡ true
value_end [] last rest ended = ended.1
value_end (p ∷ pieces) last rest ended = elim ended [
  | inl more ↦ value_end pieces last rest more.1
  | inr bare ↦ rw bare.3 refl
]

-- after a comment is a line ending, or nothing
comment_end : (text rest : List ℕ) → Stops is_comment_text rest → is_line_closed rest ≡ true
comment_end text [] stops = refl
comment_end text (b ∷ rest) stops = go (begins_line_end (b ∷ rest)) stops
  where
    go : (t : Bool) → not t ≡ false → t ≡ true
    go true h = refl
    go false h = absurd (cc)

-- Of the items only line endings may follow a comment.
pub only_line_ends : (i : Item) (rest : List ℕ) → FitsItem i rest → is_line_closed (spelled_item i ++ rest) ≡ true → (run : List ℕ) × (i ≡ LineEndsItem run)
only_line_ends (BlanksItem []) rest fits closed = absurd (let h : 0 < 0 = fits.0 in omega arith)
only_line_ends (BlanksItem (b ∷ run)) rest fits closed =
    absurd (let h = line_end_no_blank b (run ++ rest) closed in let k = (both_true (is_blank b) _ fits.1).0 in cc)
only_line_ends (LineEndsItem run) rest fits closed = (run, refl)
only_line_ends (CommentItem tag text) rest fits closed = absurd (let h = mark_no_line_end tag (text ++ rest) fits.0 in cc)
only_line_ends (EntryItem e) rest fits closed = absurd (
    let f = entry_begins e.name ((e.blanks ++ spelled_assigned e.assigned) ++ rest) fits.0 in
    let h : is_line_closed (f.0 ∷ f.1) ≡ true = ap is_line_closed (sym f.2 ∙ sym (append_assoc e.name _ rest)) ∙ closed in
    let k = letter_no_line_end f.0 f.1 f.3 in
    cc)

-- blanks after what is open
behind_blanks : (before : Open) (run rest : List ℕ) → 0 < length run → list_all is_blank run ≡ true → Follows before (run ++ rest) → Follows (after_blanks run before) rest
behind_blanks before [] rest some all h = absurd (let h : 0 < 0 = some in omega arith)
behind_blanks Closed (b ∷ run) rest some all h = tt
behind_blanks OpenKey (b ∷ run) rest some all h = tt
behind_blanks OpenKeyAndBlanks (b ∷ run) rest some all h = tt
behind_blanks OpenValue (b ∷ run) rest some all h = past_blanks (b ∷ run) rest all h
behind_blanks OpenComment (b ∷ run) rest some all h = absurd (let k = line_end_no_blank b (run ++ rest) h in let l = (both_true (is_blank b) _ all).0 in cc)

-- what an entry without `=` leaves open
behind_key : (blanks rest : List ℕ) → begins is_name_byte (blanks ++ rest) ≡ false → Follows (after_blanks blanks OpenKey) rest
behind_key [] rest h = h
behind_key (b ∷ blanks) rest h = tt

-- what an entry leaves open, if no comment comes before on its line
behind_closed : (blanks : List ℕ) (assigned : Option Assigned) (rest : List ℕ) → FitsAssigned blanks assigned rest → Follows (after_entry Closed blanks assigned) rest
behind_closed blanks None rest fits = behind_key blanks rest fits.0
behind_closed blanks (Some a) rest fits = value_end a.value.pieces a.value.last rest fits.1.end

-- the same after an entry without `=` and blanks
behind_key_and_blanks : (blanks : List ℕ) (assigned : Option Assigned) (rest : List ℕ) → FitsAssigned blanks assigned rest → Follows (after_entry OpenKeyAndBlanks blanks assigned) rest
behind_key_and_blanks blanks None rest fits = behind_key blanks rest fits.0
behind_key_and_blanks blanks (Some a) rest fits = value_end a.value.pieces a.value.last rest fits.1.end

-- A name is where it may be, and what follows it may.
behind_entry : (before : Open) (e : Entry) (rest : List ℕ) → FitsItem (EntryItem e) rest → Follows before (spelled_item (EntryItem e) ++ rest)
    → (may_stand_behind before (EntryItem e) ≡ true) × Follows (after before (EntryItem e)) rest
behind_entry Closed e rest fits h = (refl, behind_closed e.blanks e.assigned rest fits.2)
behind_entry OpenKeyAndBlanks e rest fits h = (refl, behind_key_and_blanks e.blanks e.assigned rest fits.2)
behind_entry OpenKey e rest fits h = absurd (
    let f = entry_begins e.name ((e.blanks ++ spelled_assigned e.assigned) ++ rest) fits.0 in
    let k : is_name_byte f.0 ≡ false = ap (begins is_name_byte) (sym f.2 ∙ sym (append_assoc e.name _ rest)) ∙ h in
    let l = letter_name_byte f.0 f.3 in
    cc)
behind_entry OpenValue e rest fits h = absurd (
    let f = entry_begins e.name ((e.blanks ++ spelled_assigned e.assigned) ++ rest) fits.0 in
    letter_behind_value f.0 f.1 f.3 (ap may_follow_value (sym f.2 ∙ sym (append_assoc e.name _ rest)) ∙ h))
behind_entry OpenComment e rest fits h = absurd (let r = only_line_ends (EntryItem e) rest fits h in let k = r.1 in cc)

-- what is no entry may be anywhere
pub stands_anywhere : (before : Open) (i : Item) → is_entry i ≡ false → may_stand_behind before i ≡ true
stands_anywhere before (EntryItem e) none = absurd (cc)
stands_anywhere before (BlanksItem run) none = go before
  where
    go : (before : Open) → may_stand_behind before (BlanksItem run) ≡ true
    go Closed = refl
    go OpenKey = refl
    go OpenKeyAndBlanks = refl
    go OpenValue = refl
    go OpenComment = refl
stands_anywhere before (LineEndsItem run) none = go before
  where
    go : (before : Open) → may_stand_behind before (LineEndsItem run) ≡ true
    go Closed = refl
    go OpenKey = refl
    go OpenKeyAndBlanks = refl
    go OpenValue = refl
    go OpenComment = refl
stands_anywhere before (CommentItem tag text) none = go before
  where
    go : (before : Open) → may_stand_behind before (CommentItem tag text) ≡ true
    go Closed = refl
    go OpenKey = refl
    go OpenKeyAndBlanks = refl
    go OpenValue = refl
    go OpenComment = refl

-- An item is where it may be, and what follows it may.
pub behind_item : (before : Open) (i : Item) (rest : List ℕ) → FitsItem i rest → Follows before (spelled_item i ++ rest)
    → (may_stand_behind before i ≡ true) × Follows (after before i) rest
behind_item before (BlanksItem run) rest fits h = (stands_anywhere before (BlanksItem run) refl, behind_blanks before run rest fits.0 fits.1 h)
behind_item before (LineEndsItem run) rest fits h = (stands_anywhere before (LineEndsItem run) refl, tt)
behind_item before (CommentItem tag text) rest fits h =
    (stands_anywhere before (CommentItem tag text) refl, comment_end text rest (comment_places text rest fits.1 fits.2).1)
behind_item before (EntryItem e) rest fits h = behind_entry before e rest fits h

-- The names of a text's front are where they may be.
pub names_stand : (before : Open) (items : List Item) (tail : List Part) → AreFit (map ItemPart items ++ tail) [] → Follows before (spelled (map ItemPart items ++ tail))
    → stand_apart_behind before items ≡ true
names_stand before [] tail fits h = refl
names_stand before (i ∷ items) tail fits h =
    let r = behind_item before i (spelled (map ItemPart items ++ tail)) (first_fits (ItemPart i) (map ItemPart items ++ tail) fits) h in
    rw r.0 (names_stand (after before i) items tail fits.1 r.1)
