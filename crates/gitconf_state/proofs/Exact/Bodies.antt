-- The items of a text whose keys have lines of their own: no line ending is put among them, and none after their header or their last one.
use Rattle.std.proofs.Common.{◌≡◌, ℕ, Bool, true, false, not, List, [], ◌∷◌, ◌++◌, map, refl, ap, sym, subst, ◌∙◌, append-nil}
use Rattle.std.specs.Prelude.{◌||◌}
use Rattle.std.specs.List.{fold, list_all}
use Rattle.gitconf_text.specs.Part.{Entry, Item, BlanksItem, LineEndsItem, CommentItem, EntryItem, Part, ItemPart, spelled_item, FitsItem, spelled, AreFit}
use Rattle.gitconf_text.proofs.Tests.{both_true}
use Rattle.gitconf_state.specs.LineEnds.{holds, ends_line}
use Rattle.gitconf_state.specs.Printing.{begins_on_a_line}
use Rattle.gitconf_state.specs.Inserted.{headers_begin_lines, keys_have_lines, values_are_closed}
use Rattle.gitconf_state.specs.Writing.{Open, Closed, OpenKey, OpenKeyAndBlanks, OpenValue, OpenComment, after_blanks, after, breaks_behind, written_items}
use Rattle.gitconf_state.proofs.Loading.Names.{Follows, first_fits, only_line_ends, behind_item}
use Rattle.gitconf_state.proofs.Exact.Ends.{EndsLine, rest_ends_line}
use Rattle.gitconf_state.proofs.Exact.Items.{item_same, last_line_ends}
use Rattle.gitconf_state.proofs.Exact.LineEnds.{holds_line_end}
use Rattle.gitconf_state.proofs.Printing.LastLines.{ends_with, ends_line-is}

-- in a body, after an entry the line is taken
abbrev pub Taken : (in_body : Bool) → Open → (taken : Bool) → Type 0
Taken false before taken = Unit {0}
Taken true Closed taken = Unit {0}
Taken true OpenComment taken = Unit {0}
Taken true OpenKey taken = taken ≡ true
Taken true OpenKeyAndBlanks taken = taken ≡ true
Taken true OpenValue taken = taken ≡ true

-- whether the line is taken after an item
abbrev pub taken_after : (taken : Bool) → Item → Bool
taken_after taken (BlanksItem run) = taken
taken_after taken (LineEndsItem run) = false
taken_after taken (CommentItem tag text) = taken
taken_after taken (EntryItem e) = true

-- keys after an item have lines of their own too
keys_after : (taken : Bool) (i : Item) (parts : List Part) → keys_have_lines taken (ItemPart i ∷ parts) ≡ true → keys_have_lines (taken_after taken i) parts ≡ true
keys_after taken (BlanksItem run) parts keys = keys
keys_after taken (LineEndsItem run) parts keys = keys
keys_after taken (CommentItem tag text) parts keys = keys
keys_after taken (EntryItem e) parts keys = (both_true (not taken) (keys_have_lines true parts) keys).1

-- blanks leave a line as it is
taken_blanks : (in_body : Bool) (before : Open) (taken : Bool) (run : List ℕ) → Taken in_body before taken → Taken in_body (after_blanks run before) taken
taken_blanks false before taken run is = tt
taken_blanks true before taken [] is = is
taken_blanks true Closed taken (b ∷ run) is = tt
taken_blanks true OpenKey taken (b ∷ run) is = is
taken_blanks true OpenKeyAndBlanks taken (b ∷ run) is = is
taken_blanks true OpenValue taken (b ∷ run) is = is
taken_blanks true OpenComment taken (b ∷ run) is = tt

-- what follows an entry is open in some way, and the line is taken
all_taken : (in_body : Bool) (before : Open) → Taken in_body before true
all_taken false before = tt
all_taken true Closed = tt
all_taken true OpenKey = refl
all_taken true OpenKeyAndBlanks = refl
all_taken true OpenValue = refl
all_taken true OpenComment = tt

-- after each item the line is taken if it has to be
taken_item : (in_body : Bool) (before : Open) (taken : Bool) (i : Item) → Taken in_body before taken → Taken in_body (after before i) (taken_after taken i)
taken_item in_body before taken (BlanksItem run) is = taken_blanks in_body before taken run is
taken_item in_body before taken (LineEndsItem run) is = closed in_body
  where
    closed : (in_body : Bool) → Taken in_body Closed false
    closed false = tt
    closed true = tt
taken_item in_body before taken (CommentItem tag text) is = comment in_body
  where
    comment : (in_body : Bool) → Taken in_body OpenComment taken
    comment false = tt
    comment true = tt
taken_item in_body before taken (EntryItem e) is = all_taken in_body (after before (EntryItem e))

-- on a line that is taken no key is
untaken : (taken : Bool) (parts : List Part) (e : Entry) → taken ≡ true → keys_have_lines taken (ItemPart (EntryItem e) ∷ parts) ≡ true → ⊥
untaken true parts e is keys = cc
untaken false parts e is keys = cc

-- before an item no line ending is put
no_break : (in_body : Bool) (before : Open) (taken : Bool) (i : Item) (rest : List ℕ) (parts : List Part) → FitsItem i rest → Follows before (spelled_item i ++ rest)
    → Taken in_body before taken → keys_have_lines taken (ItemPart i ∷ parts) ≡ true → breaks_behind in_body before i ≡ false
no_break in_body Closed taken (BlanksItem run) rest parts fits follows is keys = refl
no_break in_body Closed taken (LineEndsItem run) rest parts fits follows is keys = refl
no_break in_body Closed taken (CommentItem tag text) rest parts fits follows is keys = refl
no_break in_body Closed taken (EntryItem e) rest parts fits follows is keys = refl
no_break in_body OpenKey taken (BlanksItem run) rest parts fits follows is keys = refl
no_break in_body OpenKey taken (LineEndsItem run) rest parts fits follows is keys = refl
no_break in_body OpenKey taken (CommentItem tag text) rest parts fits follows is keys = refl
no_break false OpenKey taken (EntryItem e) rest parts fits follows is keys = refl
no_break true OpenKey taken (EntryItem e) rest parts fits follows is keys = absurd (untaken taken parts e is keys)
no_break in_body OpenKeyAndBlanks taken (BlanksItem run) rest parts fits follows is keys = refl
no_break in_body OpenKeyAndBlanks taken (LineEndsItem run) rest parts fits follows is keys = refl
no_break in_body OpenKeyAndBlanks taken (CommentItem tag text) rest parts fits follows is keys = refl
no_break false OpenKeyAndBlanks taken (EntryItem e) rest parts fits follows is keys = refl
no_break true OpenKeyAndBlanks taken (EntryItem e) rest parts fits follows is keys = absurd (untaken taken parts e is keys)
no_break in_body OpenValue taken (BlanksItem run) rest parts fits follows is keys = refl
no_break in_body OpenValue taken (LineEndsItem run) rest parts fits follows is keys = refl
no_break in_body OpenValue taken (CommentItem tag text) rest parts fits follows is keys = refl
no_break false OpenValue taken (EntryItem e) rest parts fits follows is keys = refl
no_break true OpenValue taken (EntryItem e) rest parts fits follows is keys = absurd (untaken taken parts e is keys)
no_break in_body OpenComment taken i rest parts fits follows is keys = let r = only_line_ends i rest fits follows in rw r.1 refl

-- Fitting items whose keys have lines of their own are printed as they are.
pub items_same : (in_body : Bool) (line_end : List ℕ) (before : Open) (taken : Bool) (items : List Item) (tail : List Part) → AreFit (map ItemPart items ++ tail) []
    → Follows before (spelled (map ItemPart items ++ tail)) → Taken in_body before taken → keys_have_lines taken (map ItemPart items ++ tail) ≡ true
    → EndsLine (spelled (map ItemPart items ++ tail)) → written_items in_body line_end before items ≡ items
items_same in_body line_end before taken [] tail fits follows is keys line = refl
items_same in_body line_end before taken (i ∷ items) tail fits follows is keys line =
    let parts = map ItemPart items ++ tail in
    let fits_first = first_fits (ItemPart i) parts fits in
    let none = no_break in_body before taken i (spelled parts) parts fits_first follows is keys in
    let first = item_same line_end i (spelled parts) fits_first line in
    let rest = items_same in_body line_end (after before i) (taken_after taken i) items tail fits.1 (behind_item before i (spelled parts) fits_first follows).1
    (taken_item in_body before taken i is) (keys_after taken i parts keys) (rest_ends_line (spelled_item i) (spelled parts) line) in
    rw (none, written_items) (ap (λ (x : Item). x ∷ written_items in_body line_end (after before i) items) first ∙ ap (λ xs. i ∷ xs) rest)

-- the last item is line endings; fresh: or there is none
abbrev pub ends_fresh : (fresh : Bool) → List Item → Bool
ends_fresh fresh [] = fresh
ends_fresh fresh (BlanksItem run ∷ items) = ends_fresh false items
ends_fresh fresh (LineEndsItem run ∷ items) = ends_fresh true items
ends_fresh fresh (CommentItem tag text ∷ items) = ends_fresh false items
ends_fresh fresh (EntryItem e ∷ items) = ends_fresh false items

-- if there is one, nothing else says
pub fresh_again : (fresh other : Bool) (i : Item) (items : List Item) → ends_fresh fresh (i ∷ items) ≡ ends_fresh other (i ∷ items)
fresh_again fresh other (BlanksItem run) items = refl
fresh_again fresh other (LineEndsItem run) items = refl
fresh_again fresh other (CommentItem tag text) items = refl
fresh_again fresh other (EntryItem e) items = refl

-- The three walks over the parts, past items.
pub headers_past : (fresh : Bool) (items : List Item) (tail : List Part) → headers_begin_lines fresh (map ItemPart items ++ tail) ≡ headers_begin_lines (ends_fresh fresh items) tail
headers_past fresh [] tail = refl
headers_past fresh (BlanksItem run ∷ items) tail = headers_past false items tail
headers_past fresh (LineEndsItem run ∷ items) tail = headers_past true items tail
headers_past fresh (CommentItem tag text ∷ items) tail = headers_past false items tail
headers_past fresh (EntryItem e ∷ items) tail = headers_past false items tail

-- keys after items have lines of their own too
pub keys_past : (taken : Bool) (items : List Item) (tail : List Part) → keys_have_lines taken (map ItemPart items ++ tail) ≡ true → (later : Bool) × (keys_have_lines later tail ≡ true)
keys_past taken [] tail keys = (taken, keys)
keys_past taken (i ∷ items) tail keys = keys_past (taken_after taken i) items tail (keys_after taken i (map ItemPart items ++ tail) keys)

-- so are values after items closed
pub values_past : (ended : Bool) (items : List Item) (tail : List Part) → values_are_closed ended (map ItemPart items ++ tail) ≡ true → (later : Bool) × (values_are_closed later tail ≡ true)
values_past ended [] tail values = (ended, values)
values_past ended (BlanksItem run ∷ items) tail values = values_past ended items tail values
values_past ended (LineEndsItem run ∷ items) tail values = values_past false items tail values
values_past ended (CommentItem tag text ∷ items) tail values = values_past false items tail values
values_past ended (EntryItem e ∷ items) tail values = values_past _ items tail values

-- A body whose last item is line endings begins on a line: no key is on the header's.
pub begins_same : (items : List Item) (tail : List Part) → keys_have_lines true (map ItemPart items ++ tail) ≡ true → ends_fresh false items ≡ true → begins_on_a_line items ≡ true
begins_same [] tail keys ended = absurd (cc)
begins_same (BlanksItem run ∷ items) tail keys ended = begins_same items tail keys ended
begins_same (LineEndsItem run ∷ items) tail keys ended = refl
begins_same (CommentItem tag text ∷ items) tail keys ended = begins_same items tail keys ended
begins_same (EntryItem e ∷ items) tail keys ended = absurd (cc)

-- where the second holds, one of the two does
pub last_holds : (a b : Bool) → b ≡ true → (a || b) ≡ true
last_holds true b h = refl
last_holds false b h = h

-- items whose last one is line endings end with the line ending that these hold, whatever comes before
ended_from : (line_end : List ℕ) (fresh ended : Bool) (items : List Item) (tail : List Part) → (fresh ≡ true → ended ≡ true)
    → list_all (holds_line_end line_end) (map ItemPart items ++ tail) ≡ true → ends_fresh fresh items ≡ true → fold (ends_with line_end) ended items ≡ true
ended_from line_end fresh ended [] tail so all is = so is
ended_from line_end fresh ended (BlanksItem run ∷ items) tail so all is = ended_from line_end false ended items tail (λ h. absurd (cc)) all is
ended_from line_end fresh ended (LineEndsItem run ∷ items) tail so all is =
    let b = both_true (holds line_end run) (list_all (holds_line_end line_end) (map ItemPart items ++ tail)) all in
    ended_from line_end true (ended || holds line_end run) items tail (λ h. last_holds ended (holds line_end run) b.0) b.1 is
ended_from line_end fresh ended (CommentItem tag text ∷ items) tail so all is = ended_from line_end false false items tail (λ h. absurd (cc)) all is
ended_from line_end fresh ended (EntryItem e ∷ items) tail so all is = ended_from line_end false false items tail (λ h. absurd (cc)) all is

-- Items whose last one is line endings end with the line ending that these hold.
pub ends_same : (line_end : List ℕ) (items : List Item) (tail : List Part) → list_all (holds_line_end line_end) (map ItemPart items ++ tail) ≡ true → ends_fresh false items ≡ true
    → ends_line line_end items ≡ true
ends_same line_end items tail all is = sym (ends_line-is line_end items) ∙ ended_from line_end false false items tail (λ h. h) all is

-- Items at the end of a text that ends a line ending with line endings.
pub last_fresh : (fresh open_value : Bool) (i : Item) (items : List Item) → AreFit (map ItemPart (i ∷ items)) [] → values_are_closed open_value (map ItemPart (i ∷ items)) ≡ true
    → EndsLine (spelled (map ItemPart (i ∷ items))) → ends_fresh fresh (i ∷ items) ≡ true
last_fresh fresh open_value i [] fits values line =
    let r = last_line_ends open_value i fits.0 (subst EndsLine (append-nil (spelled_item i)) line) values in
    rw r.1 refl
last_fresh fresh open_value i (j ∷ items) fits values line =
    let past = values_past open_value (i ∷ []) (map ItemPart (j ∷ items)) values in
    fresh_past fresh i (j ∷ items) (last_fresh (ends_fresh fresh (i ∷ [])) past.0 j items fits.1 past.1 (rest_ends_line (spelled_item i) (spelled (map ItemPart (j ∷ items))) line))
  where
    fresh_past : (fresh : Bool) (i : Item) (items : List Item) → ends_fresh (ends_fresh fresh (i ∷ [])) items ≡ true → ends_fresh fresh (i ∷ items) ≡ true
    fresh_past fresh (BlanksItem run) items is = is
    fresh_past fresh (LineEndsItem run) items is = is
    fresh_past fresh (CommentItem tag text) items is = is
    fresh_past fresh (EntryItem e) items is = is
