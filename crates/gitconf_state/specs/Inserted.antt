-- Texts with line endings inserted, and the inputs that need none.
-- Source: this project's profile.
use Rattle.std.specs.Prelude.{◌≡◌, ◌⊎◌, ℕ, Bool, true, false, not, List, [], ◌∷◌, ◌++◌, ◌&&◌, ◌||◌, ◌==◌, Option, Some, None}
use Rattle.std.specs.List.{list_all}
use Rattle.gitconf_text.specs.Text.{ends, is_line_end}
use Rattle.gitconf_text.specs.Part.{Assigned, BlanksItem, LineEndsItem, EntryItem, Part, ItemPart, HeaderPart, spelled}
use Rattle.gitconf_text.specs.Token.{Token, NewlineToken, tokens_of}

-- the whole is the texts in order, with a line ending inserted after some of them
abbrev pub Inserted : (texts : List (List ℕ)) → (whole : List ℕ) → Type 0
Inserted [] whole = whole ≡ []
Inserted (text ∷ texts) whole = (rest : List ℕ) × Inserted texts rest
    × ((whole ≡ text ++ rest) ⊎ ((line_end : List ℕ) × (is_line_end line_end ≡ true) × (whole ≡ text ++ (line_end ++ rest))))

-- each LF follows a CR, and each CR is before a LF
abbrev pub are_pairs : List ℕ → Bool
are_pairs [] = true
are_pairs (b ∷ []) = false
are_pairs (b ∷ c ∷ run) = b == 13 && c == 10 && are_pairs run

-- the line endings of a token pass the test
abbrev pub newline_passes : (List ℕ → Bool) → Token → Bool
newline_passes test (NewlineToken run) = test run
newline_passes test _ = true

-- all line endings are LF, or all are CR LF; those within values are among them
abbrev pub are_of_one_kind : List Part → Bool
are_of_one_kind parts = list_all (newline_passes (list_all (λ b. b == 10))) (tokens_of parts) || list_all (newline_passes are_pairs) (tokens_of parts)

-- each header begins the input, or directly follows a line ending; `fresh`: a header may come here
abbrev pub headers_begin_lines : (fresh : Bool) → List Part → Bool
headers_begin_lines fresh [] = true
headers_begin_lines fresh (HeaderPart h ∷ parts) = fresh && headers_begin_lines false parts
headers_begin_lines fresh (ItemPart (LineEndsItem run) ∷ parts) = headers_begin_lines true parts
headers_begin_lines fresh (ItemPart _ ∷ parts) = headers_begin_lines false parts

-- no key is on a header's line or on another key's; `taken`: this line already has a header or a key
abbrev pub keys_have_lines : (taken : Bool) → List Part → Bool
keys_have_lines taken [] = true
keys_have_lines taken (HeaderPart h ∷ parts) = keys_have_lines true parts
keys_have_lines taken (ItemPart (LineEndsItem run) ∷ parts) = keys_have_lines false parts
keys_have_lines taken (ItemPart (EntryItem e) ∷ parts) = not taken && keys_have_lines true parts
keys_have_lines taken (ItemPart _ ∷ parts) = keys_have_lines taken parts

-- a value of several pieces whose last piece is empty
abbrev pub ends_empty : Option Assigned → Bool
ends_empty None = false
ends_empty (Some a) = elim a.value.pieces [ [] ↦ false | p ∷ pieces ↦ elim a.value.last [ [] ↦ true | b ∷ bs ↦ false ] ]

-- no section and no front ends with an empty last piece and blanks; `ended`: it would, if it ended here
abbrev pub values_are_closed : (ended : Bool) → List Part → Bool
values_are_closed ended [] = not ended
values_are_closed ended (HeaderPart h ∷ parts) = not ended && values_are_closed false parts
values_are_closed ended (ItemPart (BlanksItem run) ∷ parts) = values_are_closed ended parts
values_are_closed ended (ItemPart (EntryItem e) ∷ parts) = values_are_closed (ends_empty e.assigned) parts
values_are_closed ended (ItemPart _ ∷ parts) = values_are_closed false parts

-- the parts of an input that is written byte for byte: line endings of one kind, and one at the end; headers at line starts;
-- at most one key a line, and none on a header's; no value left open at the end of the front or of a section
pub record IsByteForByte (parts : List Part) : Type 0 where
  pub one_kind : are_of_one_kind parts ≡ true
  pub ended : ends (λ b. b == 10) (spelled parts) ≡ true
  pub headers : headers_begin_lines true parts ≡ true
  pub keys : keys_have_lines false parts ≡ true
  pub values : values_are_closed false parts ≡ true
