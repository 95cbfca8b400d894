-- How many bytes the tokens of a new value have.
use Rattle.std.proofs.Common.{◌≡◌, ℕ, suc, ◌+◌, ◌≤◌, Bool, true, false, List, [], ◌∷◌, ◌++◌, length, Option, Some, None, refl, ap, ◌∙◌, arith, append-nil, length-append}
use Rattle.std.specs.Prelude.{flat_map, filter, ◌||◌}
use Rattle.std.specs.List.{list_any, last_or}
use Rattle.std.proofs.lemmas.Grind.{flat_map-append}
use Rattle.gitconf_text.specs.Part.{Assigned, Item, BlanksItem, LineEndsItem, CommentItem, EntryItem}
use Rattle.gitconf_text.specs.Token.{Token, HeaderToken, WhitespaceToken, NewlineToken, ValueToken, NameToken, SeparatorToken, item_tokens, filled, spelled_token}
use Rattle.gitconf_text.specs.Value.{escaped}
use Rattle.gitconf_state.specs.Edit.{Spacing, blank_bytes, header_bytes, is_target, made_header, new_section_bytes, new_section_tokens, set_bytes, set_raw_value_bytes, set_raw_value_tokens, is_entry_of, spacing_of, leading_item, new_entry, value_set_tokens, value_tokens_of, set_tokens, token_bytes}
use Rattle.gitconf_sources.specs.Metadata.{Meta}
use Rattle.gitconf_state.specs.LineEnds.{file_line_end}
use Rattle.gitconf_state.specs.State.{SectionState, State, is_entry}
use Rattle.gitconf_text.specs.Header.{spelled_header}
use Rattle.gitconf_state.proofs.Edits.Lists.{filter_none, last_passing}
use Rattle.gitconf_body.specs.Places.{IsLastAt}
use Rattle.gitconf_body.specs.Spacings.{option_bytes, spacing_bytes}

run_bytes : (run : List ℕ) → token_bytes (filled WhitespaceToken run) ≡ length run
run_bytes [] = refl
run_bytes (b ∷ run) = ap length (append-nil (b ∷ run))

both_bytes : (a b : List Token) → token_bytes (a ++ b) ≡ token_bytes a + token_bytes b
both_bytes a b = ap length (flat_map-append spelled_token a b) ∙ length-append (flat_map spelled_token a) (flat_map spelled_token b)

one_bytes : (t : Token) (ts : List Token) → token_bytes (t ∷ ts) ≡ length (spelled_token t) + token_bytes ts
one_bytes t ts = length-append (spelled_token t) (flat_map spelled_token ts)

-- those of `=`, the blanks behind it and the value
assigned_bytes : (blanks value : List ℕ) → token_bytes (SeparatorToken ∷ (filled WhitespaceToken blanks ++ ValueToken (escaped value) ∷ [])) ≡ 1 + length blanks + length (escaped value)
assigned_bytes blanks value =
    let a = one_bytes SeparatorToken (filled WhitespaceToken blanks ++ ValueToken (escaped value) ∷ []) in
    let b = both_bytes (filled WhitespaceToken blanks) (ValueToken (escaped value) ∷ []) in
    let d = run_bytes blanks in
    let e = one_bytes (ValueToken (escaped value)) [] in
    omega (arith, a, b, d, e)

-- A new value is no longer than its tokens.
pub value_within : (spacing : Spacing) (key value : List ℕ) (i : Item) → is_entry_of key i ≡ true → length (escaped value) ≤ token_bytes (value_tokens_of spacing value i)
value_within spacing key value (BlanksItem run) is = absurd (cc)
value_within spacing key value (LineEndsItem run) is = absurd (cc)
value_within spacing key value (CommentItem tag text) is = absurd (cc)
value_within spacing key value (EntryItem e) is = go e.assigned refl
  where
    go : (o : Option Assigned) → e.assigned ≡ o → length (escaped value) ≤ token_bytes (value_tokens_of spacing value (EntryItem e))
    go (Some a) at = rw at (let l = one_bytes (ValueToken (escaped value)) [] in omega (arith, l))
    go None at =
        let b = both_bytes (filled WhitespaceToken spacing.before) (SeparatorToken ∷ (filled WhitespaceToken spacing.behind ++ ValueToken (escaped value) ∷ [])) in
        let d = assigned_bytes spacing.behind value in
        rw at (omega (arith, b, d))

-- A new entry is no longer than its tokens.
pub entry_within : (s : Spacing) (line_end key value : List ℕ)
    → spacing_bytes s + (length key + length (escaped value) + length line_end) ≤ token_bytes (flat_map item_tokens (new_entry s line_end key value))
entry_within s line_end key value =
    let a = ap token_bytes (flat_map-append item_tokens (leading_item s.leading) behind_items) in
    let b = both_bytes (flat_map item_tokens (leading_item s.leading)) (flat_map item_tokens behind_items) in
    let d = leading s.leading in
    let e = one_bytes (NameToken key) ((filled WhitespaceToken s.before ++ (SeparatorToken ∷ (filled WhitespaceToken s.behind ++ ValueToken (escaped value) ∷ []))) ++ (NewlineToken line_end ∷ [])) in
    let f = both_bytes (filled WhitespaceToken s.before ++ (SeparatorToken ∷ (filled WhitespaceToken s.behind ++ ValueToken (escaped value) ∷ []))) (NewlineToken line_end ∷ []) in
    let g = both_bytes (filled WhitespaceToken s.before) (SeparatorToken ∷ (filled WhitespaceToken s.behind ++ ValueToken (escaped value) ∷ [])) in
    let h = assigned_bytes s.behind value in
    let i = run_bytes s.before in
    let j = one_bytes (NewlineToken line_end) [] in
    omega (arith, a, b, d, e, f, g, h, i, j)
  where
    behind_items : List Item
    behind_items = EntryItem (record { name = key; blanks = s.before; assigned = Some (record { blanks = s.behind; value = record { pieces = []; last = escaped value } }) }) ∷ LineEndsItem line_end ∷ []

    leading : (o : Option (List ℕ)) → token_bytes (flat_map item_tokens (leading_item o)) ≡ option_bytes o
    leading None = refl
    leading (Some run) = ap length (append-nil run)

-- The tokens of a value that is set in an entry, and of one in a new entry.
pub set_tokens_at : (line_end key value : List ℕ) (items before : List Item) (i : Item) (behind : List Item) → items ≡ before ++ i ∷ behind
    → is_entry_of key i ≡ true → list_any (is_entry_of key) behind ≡ false → set_tokens line_end key value items ≡ value_tokens_of (spacing_of items) value i
set_tokens_at line_end key value items before i behind is passes none =
    found (last_or None (filter (is_entry_of key) items)) (ap (λ xs. last_or None (filter (is_entry_of key) xs)) is ∙ last_passing (is_entry_of key) None before i behind passes none)
  where
    found : (o : Option Item) → o ≡ Some i
        → elim o as (λ _. List Token) [ None ↦ flat_map item_tokens (new_entry (spacing_of items) line_end key value) | Some i ↦ value_tokens_of (spacing_of items) value i ] ≡ value_tokens_of (spacing_of items) value i
    found o e = rw e refl

pub set_tokens_new : (line_end key value : List ℕ) (items : List Item) → list_any (is_entry_of key) items ≡ false
    → set_tokens line_end key value items ≡ flat_map item_tokens (new_entry (spacing_of items) line_end key value)
set_tokens_new line_end key value items none = rw (filter_none (is_entry_of key) items none, value_set_tokens) refl

any_at : {A : Type 0} (test : A → Bool) (before : List A) (x : A) (behind : List A) → test x ≡ true → list_any test (before ++ x ∷ behind) ≡ true
any_at test [] x behind is = rw is refl
any_at test (y ∷ before) x behind is = rw (any_at test before x behind is) (either (test y))
  where
    either : (b : Bool) → (b || true) ≡ true
    either true = refl
    either false = refl

-- What is put into the buffer: a value where there is an entry, and else a line.
pub put_at : (line_end key value : List ℕ) (items : List Item) (at : ℕ) → IsLastAt (is_entry_of key) items at → set_bytes line_end key value items ≡ length (escaped value)
put_at line_end key value items at l = rw (ap (list_any (is_entry_of key)) l.is ∙ any_at (is_entry_of key) l.before l.found l.behind l.passes, set_bytes) refl

pub put_new : (line_end key value : List ℕ) (items : List Item) → list_any (is_entry_of key) items ≡ false
    → set_bytes line_end key value items ≡ blank_bytes items + (length key + length (escaped value) + length line_end)
put_new line_end key value items none = rw (none, set_bytes) refl

-- What is put into the buffer is no longer than these tokens.
pub set_bytes_at : (line_end key value : List ℕ) (items : List Item) (at : ℕ) → IsLastAt (is_entry_of key) items at
    → length (escaped value) ≤ token_bytes (set_tokens line_end key value items)
set_bytes_at line_end key value items at l =
    rw (set_tokens_at line_end key value items l.before l.found l.behind l.is l.passes l.none) (value_within (spacing_of items) key value l.found l.passes)

pub set_bytes_new : (line_end key value : List ℕ) (items : List Item) → list_any (is_entry_of key) items ≡ false
    → spacing_bytes (spacing_of items) + (length key + length (escaped value) + length line_end) ≤ token_bytes (set_tokens line_end key value items)
set_bytes_new line_end key value items none = rw (set_tokens_new line_end key value items none) (entry_within (spacing_of items) line_end key value)

pub last_exists : {A : Type 0} (test : A → Bool) (xs : List A) → list_any test xs ≡ true → (at : ℕ) × IsLastAt test xs at
last_exists test [] some = absurd (cc)
last_exists {A} test (x ∷ xs) some = go (list_any test xs) refl (last_exists test xs)
  where
    first : (b : Bool) → test x ≡ b → list_any test xs ≡ false → IsLastAt test (x ∷ xs) 0
    first true is none = record { before = []; found = x; behind = xs; is = refl; place = refl; passes = is; none = none }
    first false is none = absurd (let no = rw (is, none) at some in cc)

    go : (b : Bool) → list_any test xs ≡ b → (list_any test xs ≡ true → (at : ℕ) × IsLastAt test xs at) → (at : ℕ) × IsLastAt test (x ∷ xs) at
    go false none later = (0, first (test x) refl none)
    go true more later =
        let l = later more in
        (suc l.0, record { before = x ∷ l.1.before; found = l.1.found; behind = l.1.behind; is = ap (λ ys. x ∷ ys) l.1.is; place = ap suc l.1.place; passes = l.1.passes; none = l.1.none })

blanks_within : (items : List Item) → blank_bytes items ≤ spacing_bytes (spacing_of items)
blanks_within items = go (list_any is_entry items) refl
  where
    go : (b : Bool) → list_any is_entry items ≡ b → blank_bytes items ≤ spacing_bytes (spacing_of items)
    go true is = rw (is, blank_bytes) (omega arith)
    go false is = rw (is, blank_bytes, spacing_of) (omega arith)

-- What is put for a value is no longer than its tokens.
set_put_within : (line_end key value : List ℕ) (items : List Item) → set_bytes line_end key value items ≤ token_bytes (set_tokens line_end key value items)
set_put_within line_end key value items = go (list_any (is_entry_of key) items) refl
  where
    go : (b : Bool) → list_any (is_entry_of key) items ≡ b → set_bytes line_end key value items ≤ token_bytes (set_tokens line_end key value items)
    go true some =
        let l = last_exists (is_entry_of key) items some in
        let put = put_at line_end key value items l.0 l.1 in
        let tokens = set_bytes_at line_end key value items l.0 l.1 in
        omega (arith, put, tokens)
    go false none =
        let put = put_new line_end key value items none in
        let tokens = set_bytes_new line_end key value items none in
        let blanks = blanks_within items in
        omega (arith, put, tokens, blanks)

header_put_within : (name : List ℕ) (subsection : Option (List ℕ)) → header_bytes name subsection ≤ length (spelled_header (made_header name subsection))
header_put_within name None = simp length-append (omega arith)
header_put_within name (Some subsection) = simp length-append (omega arith)

section_put_within : (line_end name : List ℕ) (subsection : Option (List ℕ)) (key value : List ℕ)
    → new_section_bytes line_end name subsection key value ≤ token_bytes (new_section_tokens line_end name subsection key value)
section_put_within line_end name subsection key value =
    let body = set_tokens line_end key value (LineEndsItem line_end ∷ []) in
    let h = one_bytes (HeaderToken (made_header name subsection)) (NewlineToken line_end ∷ body) in
    let l = one_bytes (NewlineToken line_end) body in
    let header = header_put_within name subsection in
    let value_put = set_put_within line_end key value (LineEndsItem line_end ∷ []) in
    omega (arith, h, l, header, value_put)

pub put_within : (name : List ℕ) (subsection : Option (List ℕ)) (key : List ℕ) (keeps : Meta → Bool) (value : List ℕ) (state : State)
    → set_raw_value_bytes name subsection key keeps value state ≤ token_bytes (set_raw_value_tokens name subsection key keeps value state)
put_within name subsection key keeps value state = go (last_or None (filter (is_target name subsection keeps) state.sections)) refl
  where
    go : (o : Option SectionState) → last_or None (filter (is_target name subsection keeps) state.sections) ≡ o
        → set_raw_value_bytes name subsection key keeps value state ≤ token_bytes (set_raw_value_tokens name subsection key keeps value state)
    go None is = rw (is, set_raw_value_bytes, set_raw_value_tokens) (section_put_within (file_line_end state) name subsection key value)
    go (Some s) is = rw (is, set_raw_value_bytes, set_raw_value_tokens) (set_put_within (file_line_end state) key value s.items)
