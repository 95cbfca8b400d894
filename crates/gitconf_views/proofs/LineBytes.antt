-- A line that is pushed, and a value that is set or written, put no more bytes than their tokens have.
use Rattle.std.proofs.Common.{◌≡◌, ℕ, ◌+◌, ◌≤◌, Bool, true, false, List, [], ◌∷◌, ◌++◌, length, Option, Some, None, refl, ap, ◌∙◌, arith, append-nil, length-append}
use Rattle.std.specs.Prelude.{filter, flat_map, if◌then◌else◌}
use Rattle.std.specs.List.{last_or, list_any}
use Rattle.std.proofs.lemmas.Grind.{flat_map-append}
use Rattle.gitconf_text.specs.Part.{Assigned, Item, BlanksItem, LineEndsItem, CommentItem, EntryItem}
use Rattle.gitconf_text.specs.Token.{Token, WhitespaceToken, NewlineToken, ValueToken, NameToken, SeparatorToken, CommentToken, item_tokens, filled, spelled_token}
use Rattle.gitconf_text.specs.Value.{escaped}
use Rattle.gitconf_state.specs.Edit.{Spacing, is_entry_of, leading_item, spacing_of, token_bytes, value_tokens_of}
use Rattle.gitconf_state.specs.Editors.{comment_made, comment_text, end_made, entry_made, line_made}
use Rattle.gitconf_state.specs.Edits.{value_set_tokens}
use Rattle.gitconf_state.specs.State.{is_entry}
use Rattle.gitconf_text.specs.LineEnds.{bytes_of_line_end}
use Rattle.gitconf_body.specs.declared.editor.Editor.{Editor}
use Rattle.gitconf_body.specs.declared.editor.Leading.{Leading}
use Rattle.gitconf_body.specs.declared.editor.Leading.TheVariants as leadings
use Rattle.gitconf_body.specs.declared.editor.Around.{Around}
use Rattle.gitconf_body.specs.declared.editor.Around.TheVariants as arounds
use Rattle.gitconf_body.specs.Editors.{around_bytes, around_in, around_put, changed_put, comment_put, editor_in, end_put, leading_in, leading_put, line_put, set_put, spacing_in, value_put}
use Rattle.gitconf_body.specs.ValuesAt.{rewritten_put, written_put}

pub both_bytes : (a b : List Token) → token_bytes (a ++ b) ≡ token_bytes a + token_bytes b
both_bytes a b = ap length (flat_map-append spelled_token a b) ∙ length-append (flat_map spelled_token a) (flat_map spelled_token b)

pub one_bytes : (t : Token) (ts : List Token) → token_bytes (t ∷ ts) ≡ length (spelled_token t) + token_bytes ts
one_bytes t ts = length-append (spelled_token t) (flat_map spelled_token ts)

pub items_bytes : (is js : List Item) → token_bytes (flat_map item_tokens (is ++ js)) ≡ token_bytes (flat_map item_tokens is) + token_bytes (flat_map item_tokens js)
items_bytes is js = ap token_bytes (flat_map-append item_tokens is js) ∙ both_bytes (flat_map item_tokens is) (flat_map item_tokens js)

pub run_bytes : (run : List ℕ) → token_bytes (filled WhitespaceToken run) ≡ length run
run_bytes [] = refl
run_bytes (b ∷ run) = ap length (append-nil (b ∷ run))

leading_within : (b : List ℕ) (l : Leading) → leading_put l ≤ token_bytes (flat_map item_tokens (leading_item (leading_in b l)))
leading_within b leadings.Nothing = omega arith
leading_within b (leadings.Stored run) = omega arith
leading_within b (leadings.Given bytes) = let l = one_bytes (WhitespaceToken bytes.now) [] in omega (arith, l)

around_within : (b : List ℕ) (a : Around) → around_put a ≤ length (around_in b a).0 + length (around_in b a).1
around_within b arounds.Spaces = omega arith
around_within b (arounds.Stored before behind) = omega arith
around_within b (arounds.Given before behind) = omega arith

entry_within : (b : List ℕ) (e : Editor) (key : List ℕ) (value : Option (List ℕ))
    → length key + value_put e.around value ≤ token_bytes (item_tokens (entry_made (spacing_in b e) key value))
entry_within b e key None = let l = one_bytes (NameToken key) (ValueToken [] ∷ []) in omega (arith, l)
entry_within b e key (Some value) =
    let before = (around_in b e.around).0 in
    let behind = (around_in b e.around).1 in
    let put = around_within b e.around in
    let n = one_bytes (NameToken key) (filled WhitespaceToken before ++ (SeparatorToken ∷ (filled WhitespaceToken behind ++ ValueToken (escaped value) ∷ []))) in
    let f = both_bytes (filled WhitespaceToken before) (SeparatorToken ∷ (filled WhitespaceToken behind ++ ValueToken (escaped value) ∷ [])) in
    let s = one_bytes SeparatorToken (filled WhitespaceToken behind ++ ValueToken (escaped value) ∷ []) in
    let g = both_bytes (filled WhitespaceToken behind) (ValueToken (escaped value) ∷ []) in
    let v = one_bytes (ValueToken (escaped value)) [] in
    let first = run_bytes before in
    let second = run_bytes behind in
    omega (arith, put, n, f, s, g, v, first, second)

pub comment_within : (comment : Option (List ℕ)) → comment_put comment ≤ token_bytes (flat_map item_tokens (comment_made comment))
comment_within None = omega arith
comment_within (Some text) =
    let w = one_bytes (WhitespaceToken (32 ∷ [])) (CommentToken 35 (comment_text text) ∷ []) in
    let t = one_bytes (CommentToken 35 (comment_text text)) [] in
    omega (arith, w, t)

end_within : (b : List ℕ) (e : Editor) → end_put e ≤ token_bytes (flat_map item_tokens (end_made (editor_in b e)))
end_within b e = go e.ends
  where
    go : (t : Bool) → (if t then length (bytes_of_line_end e.line_end) else 0) ≤ token_bytes (flat_map item_tokens (if t then LineEndsItem (bytes_of_line_end e.line_end) ∷ [] else []))
    go true = let l = one_bytes (NewlineToken (bytes_of_line_end e.line_end)) [] in omega (arith, l)
    go false = omega arith

pub line_within : (b : List ℕ) (e : Editor) (key : List ℕ) (value comment : Option (List ℕ))
    → line_put e key value comment ≤ token_bytes (flat_map item_tokens (line_made (editor_in b e) key value comment))
line_within b e key value comment =
    let lead = leading_within b e.leading in
    let entry = entry_within b e key value in
    let text = comment_within comment in
    let ended = end_within b e in
    let all = items_bytes (leading_item (leading_in b e.leading)) (entry_made (spacing_in b e) key value ∷ (comment_made comment ++ end_made (editor_in b e))) in
    let line = both_bytes (item_tokens (entry_made (spacing_in b e) key value)) (flat_map item_tokens (comment_made comment ++ end_made (editor_in b e))) in
    let behind = items_bytes (comment_made comment) (end_made (editor_in b e)) in
    omega (arith, lead, entry, text, ended, all, line, behind)

-- So does a value that is set.
changed_within : (b : List ℕ) (e : Editor) (value : List ℕ) (i : Item) → changed_put e.around value i ≤ token_bytes (value_tokens_of (spacing_in b e) value i)
changed_within b e value (BlanksItem run) = omega arith
changed_within b e value (LineEndsItem run) = omega arith
changed_within b e value (CommentItem tag text) = omega arith
changed_within b e value (EntryItem entry) = go entry.assigned refl
  where
    go : (o : Option Assigned) → entry.assigned ≡ o → changed_put e.around value (EntryItem entry) ≤ token_bytes (value_tokens_of (spacing_in b e) value (EntryItem entry))
    go (Some a) at = rw at (let v = one_bytes (ValueToken (escaped value)) [] in omega (arith, v))
    go None at =
        let before = (around_in b e.around).0 in
        let behind = (around_in b e.around).1 in
        let put = around_within b e.around in
        let f = both_bytes (filled WhitespaceToken before) (SeparatorToken ∷ (filled WhitespaceToken behind ++ ValueToken (escaped value) ∷ [])) in
        let s = one_bytes SeparatorToken (filled WhitespaceToken behind ++ ValueToken (escaped value) ∷ []) in
        let g = both_bytes (filled WhitespaceToken behind) (ValueToken (escaped value) ∷ []) in
        let v = one_bytes (ValueToken (escaped value)) [] in
        let first = run_bytes before in
        let second = run_bytes behind in
        rw at (omega (arith, put, f, s, g, v, first, second))

pub set_within : (b : List ℕ) (e : Editor) (key value : List ℕ) (items : List Item) → set_put e key value items ≤ token_bytes (value_set_tokens (editor_in b e) key value items)
set_within b e key value items = go (last_or None (filter (is_entry_of key) items)) refl
  where
    go : (o : Option Item) → last_or None (filter (is_entry_of key) items) ≡ o → set_put e key value items ≤ token_bytes (value_set_tokens (editor_in b e) key value items)
    go None at = rw (at, set_put, value_set_tokens) (line_within b e key (Some value) None)
    go (Some i) at = rw (at, set_put, value_set_tokens) (changed_within b e value i)

-- So does an entry that is written at a place.
pub made_bytes : (s : Spacing) (key value : List ℕ)
    → token_bytes (item_tokens (entry_made s key (Some value))) ≡ length key + (length s.before + (1 + (length s.behind + length (escaped value))))
made_bytes s key value =
    let n = one_bytes (NameToken key) (filled WhitespaceToken s.before ++ (SeparatorToken ∷ (filled WhitespaceToken s.behind ++ ValueToken (escaped value) ∷ []))) in
    let f = both_bytes (filled WhitespaceToken s.before) (SeparatorToken ∷ (filled WhitespaceToken s.behind ++ ValueToken (escaped value) ∷ [])) in
    let o = one_bytes SeparatorToken (filled WhitespaceToken s.behind ++ ValueToken (escaped value) ∷ []) in
    let g = both_bytes (filled WhitespaceToken s.behind) (ValueToken (escaped value) ∷ []) in
    let v = one_bytes (ValueToken (escaped value)) [] in
    let first = run_bytes s.before in
    let second = run_bytes s.behind in
    omega (arith, n, f, o, g, v, first, second)

pub written_within : (b : List ℕ) (e : Editor) (key value : List ℕ) → written_put e key value ≤ token_bytes (item_tokens (entry_made (spacing_in b e) key (Some value)))
written_within b e key value = entry_within b e key (Some value)

pub rewritten_within : (key value : List ℕ) (items : List Item) → rewritten_put key value items ≤ token_bytes (item_tokens (entry_made (spacing_of items) key (Some value)))
rewritten_within key value items = let made = made_bytes (spacing_of items) key value in let put = around (list_any is_entry items) refl in omega (arith, made, put)
  where
    around : (t : Bool) → list_any is_entry items ≡ t → around_bytes items ≤ length (spacing_of items).before + 1
    around true is = rw is (omega arith)
    around false is = rw is (omega arith)
