-- What editors put into the buffer is no more than the tokens that they make.
use Rattle.std.proofs.Common.{◌≡◌, ℕ, ◌+◌, ◌≤◌, Bool, true, false, List, [], ◌∷◌, ◌++◌, length, filter, not, Option, Some, None, refl, sym, subst, arith, zero-le}
use Rattle.std.specs.Prelude.{flat_map, if◌then◌else◌}
use Rattle.std.specs.List.{last_or, list_any}
use Rattle.gitconf_text.specs.Part.{Assigned, Item, BlanksItem, LineEndsItem, CommentItem, EntryItem}
use Rattle.gitconf_text.specs.Token.{WhitespaceToken, NewlineToken, ValueToken, NameToken, SeparatorToken, item_tokens, filled}
use Rattle.gitconf_text.specs.Value.{escaped}
use Rattle.gitconf_text.specs.Header.{spelled_header}
use Rattle.gitconf_state.specs.Edit.{Spacing, header_bytes, is_entry_of, is_target, leading_item, made_header, token_bytes, value_tokens_of}
use Rattle.gitconf_state.specs.Edits as edits
use Rattle.gitconf_state.specs.Edits.{Edit, between, items_of_numbered, new_bytes, numbered, value_set_tokens}
use Rattle.gitconf_state.specs.Editors as states
use Rattle.gitconf_state.specs.Editors.{comment_made, end_made, entry_made, lacks_line_end, line_made}
use Rattle.gitconf_state.specs.State.{SectionState, State}
use Rattle.gitconf_body.specs.Puts as puts
use Rattle.gitconf_body.specs.Puts.{after_last_bytes, assigned_bytes, changed_bytes, line_bytes, value_set_bytes}
use Rattle.gitconf_body.proofs.Counts.{put_within}
use Rattle.gitconf_state.specs.LineEnds.{file_line_end}
use Rattle.gitconf_store.specs.Appends.{items_before}
use Rattle.gitconf_store.proofs.Files.AppendedFiles.{line_bounded}
use Rattle.gitconf_store.proofs.Headers.HeaderBytes.{header_tokens, headers_tokens}
use Rattle.gitconf_views.proofs.LineBytes.{both_bytes, comment_within, items_bytes, made_bytes, one_bytes, run_bytes}
use Rattle.gitconf_store.specs.Edited.{bytes_in, put_bytes}

-- The tokens of a line that is pushed have these bytes, and more.
leading_fits : (o : Option (List ℕ)) → puts.run_bytes o ≤ token_bytes (flat_map item_tokens (leading_item o))
leading_fits None = omega arith
leading_fits (Some run) = let l = one_bytes (WhitespaceToken run) [] in omega (arith, l)

entry_fits : (spacing : Spacing) (key : List ℕ) (value : Option (List ℕ)) → length key + assigned_bytes spacing value ≤ token_bytes (item_tokens (entry_made spacing key value))
entry_fits spacing key None = let l = one_bytes (NameToken key) (ValueToken [] ∷ []) in omega (arith, l)
entry_fits spacing key (Some value) = let made = made_bytes spacing key value in omega (arith, made)

end_fits : (e : states.Editor) → (if e.ends then length e.line_end else 0) ≤ token_bytes (flat_map item_tokens (end_made e))
end_fits e = go e.ends
  where
    go : (t : Bool) → (if t then length e.line_end else 0) ≤ token_bytes (flat_map item_tokens (if t then LineEndsItem e.line_end ∷ [] else []))
    go true = let l = one_bytes (NewlineToken e.line_end) [] in omega (arith, l)
    go false = omega arith

line_fits : (e : states.Editor) (key : List ℕ) (value comment : Option (List ℕ)) → line_bytes e key value comment ≤ token_bytes (flat_map item_tokens (line_made e key value comment))
line_fits e key value comment =
    let lead = leading_fits e.spacing.leading in
    let entry = entry_fits e.spacing key value in
    let text = comment_within comment in
    let ended = end_fits e in
    let all = items_bytes (leading_item e.spacing.leading) (entry_made e.spacing key value ∷ (comment_made comment ++ end_made e)) in
    let line = both_bytes (item_tokens (entry_made e.spacing key value)) (flat_map item_tokens (comment_made comment ++ end_made e)) in
    let behind = items_bytes (comment_made comment) (end_made e) in
    omega (arith, lead, entry, text, ended, all, line, behind)

-- So do those of a value that is set.
changed_fits : (spacing : Spacing) (value : List ℕ) (i : Item) → changed_bytes spacing value i ≤ token_bytes (value_tokens_of spacing value i)
changed_fits spacing value (BlanksItem run) = omega arith
changed_fits spacing value (LineEndsItem run) = omega arith
changed_fits spacing value (CommentItem tag text) = omega arith
changed_fits spacing value (EntryItem entry) = go entry.assigned refl
  where
    go : (o : Option Assigned) → entry.assigned ≡ o → changed_bytes spacing value (EntryItem entry) ≤ token_bytes (value_tokens_of spacing value (EntryItem entry))
    go (Some a) at = rw at (let v = one_bytes (ValueToken (escaped value)) [] in omega (arith, v))
    go None at =
        let f = both_bytes (filled WhitespaceToken spacing.before) (SeparatorToken ∷ (filled WhitespaceToken spacing.behind ++ ValueToken (escaped value) ∷ [])) in
        let s = one_bytes SeparatorToken (filled WhitespaceToken spacing.behind ++ ValueToken (escaped value) ∷ []) in
        let g = both_bytes (filled WhitespaceToken spacing.behind) (ValueToken (escaped value) ∷ []) in
        let v = one_bytes (ValueToken (escaped value)) [] in
        let first = run_bytes spacing.before in
        let second = run_bytes spacing.behind in
        rw at (omega (arith, f, s, g, v, first, second))

set_fits : (e : states.Editor) (key value : List ℕ) (items : List Item) → value_set_bytes e key value items ≤ token_bytes (value_set_tokens e key value items)
set_fits e key value items = go (last_or None (filter (is_entry_of key) items)) refl
  where
    go : (o : Option Item) → last_or None (filter (is_entry_of key) items) ≡ o → value_set_bytes e key value items ≤ token_bytes (value_set_tokens e key value items)
    go None at = rw (at, value_set_bytes, value_set_tokens) (line_fits e key (Some value) None)
    go (Some i) at = rw (at, value_set_bytes, value_set_tokens) (changed_fits e.spacing value i)

-- So in the section of a number; where no section has it, nothing is put.
in_within : (number : ℕ) (count bound : List Item → ℕ) (state : State) → ((items : List Item) → count items ≤ bound items) → bytes_in number count state ≤ bound (items_of_numbered number state)
in_within number count bound state fits = go (numbered number state)
  where
    go : (o : Option SectionState)
        → (elim o as (λ _. ℕ) [ None ↦ 0 | Some s ↦ count s.items ]) ≤ bound (elim o as (λ _. List Item) [ None ↦ [] | Some s ↦ s.items ])
    go None = zero-le
    go (Some s) = fits s.items

-- What an edit of an editor puts is no more than its tokens have.
pub puts_within : (edit : Edit) (state : State) → put_bytes edit state ≤ new_bytes edit state
puts_within (edits.SetRawValue name subsection key keeps value) state = put_within name subsection key keeps value state
puts_within (edits.Push number editor key value comment) state =
    in_within number (λ items. line_bytes editor key value comment) (λ items. token_bytes (flat_map item_tokens (line_made editor key value comment))) state (λ items. line_fits editor key value comment)
puts_within (edits.PushAfterLast number editor key value) state =
    in_within number (after_last_bytes editor key value) (λ items. token_bytes (flat_map item_tokens (line_made editor key value None)) + (if lacks_line_end items then length editor.line_end else 0)) state
    (λ items. let line = line_fits editor key value None in omega (arith, line))
puts_within (edits.PushLineEnd number editor) state = in_within number (λ items. length editor.line_end) (λ items. length editor.line_end) state (λ items. omega arith)
puts_within (edits.SetValue number editor key value) state = in_within number (value_set_bytes editor key value) (λ items. token_bytes (value_set_tokens editor key value items)) state (set_fits editor key value)
puts_within (edits.Remove number key) state = omega arith
puts_within (edits.RemoveMarked number key marks) state = omega arith
puts_within (edits.Pop number) state = omega arith
puts_within (edits.WriteAt number editor place instead key value) state =
    in_within number (λ items. length key + assigned_bytes editor.spacing (Some value)) (λ items. token_bytes (item_tokens (entry_made editor.spacing key (Some value)))) state (λ items. entry_fits editor.spacing key (Some value))
puts_within (edits.DeleteAt number place) state = omega arith
puts_within (edits.Rename number name subsection) state =
    in_within number (λ items. header_bytes name subsection) (λ items. length (spelled_header (made_header name subsection))) state (λ items. header_tokens name subsection)
puts_within (edits.RenameAll name subsection keeps new_name new_subsection) state = go (list_any (is_target name subsection keeps) state.sections) refl
  where
    all : ℕ
    all = new_bytes (edits.RenameAll name subsection keeps new_name new_subsection) state

    go : (b : Bool) → list_any (is_target name subsection keeps) state.sections ≡ b → put_bytes (edits.RenameAll name subsection keeps new_name new_subsection) state ≤ all
    go true is = subst (λ b. (if not b then 0 else header_bytes new_name new_subsection) ≤ all) (sym is)
        (headers_tokens (is_target name subsection keeps) state.sections (spelled_header (made_header new_name new_subsection)) (header_bytes new_name new_subsection) (header_tokens new_name new_subsection) is)
    go false is = subst (λ b. (if not b then 0 else header_bytes new_name new_subsection) ≤ all) (sym is) zero-le
puts_within (edits.NewSection name subsection) state = let h = header_tokens name subsection in omega (arith, h)
puts_within (edits.PushSection detached) state = omega arith
puts_within (edits.RemoveSection name subsection keeps) state = omega arith
puts_within (edits.RemoveNumbered number) state = omega arith
puts_within (edits.Append other) state =
    let put = line_bounded (file_line_end state) (between (file_line_end state) (items_before state) other.front) in
    omega (arith, put)
puts_within (edits.SetTrust number trust) state = omega arith
puts_within (edits.SetMeta meta) state = omega arith
