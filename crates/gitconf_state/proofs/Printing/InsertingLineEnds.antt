-- A state that holds nothing is printed as the texts of its tokens, with line endings put after some of them.
use Rattle.std.proofs.Common.{◌≡◌, ℕ, Bool, true, false, List, [], ◌∷◌, ◌++◌, flat_map, map, cond, refl, ap, sym, subst, ◌∙◌, append_assoc, append-nil, inl, inr}
use Rattle.std.proofs.lemmas.Grind.{flat_map-append}
use Rattle.std.proofs.lemmas.List.{map-append}
use Rattle.std.specs.Prelude.{◌==◌}
use Rattle.std.specs.List.{list_any, AllByRecursion}
use Rattle.gitconf_sources.specs.Metadata.{Meta}
use Rattle.gitconf_text.specs.Text.{is_line_end}
use Rattle.gitconf_text.specs.Header.{spelled_header}
use Rattle.gitconf_text.specs.Part.{Item, BlanksItem, LineEndsItem, CommentItem, EntryItem, Part, ItemPart, spelled_item, spelled_part, spelled}
use Rattle.gitconf_text.specs.Token.{Token, CommentToken, HeaderToken, NameToken, ValueToken, NewlineToken, ValueNotDoneToken, ValueDoneToken, WhitespaceToken, SeparatorToken, spelled_token, item_tokens}
use Rattle.gitconf_state.specs.State.{SectionState, State}
use Rattle.gitconf_state.specs.LineEnds.{line_end_of, section_line_end, file_line_end}
use Rattle.gitconf_state.specs.Printing.{line_after, breaks, closed_item, printed_items, begins_on_a_line, unless, behind_header, printed_body, section_parts, ends_with_line, held_items, sections_parts, behind_front, printed}
use Rattle.gitconf_state.specs.Inserted.{Inserted}
use Rattle.gitconf_state.specs.Loads.{section_tokens, state_tokens}
use Rattle.gitconf_state.proofs.Printing.InsertingTexts.{Behind, texts_before, texts_before-append, same_whole, put_text, put_unless, put_item}

-- the line ending that tokens say is one
pub is_told_line_end : (tokens : List Token) → is_line_end (line_end_of tokens) ≡ true
is_told_line_end [] = refl
is_told_line_end (NewlineToken run ∷ tokens) = go (list_any (λ b. b == 13) run)
  where
    go : (t : Bool) → is_line_end (cond t (13 ∷ 10 ∷ []) (10 ∷ [])) ≡ true
    go true = refl
    go false = refl
is_told_line_end (CommentToken tag text ∷ tokens) = is_told_line_end tokens
is_told_line_end (HeaderToken h ∷ tokens) = is_told_line_end tokens
is_told_line_end (NameToken bytes ∷ tokens) = is_told_line_end tokens
is_told_line_end (ValueToken bytes ∷ tokens) = is_told_line_end tokens
is_told_line_end (ValueNotDoneToken bytes ∷ tokens) = is_told_line_end tokens
is_told_line_end (ValueDoneToken bytes ∷ tokens) = is_told_line_end tokens
is_told_line_end (WhitespaceToken bytes ∷ tokens) = is_told_line_end tokens
is_told_line_end (SeparatorToken ∷ tokens) = is_told_line_end tokens

-- parts put together are spelled one after the other
pub spelled-append : (parts others : List Part) → spelled (parts ++ others) ≡ spelled parts ++ spelled others
spelled-append parts others = flat_map-append spelled_part parts others

-- the text of items
abbrev items_text : List Item → List ℕ
items_text items = spelled (map ItemPart items)

-- an item before items as they are printed
put_item_before : (line_end : List ℕ) (i : Item) (tokens : List Token) (items : List Item) (texts : List (List ℕ)) (whole : List ℕ) → is_line_end line_end ≡ true
    → Behind (texts_before tokens texts) (items_text items ++ whole)
    → Inserted (texts_before (item_tokens i ++ tokens) texts) ((spelled_item (closed_item line_end i) ++ items_text items) ++ whole)
put_item_before line_end i tokens items texts whole is_end is =
    subst (λ ts. Inserted ts ((spelled_item (closed_item line_end i) ++ items_text items) ++ whole)) (sym (texts_before-append (item_tokens i) tokens texts))
    (same_whole (texts_before (item_tokens i) (texts_before tokens texts)) _ _
    (put_item line_end i (texts_before tokens texts) (items_text items ++ whole) is_end is)
    (sym (append_assoc (spelled_item (closed_item line_end i)) (items_text items) whole)))

-- items as they are printed, before others; before a name or a comment a line ending may be
put_items : (in_body : Bool) (line_end : List ℕ) (before : List Item) (items : List Item) (texts : List (List ℕ)) (whole : List ℕ) → is_line_end line_end ≡ true → Behind texts whole
    → Behind (texts_before (flat_map item_tokens items) texts) (items_text (printed_items in_body line_end before items) ++ whole)
put_items in_body line_end before [] texts whole is_end is = is
put_items in_body line_end before (i ∷ items) texts whole is_end is =
    go (breaks in_body before i) refl (put_items in_body line_end (line_after [] i) items texts whole is_end is) (put_items in_body line_end (line_after before i) items texts whole is_end is)
  where
    go : (t : Bool) → breaks in_body before i ≡ t
        → Behind (texts_before (flat_map item_tokens items) texts) (items_text (printed_items in_body line_end (line_after [] i) items) ++ whole)
        → Behind (texts_before (flat_map item_tokens items) texts) (items_text (printed_items in_body line_end (line_after before i) items) ++ whole)
        → Behind (texts_before (flat_map item_tokens (i ∷ items)) texts) (items_text (printed_items in_body line_end before (i ∷ items)) ++ whole)
    go true e broken same = rw (e, printed_items) (
        inr (line_end, _, is_end, put_item_before line_end i (flat_map item_tokens items) (printed_items in_body line_end (line_after [] i) items) texts whole is_end broken, append_assoc line_end _ whole))
    go false e broken same = rw (e, printed_items) (
        inl (put_item_before line_end i (flat_map item_tokens items) (printed_items in_body line_end (line_after before i) items) texts whole is_end same))

-- before the first of items no line ending is put
none_first : (in_body : Bool) (i : Item) → breaks in_body [] i ≡ false
none_first in_body (BlanksItem run) = refl
none_first in_body (LineEndsItem run) = refl
none_first in_body (CommentItem tag text) = refl
none_first true (EntryItem e) = refl
none_first false (EntryItem e) = refl

-- the items of a list that is not empty, with no line ending before them
put_first_items : (in_body : Bool) (line_end : List ℕ) (i : Item) (items : List Item) (texts : List (List ℕ)) (whole : List ℕ) → is_line_end line_end ≡ true → Behind texts whole
    → Inserted (texts_before (flat_map item_tokens (i ∷ items)) texts) (items_text (printed_items in_body line_end [] (i ∷ items)) ++ whole)
put_first_items in_body line_end i items texts whole is_end is =
    rw (none_first in_body i, printed_items) (
    put_item_before line_end i (flat_map item_tokens items) (printed_items in_body line_end (line_after [] i) items) texts whole is_end
    (put_items in_body line_end (line_after [] i) items texts whole is_end is))

-- a section's body, after its header
put_body : (line_end : List ℕ) (items : List Item) (texts : List (List ℕ)) (whole : List ℕ) → is_line_end line_end ≡ true → Behind texts whole
    → Behind (texts_before (flat_map item_tokens items) texts) (items_text (behind_header line_end items ++ printed_items true line_end [] items) ++ whole)
put_body line_end [] texts whole is_end is = is
put_body line_end (i ∷ items) texts whole is_end is =
    let body = printed_items true line_end [] (i ∷ items) in
    let given = begins_on_a_line (i ∷ items) in
    subst (λ w. Behind (texts_before (flat_map item_tokens (i ∷ items)) texts) w)
    (sym (append_assoc (items_text (unless given line_end)) (items_text body) whole)
    ∙ ap (λ t. t ++ whole) (sym (ap spelled (map-append ItemPart (unless given line_end) body) ∙ spelled-append (map ItemPart (unless given line_end)) (map ItemPart body))))
    (put_unless given line_end (texts_before (flat_map item_tokens (i ∷ items)) texts) (items_text body ++ whole) is_end (put_first_items true line_end i items texts whole is_end is))

-- a section before others
put_section : (s : SectionState) (texts : List (List ℕ)) (whole : List ℕ) → Behind texts whole → Inserted (texts_before (section_tokens s) texts) (spelled (section_parts s) ++ whole)
put_section s texts whole is =
    same_whole (texts_before (section_tokens s) texts) _ _
    (put_text (spelled_header s.header) (texts_before (flat_map item_tokens s.items) texts) (items_text (printed_body s) ++ whole)
    (put_body (section_line_end s) s.items texts whole (is_told_line_end (flat_map item_tokens s.items)) is))
    (sym (append_assoc (spelled_header s.header) (items_text (printed_body s)) whole))

-- the sections are all printed
abbrev pub all_sections : SectionState → Bool
all_sections s = true

-- a line ending before sections, where one is missing
missing_first : (line_end : List ℕ) (ended : Bool) (sections : List SectionState)
    → spelled (sections_parts all_sections line_end ended sections) ≡ items_text (unless ended line_end) ++ spelled (sections_parts all_sections line_end true sections)
missing_first line_end ended [] = sym (append-nil (items_text (unless ended line_end)))
missing_first line_end ended (s ∷ sections) = spelled-append (map ItemPart (unless ended line_end)) (sections_parts all_sections line_end true (s ∷ sections))

-- sections that hold nothing
put_sections : (line_end : List ℕ) (sections : List SectionState) → is_line_end line_end ≡ true → AllByRecursion (λ s. s.held ≡ []) sections
    → Inserted (texts_before (flat_map section_tokens sections) []) (spelled (sections_parts all_sections line_end true sections))
put_sections line_end [] is_end held = refl
put_sections line_end (s ∷ sections) is_end held =
    let others = sections_parts all_sections line_end (ends_with_line line_end s) sections in
    let texts = texts_before (flat_map section_tokens sections) [] in
    let none : held_items line_end s ≡ [] = rw (held.0, held_items) refl in
    let behind = put_unless (ends_with_line line_end s) line_end texts _ is_end (put_sections line_end sections is_end held.1) in
    let here : Behind texts (spelled others) = subst (λ w. Behind texts w) (sym (missing_first line_end (ends_with_line line_end s) sections)) behind in
    subst (λ ts. Inserted ts (spelled (sections_parts all_sections line_end true (s ∷ sections)))) (sym (texts_before-append (section_tokens s) (flat_map section_tokens sections) []))
    (same_whole (texts_before (section_tokens s) texts) _ _ (put_section s texts (spelled others) here)
    (sym (ap (λ (i : List Item). spelled (section_parts s ++ (map ItemPart i ++ others))) none ∙ spelled-append (section_parts s) others)))

-- a front before sections
put_front : (front : List Item) (meta : Meta) (next used : ℕ) (sections : List SectionState) → AllByRecursion (λ s. s.held ≡ []) sections
    → Inserted (texts_before (flat_map item_tokens front) (texts_before (flat_map section_tokens sections) []))
    (printed (record { front = front; meta = meta; next = next; used = used; sections = sections }))
put_front [] meta next used sections held =
    let state : State = record { front = []; meta = meta; next = next; used = used; sections = sections } in
    put_sections (file_line_end state) sections (is_told_line_end (flat_map item_tokens (flat_map (λ (s : SectionState). s.items) sections))) held
put_front (i ∷ front) meta next used sections held =
    let state : State = record { front = i ∷ front; meta = meta; next = next; used = used; sections = sections } in
    let line_end = file_line_end state in
    let is_end = is_told_line_end (flat_map item_tokens ((i ∷ front) ++ flat_map (λ (s : SectionState). s.items) sections)) in
    let texts = texts_before (flat_map section_tokens sections) [] in
    let whole = spelled (sections_parts all_sections line_end true sections) in
    let items = printed_items false line_end [] (i ∷ front) in
    let between = behind_front all_sections state in
    same_whole (texts_before (flat_map item_tokens (i ∷ front)) texts) _ _
    (put_first_items false line_end i front texts (items_text between ++ whole) is_end (put_unless _ line_end texts whole is_end (put_sections line_end sections is_end held)))
    (regroup items between whole _ (spelled-append (map ItemPart (items ++ between)) (sections_parts all_sections line_end true sections)))
  where
    regroup : (items between : List Item) (whole all : List ℕ) → all ≡ items_text (items ++ between) ++ whole → items_text items ++ (items_text between ++ whole) ≡ all
    regroup items between whole all is =
        sym (append_assoc (items_text items) (items_text between) whole)
        ∙ ap (λ t. t ++ whole) (sym (ap spelled (map-append ItemPart items between) ∙ spelled-append (map ItemPart items) (map ItemPart between)))
        ∙ sym is

-- What is printed of a state that holds nothing is the texts of its tokens, with line endings put in.
pub printed_inserted : (state : State) → AllByRecursion (λ s. s.held ≡ []) state.sections → Inserted (map spelled_token (state_tokens state)) (printed state)
printed_inserted state held =
    subst (λ ts. Inserted ts (printed state))
    (sym (texts_before-append (flat_map item_tokens state.front) (flat_map section_tokens state.sections) []) ∙ append-nil _)
    (put_front state.front state.meta state.next state.used state.sections held)
