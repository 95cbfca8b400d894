-- Texts with line endings put in, from the last one on: a text goes before others, and between them a line ending may be.
use Rattle.std.proofs.Common.{◌≡◌, ℕ, Bool, true, false, List, [], ◌∷◌, ◌++◌, flat_map, map, Option, Some, None, refl, ap, sym, subst, ◌∙◌, append_assoc, append-nil, inl, inr}
use Rattle.std.specs.Prelude.{◌⊎◌}
use Rattle.std.proofs.lemmas.List.{map-append}
use Rattle.gitconf_text.specs.Text.{is_line_end}
use Rattle.gitconf_text.specs.Value.{Piece}
use Rattle.gitconf_text.specs.Part.{Assigned, Item, BlanksItem, LineEndsItem, CommentItem, EntryItem, ItemPart, spelled_assigned, spelled_item, spelled}
use Rattle.gitconf_text.specs.Token.{Token, ValueDoneToken, NewlineToken, WhitespaceToken, spelled_token, filled, piece_tokens, value_tokens, assigned_tokens, item_tokens}
use Rattle.gitconf_state.specs.Printing.{closed_piece, closed_assigned, closed_item, unless}
use Rattle.gitconf_state.specs.Inserted.{Inserted}

-- the same, where a line ending may come before them all too
abbrev pub Behind : (texts : List (List ℕ)) → (whole : List ℕ) → Type 0
Behind texts whole = Inserted texts whole ⊎ ((line_end : List ℕ) × (rest : List ℕ) × (is_line_end line_end ≡ true) × Inserted texts rest × (whole ≡ line_end ++ rest))

-- the texts of tokens, before others
abbrev pub texts_before : List Token → List (List ℕ) → List (List ℕ)
texts_before tokens texts = map spelled_token tokens ++ texts

-- tokens put together have their texts one after the other
pub texts_before-append : (tokens others : List Token) (texts : List (List ℕ)) → texts_before (tokens ++ others) texts ≡ texts_before tokens (texts_before others texts)
texts_before-append tokens others texts = ap (λ t. t ++ texts) (map-append spelled_token tokens others) ∙ append_assoc (map spelled_token tokens) (map spelled_token others) texts

-- texts put in a whole are in the same whole, written another way
pub same_whole : (texts : List (List ℕ)) (whole other : List ℕ) → Inserted texts whole → whole ≡ other → Inserted texts other
same_whole texts whole other is same = subst (λ w. Inserted texts w) same is

-- a text before others
pub put_text : (text : List ℕ) (texts : List (List ℕ)) (whole : List ℕ) → Behind texts whole → Inserted (text ∷ texts) (text ++ whole)
put_text text texts whole (inl is) = (whole, is, inl refl)
put_text text texts whole (inr more) = (more.1, more.3, inr (more.0, more.2, ap (λ t. text ++ t) more.4))

-- a line ending before others
pub put_line_end : (line_end : List ℕ) (texts : List (List ℕ)) (whole : List ℕ) → is_line_end line_end ≡ true → Inserted texts whole → Behind texts (line_end ++ whole)
put_line_end line_end texts whole is_end is = inr (line_end, whole, is_end, is, refl)

-- a line ending, where one is missing
pub put_unless : (given : Bool) (line_end : List ℕ) (texts : List (List ℕ)) (whole : List ℕ) → is_line_end line_end ≡ true → Inserted texts whole
    → Behind texts (spelled (map ItemPart (unless given line_end)) ++ whole)
put_unless true line_end texts whole is_end is = inl is
put_unless false line_end texts whole is_end is = inr (line_end, whole, is_end, is, ap (λ t. t ++ whole) (append-nil line_end))

-- blanks, which have a token if there are some
put_blanks : (run : List ℕ) (texts : List (List ℕ)) (whole : List ℕ) → Inserted texts whole → Inserted (texts_before (filled WhitespaceToken run) texts) (run ++ whole)
put_blanks [] texts whole is = is
put_blanks (b ∷ run) texts whole is = put_text (b ∷ run) texts whole (inl is)

-- the text of a value after its first piece, put together another way
regroup : (text line_end pieces last whole : List ℕ)
    → (text ++ 92 ∷ []) ++ (line_end ++ ((pieces ++ last) ++ whole)) ≡ (((text ++ 92 ∷ line_end) ++ pieces) ++ last) ++ whole
regroup text line_end pieces last whole = simp append_assoc

-- a piece, which gets a line ending if it has none
put_piece : (line_end : List ℕ) (p : Piece) (others : List Token) (texts : List (List ℕ)) (whole : List ℕ) → is_line_end line_end ≡ true → Inserted (texts_before others texts) whole
    → Inserted (texts_before (piece_tokens p ++ others) texts) ((p.text ++ 92 ∷ []) ++ ((closed_piece line_end p).line_end ++ whole))
put_piece line_end p others texts whole is_end is = put_text (p.text ++ 92 ∷ []) (texts_before (filled NewlineToken p.line_end ++ others) texts) _ (go p.line_end)
  where
    go : (own : List ℕ) → Behind (texts_before (filled NewlineToken own ++ others) texts) ((closed_piece line_end (record { text = p.text; line_end = own })).line_end ++ whole)
    go [] = put_line_end line_end (texts_before others texts) whole is_end is
    go (b ∷ bytes) = inl (put_text (b ∷ bytes) (texts_before others texts) whole (inl is))

-- the text of a piece stays
closed_text : (line_end : List ℕ) (p : Piece) → (closed_piece line_end p).text ≡ p.text
closed_text line_end p = go p.line_end
  where
    go : (own : List ℕ) → (closed_piece line_end (record { text = p.text; line_end = own })).text ≡ p.text
    go [] = refl
    go (b ∷ bytes) = refl

-- pieces as they are spelled
abbrev spelled_pieces : List Piece → List ℕ
spelled_pieces pieces = flat_map (λ (p : Piece). p.text ++ 92 ∷ p.line_end) pieces

-- pieces and the last one before others
put_pieces : (line_end : List ℕ) (pieces : List Piece) (last : List ℕ) (texts : List (List ℕ)) (whole : List ℕ) → is_line_end line_end ≡ true → Behind texts whole
    → Inserted (texts_before (flat_map piece_tokens pieces ++ ValueDoneToken last ∷ []) texts) ((spelled_pieces (map (closed_piece line_end) pieces) ++ last) ++ whole)
put_pieces line_end [] last texts whole is_end is = put_text last texts whole is
put_pieces line_end (p ∷ pieces) last texts whole is_end is =
    let done = ValueDoneToken last ∷ [] in
    let others = flat_map piece_tokens pieces ++ done in
    let more = spelled_pieces (map (closed_piece line_end) pieces) in
    let c = closed_piece line_end p in
    subst (λ ts. Inserted (texts_before ts texts) ((((c.text ++ 92 ∷ c.line_end) ++ more) ++ last) ++ whole)) (sym (append_assoc (piece_tokens p) (flat_map piece_tokens pieces) done))
    (same_whole (texts_before (piece_tokens p ++ others) texts) _ _
    (put_piece line_end p others texts ((more ++ last) ++ whole) is_end (put_pieces line_end pieces last texts whole is_end is))
    (regroup p.text c.line_end more last whole ∙ ap (λ t. (((t ++ 92 ∷ c.line_end) ++ more) ++ last) ++ whole) (sym (closed_text line_end p))))

-- a value before others
put_value : (line_end : List ℕ) (pieces : List Piece) (last : List ℕ) (texts : List (List ℕ)) (whole : List ℕ) → is_line_end line_end ≡ true → Behind texts whole
    → Inserted (texts_before (value_tokens pieces last) texts) ((spelled_pieces (map (closed_piece line_end) pieces) ++ last) ++ whole)
put_value line_end [] last texts whole is_end is = put_text last texts whole is
put_value line_end (p ∷ pieces) last texts whole is_end is = put_pieces line_end (p ∷ pieces) last texts whole is_end is

-- what is assigned, or the empty value without `=`, before others
put_assigned : (line_end : List ℕ) (assigned : Option Assigned) (texts : List (List ℕ)) (whole : List ℕ) → is_line_end line_end ≡ true → Behind texts whole
    → Inserted (texts_before (assigned_tokens assigned) texts) (spelled_assigned (closed_assigned line_end assigned) ++ whole)
put_assigned line_end None texts whole is_end is = put_text [] texts whole is
put_assigned line_end (Some a) texts whole is_end is =
    let value = value_tokens a.value.pieces a.value.last in
    let text = spelled_pieces (map (closed_piece line_end) a.value.pieces) ++ a.value.last in
    let behind = put_blanks a.blanks (texts_before value texts) (text ++ whole) (put_value line_end a.value.pieces a.value.last texts whole is_end is) in
    let here = subst (λ ts. Inserted ts (a.blanks ++ (text ++ whole))) (sym (texts_before-append (filled WhitespaceToken a.blanks) value texts)) behind in
    same_whole (texts_before (assigned_tokens (Some a)) texts) _ _ (put_text (61 ∷ []) (texts_before (filled WhitespaceToken a.blanks ++ value) texts) (a.blanks ++ (text ++ whole)) (inl here))
    (ap (λ t. 61 ∷ t) (sym (append_assoc a.blanks text whole)))

-- An item's tokens before others.
pub put_item : (line_end : List ℕ) (i : Item) (texts : List (List ℕ)) (whole : List ℕ) → is_line_end line_end ≡ true → Behind texts whole
    → Inserted (texts_before (item_tokens i) texts) (spelled_item (closed_item line_end i) ++ whole)
put_item line_end (BlanksItem run) texts whole is_end is = put_text run texts whole is
put_item line_end (LineEndsItem run) texts whole is_end is = put_text run texts whole is
put_item line_end (CommentItem tag text) texts whole is_end is = put_text (tag ∷ text) texts whole is
put_item line_end (EntryItem e) texts whole is_end is =
    let assigned = assigned_tokens e.assigned in
    let text = spelled_assigned (closed_assigned line_end e.assigned) in
    let behind = put_blanks e.blanks (texts_before assigned texts) (text ++ whole) (put_assigned line_end e.assigned texts whole is_end is) in
    let here = subst (λ ts. Inserted ts (e.blanks ++ (text ++ whole))) (sym (texts_before-append (filled WhitespaceToken e.blanks) assigned texts)) behind in
    same_whole (texts_before (item_tokens (EntryItem e)) texts) _ _ (put_text e.name (texts_before (filled WhitespaceToken e.blanks ++ assigned) texts) (e.blanks ++ (text ++ whole)) (inl here)) (regroup_entry e.name e.blanks text whole)
  where
    regroup_entry : (name blanks text whole : List ℕ) → name ++ (blanks ++ (text ++ whole)) ≡ (name ++ (blanks ++ text)) ++ whole
    regroup_entry name blanks text whole = simp append_assoc
